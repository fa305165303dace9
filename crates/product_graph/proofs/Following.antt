-- Rows of followers, symbol by symbol.
use Rattle.std.proofs.Common.{◌≡◌, ◌<◌, ◌⊎◌, inl, inr, ◌+◌, ℕ, suc, List, [], ◌∷◌, ◌++◌, length, map, get_or, slice_get, Contains, Option, None, Some, MatchOption, option_map, refl, sym, ◌∙◌, ap, subst, arith}
use Rattle.std.specs.Prelude.{⊤}
use Rattle.std.specs.List.{AllByRecursion}
use Rattle.merlin_model.specs.declared.policy.Symbol.{Symbol}
use Rattle.merlin_model.specs.declared.network.Location.{Location}
use Rattle.merlin_model.specs.Networks.{Network, places_of, IsHost}
use Rattle.merlin_model.specs.Words.{at, IsSymbol, MayFollow}
use Rattle.merlin_model.proofs.Members.{in_to}
use Rattle.path_automaton.proofs.Building.{get-below, get-in}
use Rattle.product_graph.specs.Inside.{HaveRows, numbers_after}
use Rattle.product_graph.specs.Followers.{AreOrderedSymbols, AreSymbolsAmong, MayGoOn, IsFollowerRow, AreFollowerRows}
use Rattle.product_graph.proofs.Lists.{some-same, below_or_at, all-map, all-snoc, pairwise-snoc, all-at, all-from, map-length, each-more, contains-none, contains-snoc, contains-left, contains-last}

module _ (net : Network) (symbols : List Symbol) (loc : ℕ) where
  pub row-start : IsFollowerRow net symbols loc 0 []
  row-start = record {
    each = λ j. (λ h. absurd (contains-none j h), λ h. let lt : j < 0 = h.0 in absurd (omega (arith, lt)));
    below = tt;
    ascends = tt;
  }

  module _ (n : ℕ) (row : List ℕ) (r : IsFollowerRow net symbols loc n row) where
    wider : AllByRecursion (λ k. k < n + 1) row
    wider = all-map (λ k. k < n) (λ k. k < n + 1) (λ k lt. omega (arith, lt)) row r.below

    pub row-with : MayGoOn net symbols loc n → IsFollowerRow net symbols loc (n + 1) (row ++ n ∷ [])
    row-with f = record {
      each = λ j. (λ h. there j (contains-snoc row n j h), λ h. back j h.0 h.1);
      below = all-snoc (λ k. k < n + 1) row n wider (omega arith);
      ascends = pairwise-snoc (λ u v. u < v) row n r.below r.ascends;
    }
      where
        there : (j : ℕ) → Contains row j ⊎ (j ≡ n) → (j < n + 1) × MayGoOn net symbols loc j
        there j (inl i) = let old = (r.each j).0 i in let lt : j < n = old.0 in (omega arith, old.1)
        there j (inr e) = (omega (arith, e), subst (MayGoOn net symbols loc) (sym e) f)

        back : (j : ℕ) → j < n + 1 → MayGoOn net symbols loc j → Contains (row ++ n ∷ []) j
        back j lt g = on (below_or_at n j lt)
          where
            on : (j < n) ⊎ (j ≡ n) → Contains (row ++ n ∷ []) j
            on (inl l) = contains-left row (n ∷ []) j ((r.each j).1 (l, g))
            on (inr e) = subst (Contains (row ++ n ∷ [])) (sym e) (contains-last row n)

    pub row-without : (¬ MayGoOn net symbols loc n) → IsFollowerRow net symbols loc (n + 1) row
    row-without f = record {
      each = λ j. (λ h. let old = (r.each j).0 h in let lt : j < n = old.0 in (omega arith, old.1), λ h. back j h.0 h.1);
      below = wider;
      ascends = r.ascends;
    }
      where
        back : (j : ℕ) → j < n + 1 → MayGoOn net symbols loc j → Contains row j
        back j lt g = on (below_or_at n j lt)
          where
            on : (j < n) ⊎ (j ≡ n) → Contains row j
            on (inl l) = (r.each j).1 (l, g)
            on (inr e) = absurd (f (subst (MayGoOn net symbols loc) e g))

  -- what the test of a symbol says
  pub goes-is : (n : ℕ) (y : Symbol) → slice_get symbols n ≡ Some y → MayFollow net (at loc, at y.loc) × (¬ IsHost net y.loc) → MayGoOn net symbols loc n
  goes-is n y e h = (y, e, h.0, h.1)

  pub goes-not : (n : ℕ) (y : Symbol) → slice_get symbols n ≡ Some y → (¬ (MayFollow net (at loc, at y.loc) × (¬ IsHost net y.loc))) → ¬ MayGoOn net symbols loc n
  goes-not n y e h f = let same : f.0 ≡ y = some-same (sym f.1 ∙ e) in h (subst (λ z. MayFollow net (at loc, at z.loc)) same f.2, subst (λ z. ¬ IsHost net z.loc) same f.3)

pub rows-more : (net : Network) (symbols : List Symbol) (rows : List (List ℕ)) (row : List ℕ) → AreFollowerRows net symbols rows → IsFollowerRow net symbols (length rows) (length symbols) row → AreFollowerRows net symbols (rows ++ row ∷ [])
rows-more net symbols rows row h r = each-more (λ loc l. IsFollowerRow net symbols loc (length symbols) l) [] rows row h r

-- a symbol's location is one of the network
pub symbol-within : (net : Network) (x : Symbol) → IsSymbol net x → x.loc < length net.locations
symbol-within net x h = by (slice_get net.locations x.loc) refl h
  where
    by : (o : Option Location) → slice_get net.locations x.loc ≡ o → MatchOption (option_map (λ l. l.kind) o) ⊥ (λ _. MatchOption x.fun ⊤ (λ f. MatchOption (places_of net f) ⊥ (λ places. Contains places x.loc))) → x.loc < length net.locations
    by None e i = absurd i
    by (Some l) e i = get-below net.locations x.loc l e

pub symbols-among : (net : Network) (symbols : List Symbol) → AreOrderedSymbols net symbols → AreSymbolsAmong (length net.locations) symbols
symbols-among net symbols are = all-from (λ x. x.loc < length net.locations) symbols (λ k x e. symbol-within net x ((are.each x).0 (in_to symbols x (get-in symbols k x e))))

all-rows : (P : List ℕ → Type 0) (rows : List (List ℕ)) → ((loc : ℕ) → loc < length rows → P (get_or rows loc [])) → AllByRecursion P rows
all-rows P [] h = tt
all-rows P (row ∷ rows) h = (h 0 (omega arith), all-rows P rows (λ loc lt. h (suc loc) (omega arith)))

all-places : (n : ℕ) (symbols : List Symbol) → AllByRecursion (λ x. x.loc < n) symbols → AllByRecursion (λ loc. loc < n) (map (λ x. x.loc) symbols)
all-places n [] h = tt
all-places n (x ∷ symbols) h = (h.0, all-places n symbols h.1)

pub have-rows : (net : Network) (symbols : List Symbol) (rows : List (List ℕ)) (places : List ℕ) → AreOrderedSymbols net symbols → places ≡ map (λ x. x.loc) symbols → length rows ≡ length net.locations → AreFollowerRows net symbols rows → HaveRows rows places
have-rows net symbols rows places are same count each =
    let long : length places ≡ length symbols = ap length same ∙ map-length (λ x. x.loc) symbols in
    record {
      below = all-rows (λ row. AllByRecursion (λ k. k < length places) row) rows (λ loc lt. subst (λ n. AllByRecursion (λ k. k < n) (get_or rows loc [])) (sym long) (each loc lt).below);
      within = subst (AllByRecursion (λ loc. loc < length rows)) (sym same) (all-places (length rows) symbols (subst (λ n. AllByRecursion (λ x. x.loc < n) symbols) (sym count) (symbols-among net symbols are)));
    }

pub row-below : (rows : List (List ℕ)) (places : List ℕ) → HaveRows rows places → (k : ℕ) → k < length places → AllByRecursion (λ j. j < length places) (numbers_after rows places k)
row-below rows places h k lt =
    let place : get_or places k 0 < length rows = all-at (λ loc. loc < length rows) places k 0 lt h.within in
    all-at (λ row. AllByRecursion (λ j. j < length places) row) rows (get_or places k 0) [] place h.below

pub place-within : (rows : List (List ℕ)) (places : List ℕ) → HaveRows rows places → (k : ℕ) → k < length places → get_or places k 0 < length rows
place-within rows places h k lt = all-at (λ loc. loc < length rows) places k 0 lt h.within
