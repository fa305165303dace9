-- Trails are walks, and walks trails.
use Rattle.std.proofs.Common.{◌≡◌, ◌≢◌, ◌<◌, ◌≤◌, ◌⊎◌, inl, inr, ◌↔◌, ◌+◌, ℕ, suc, zero, Bool, true, false, nat_lt, List, [], ◌∷◌, length, map, slice_get, Contains, Option, None, Some, MatchOption, option_map, refl, sym, ◌∙◌, ap, subst, arith}
use Rattle.std.specs.List.{AllByRecursion, slice_index_or}
use Rattle.std.proofs.lemmas.Option.{get_or_from_slice_get}
use Rattle.merlin_model.specs.declared.policy.Symbol.{Symbol}
use Rattle.std.specs.Prelude.{⊤}
use Rattle.merlin_model.specs.declared.network.Location.{Location}
use Rattle.merlin_model.specs.Networks.{Network, places_of, IsHost, AreDifferent}
use Rattle.merlin_model.specs.Words.{at, IsSymbol, MayFollow, GoesOn, WalksFrom}
use Rattle.merlin_model.proofs.WordLaws.{walk-goes_on, goes_on-walk}
use Rattle.merlin_model.proofs.Members.{In, in_from, in_to}
use Rattle.path_automaton.specs.Automata.{AutomatonTables, step, accepts, state_after_numbers, number_in}
use Rattle.path_automaton.proofs.Building.{get-below, below-get, get-in, get-map}
use Rattle.path_automaton.proofs.Listed.{number-at}
use Rattle.language_check.specs.declared.ways.Ways.{Ways}
use Rattle.language_check.specs.Inclusion.{accepts_word, IsIncluded, IsStrayWalk, IsLeastStrayWalk, symbol_at, forwards, IsBelowAtDifference, IsLessWord}
use Rattle.language_check.specs.Trails.{Grounds, IsTrail, state_at, triple_at, Strays, IsLessTrail, IsNoMoreTrail, IsLeastTrail}
use Rattle.language_check.specs.Ways.{AreSymbolsOf, place_in, followers_in, may_end_after, grounds_of, IsFollower, IsRowAt, AreWaysOf}

some-same : {X : Type 0} {a b : X} → Some a ≡ Some b → a ≡ b
some-same e = cc

-- each symbol stands at one place of a list of different ones
one-place : (xs : List Symbol) → AreDifferent xs → (i j : ℕ) (x : Symbol) → slice_get xs i ≡ Some x → slice_get xs j ≡ Some x → i ≡ j
one-place [] h i j x ei ej = cc
one-place (y ∷ xs) h zero zero x ei ej = refl
one-place (y ∷ xs) h zero (suc j) x ei ej = absurd (other xs h.0 j x ej (some-same ei))
  where
    other : (zs : List Symbol) → AllByRecursion (λ v. y ≢ v) zs → (j : ℕ) (x : Symbol) → slice_get zs j ≡ Some x → y ≡ x → ⊥
    other [] g j x e same = cc
    other (z ∷ zs) g zero x e same = g.0 (same ∙ sym (some-same e))
    other (z ∷ zs) g (suc j) x e same = other zs g.1 j x e same
one-place (y ∷ xs) h (suc i) zero x ei ej = absurd (other xs h.0 i x ei (some-same ej))
  where
    other : (zs : List Symbol) → AllByRecursion (λ v. y ≢ v) zs → (j : ℕ) (x : Symbol) → slice_get zs j ≡ Some x → y ≡ x → ⊥
    other [] g j x e same = cc
    other (z ∷ zs) g zero x e same = g.0 (same ∙ sym (some-same e))
    other (z ∷ zs) g (suc j) x e same = other zs g.1 j x e same
one-place (y ∷ xs) h (suc i) (suc j) x ei ej = ap suc (one-place xs h.1 i j x ei ej)

-- a symbol's location is one of the network
pub symbol-within : (net : Network) (x : Symbol) → IsSymbol net x → x.loc < length net.locations
symbol-within net x h = by (slice_get net.locations x.loc) refl h
  where
    by : (o : Option Location) → slice_get net.locations x.loc ≡ o → MatchOption (option_map (λ l. l.kind) o) ⊥ (λ _. MatchOption x.fun ⊤ (λ f. MatchOption (places_of net f) ⊥ (λ places. Contains places x.loc))) → x.loc < length net.locations
    by None e i = absurd i
    by (Some l) e i = get-below net.locations x.loc l e

-- The order of words.

abbrev numbers_behind : List ℕ → List ℕ → List ℕ
numbers_behind [] rest = rest
numbers_behind (k ∷ u) rest = numbers_behind u (k ∷ rest)

same-front : (u r t : List ℕ) → IsBelowAtDifference r t → IsBelowAtDifference (numbers_behind u r) (numbers_behind u t)
same-front [] r t h = h
same-front (k ∷ u) r t h = same-front u (k ∷ r) (k ∷ t) (inr (refl, h))

below : (u v : List ℕ) → length u ≡ length v → IsLessTrail u v → (r t : List ℕ) → IsBelowAtDifference (numbers_behind u r) (numbers_behind v t)
below [] [] e h r t = absurd h
below [] (y ∷ v) e h r t = absurd (omega (arith, e))
below (x ∷ u) [] e h r t = absurd h
below (x ∷ u) (y ∷ v) e (inl h) r t = below u v (omega arith) h (x ∷ r) (y ∷ t)
below (x ∷ u) (y ∷ v) e (inr h) r t = subst (λ z. IsBelowAtDifference (numbers_behind u (x ∷ r)) (numbers_behind z (y ∷ t))) h.0 (same-front u (x ∷ r) (y ∷ t) (inl h.1))

no_longer : (u v : List ℕ) → IsLessTrail u v → length u ≤ length v
no_longer [] [] h = absurd h
no_longer [] (y ∷ v) h = omega arith
no_longer (x ∷ u) [] h = absurd h
no_longer (x ∷ u) (y ∷ v) (inl h) = let le = no_longer u v h in omega arith
no_longer (x ∷ u) (y ∷ v) (inr h) = let same = ap length h.0 in omega arith

word-length : (symbols : List Symbol) (u : List ℕ) (rest : List Symbol) → length (forwards symbols u rest) ≡ length u + length rest
word-length symbols [] rest = omega arith
word-length symbols (k ∷ u) rest = let more = word-length symbols u (symbol_at symbols k ∷ rest) in omega arith

module _ (symbols : List Symbol) (once : AreDifferent symbols) where
  number-of : (k : ℕ) → k < length symbols → number_in symbols (symbol_at symbols k) ≡ k
  number-of k lt =
      let x = below-get symbols k lt in
      let same : symbol_at symbols k ≡ x.0 = get_or_from_slice_get symbols k x.0 (at 0) x.1 in
      one-place symbols once (number_in symbols (symbol_at symbols k)) k x.0
      (ap (λ y. slice_get symbols (number_in symbols y)) same ∙ number-at symbols x.0 (get-in symbols k x.0 x.1)) x.1

  abbrev AreBelowAll : List ℕ → Type 0
  AreBelowAll u = AllByRecursion (λ k. k < length symbols) u

  numbers-of : (u : List ℕ) → AreBelowAll u → (rest : List Symbol) → map (number_in symbols) (forwards symbols u rest) ≡ numbers_behind u (map (number_in symbols) rest)
  numbers-of [] h rest = refl
  numbers-of (k ∷ u) h rest = numbers-of u h.1 (symbol_at symbols k ∷ rest) ∙ ap (λ z. numbers_behind u (z ∷ map (number_in symbols) rest)) (number-of k h.0)

  less-word : (u v : List ℕ) → AreBelowAll u → AreBelowAll v → IsLessTrail u v → (z : Symbol) → IsLessWord symbols (forwards symbols u (z ∷ [])) (forwards symbols v (z ∷ []))
  less-word u v hu hv h z = by (nat_lt (length u) (length v)) refl
    where
      by : (b : Bool) → nat_lt (length u) (length v) ≡ b → IsLessWord symbols (forwards symbols u (z ∷ [])) (forwards symbols v (z ∷ []))
      by true e =
          let lt : length u < length v = grind arith in
          let one = word-length symbols u (z ∷ []) in
          let two = word-length symbols v (z ∷ []) in
          inl (omega arith)
      by false e =
          let ge : length v ≤ length u = grind arith in
          let le = no_longer u v h in
          let same : length u ≡ length v = omega arith in
          let one = word-length symbols u (z ∷ []) in
          let two = word-length symbols v (z ∷ []) in
          inr (
            omega arith,
            subst (λ l. IsBelowAtDifference l (map (number_in symbols) (forwards symbols v (z ∷ [])))) (sym (numbers-of u hu (z ∷ [])))
                (subst (IsBelowAtDifference (numbers_behind u (number_in symbols z ∷ []))) (sym (numbers-of v hv (z ∷ []))) (below u v same h (number_in symbols z ∷ []) (number_in symbols z ∷ []))),
          )

  -- the state after a word is that after its trail
  behind : (t : AutomatonTables) (u : List ℕ) (ks : List ℕ) → state_after_numbers t 0 (numbers_behind u ks) ≡ state_after_numbers t (state_at t u) ks
  behind t [] ks = refl
  behind t (k ∷ u) ks = behind t u (k ∷ ks)

  accepts-is : (t : AutomatonTables) (u : List ℕ) → AreBelowAll u → (z : Symbol) → accepts_word symbols t (forwards symbols u (z ∷ [])) ≡ accepts t (step t (state_at t u) (number_in symbols z))
  accepts-is t u h z = ap (λ ks. accepts t (state_after_numbers t 0 ks)) (numbers-of u h (z ∷ [])) ∙ ap (accepts t) (behind t u (number_in symbols z ∷ []))

-- Trails and walks.

module _ (net : Network) (symbols : List Symbol) (are : AreSymbolsOf net symbols) (s d : ℕ) (ways : Ways) (w : AreWaysOf net symbols s d ways) (hs : IsHost net s) (hd : IsHost net d)
    (a b : AutomatonTables) where
  abbrev g : Grounds
  g = grounds_of ways a b

  number-symbol : (k : ℕ) (x : Symbol) → slice_get symbols k ≡ Some x → IsSymbol net x
  number-symbol k x e = (are.each x).0 (in_to symbols x (get-in symbols k x e))

  place-is : (k : ℕ) (x : Symbol) → slice_get symbols k ≡ Some x → place_in ways k ≡ x.loc
  place-is k x e = ap (λ l. slice_index_or l k 0) w.places ∙ get_or_from_slice_get (map (λ y. y.loc) symbols) k x.loc 0 (get-map (λ y. y.loc) symbols k x e)

  follower : (j : ℕ) (x : Symbol) → slice_get symbols j ≡ Some x → (k : ℕ) → Contains (followers_in ways j) k ↔ ((k < length symbols) × IsFollower net symbols x.loc k)
  follower j x e k =
      let lt = symbol-within net x (number-symbol j x e) in
      let count = w.count in
      let row : IsRowAt net symbols x.loc (length symbols) (slice_index_or ways.rows x.loc []) = w.rows x.loc (omega arith) in
      subst (λ loc. Contains (slice_index_or ways.rows loc []) k ↔ ((k < length symbols) × IsFollower net symbols x.loc k)) (sym (place-is j x e)) (row.each k)

  may-end : (k : ℕ) (x : Symbol) → slice_get symbols k ≡ Some x → (may_end_after ways k ≡ true) ↔ MayFollow net (at x.loc, at d)
  may-end k x e =
      subst (λ loc. (slice_index_or ways.last loc false ≡ true) ↔ MayFollow net (at x.loc, at d)) (sym (place-is k x e)) (w.last x.loc (let lt = symbol-within net x (number-symbol k x e) in let count = w.count in let long = w.whole.last in omega arith))

  trail-symbol : (k : ℕ) (u : List ℕ) → IsTrail g (k ∷ u) → (x : Symbol) × (slice_get symbols k ≡ Some x)
  trail-symbol k [] h = (at s, ap (slice_get symbols) h ∙ w.start)
  trail-symbol k (j ∷ u) h =
      let x = trail-symbol j u h.1 in
      let f = ((follower j x.0 x.1 k).0 h.0).1 in
      (f.0, f.1)

  trail-below : (u : List ℕ) → IsTrail g u → AllByRecursion (λ k. k < length symbols) u
  trail-below [] h = absurd h
  trail-below (k ∷ []) h = let x = trail-symbol k [] h in (get-below symbols k x.0 x.1, tt)
  trail-below (k ∷ j ∷ u) h = let x = trail-symbol k (j ∷ u) h in (get-below symbols k x.0 x.1, trail-below (j ∷ u) h.1)

  goes-on : (x y : Symbol) (rest : List Symbol) → MayFollow net (x, y) → IsSymbol net y → (¬ IsHost net y.loc) → GoesOn net d y rest → GoesOn net d x (y ∷ rest)
  goes-on x y [] m i n h = absurd h
  goes-on x y (z ∷ rest) m i n h = (m, i, n, h)

  symbol-is : (k : ℕ) (x : Symbol) → slice_get symbols k ≡ Some x → symbol_at symbols k ≡ x
  symbol-is k x e = get_or_from_slice_get symbols k x (at 0) e

  trail-walks : (k : ℕ) (u : List ℕ) → IsTrail g (k ∷ u) → (x : Symbol) → slice_get symbols k ≡ Some x → (rest : List Symbol) → GoesOn net d x rest → WalksFrom net s d (forwards symbols (k ∷ u) rest)
  trail-walks k [] h x e rest goes =
      let same : x ≡ at s = some-same (sym e ∙ ap (slice_get symbols) h ∙ w.start) in
      subst (λ y. WalksFrom net s d (y ∷ rest)) (sym (symbol-is k x e)) (same, number-symbol k x e, hs, hd, goes)
  trail-walks k (j ∷ u) h x e rest goes =
      let y = trail-symbol j u h.1 in
      let f = ((follower j y.0 y.1 k).0 h.0).1 in
      let same : f.0 ≡ x = some-same (sym f.1 ∙ e) in
      subst (λ z. WalksFrom net s d (forwards symbols (j ∷ u) (z ∷ rest))) (sym (symbol-is k x e))
      (trail-walks j u h.1 y.0 y.1 (x ∷ rest)
      (goes-on y.0 x rest (subst (λ z. MayFollow net (at y.0.loc, at z.loc)) same f.2) (number-symbol k x e) (subst (λ z. ¬ IsHost net z.loc) same f.3) goes))

  abbrev IsTrailOf : List Symbol → Type 0
  IsTrailOf word = (m : ℕ) × (v : List ℕ) × IsTrail g (m ∷ v) × (may_end_after ways m ≡ true) × (word ≡ forwards symbols (m ∷ v) (at d ∷ []))

  walk-trails : (k : ℕ) (u : List ℕ) → IsTrail g (k ∷ u) → (x : Symbol) → slice_get symbols k ≡ Some x → (rest : List Symbol) → GoesOn net d x rest → IsTrailOf (forwards symbols (k ∷ u) rest)
  walk-trails k u h x e [] goes = absurd goes
  walk-trails k u h x e (y ∷ []) goes =
      (k, u, h, (may-end k x e).1 (subst (λ z. MayFollow net (at x.loc, at z.loc)) goes.2 goes.0), ap (λ z. forwards symbols (k ∷ u) (z ∷ [])) goes.2)
  walk-trails k u h x e (y ∷ z ∷ rest) goes =
      let there : In y symbols = in_from symbols y ((are.each y).1 goes.1) in
      let j = number_in symbols y in
      let at_j : slice_get symbols (number_in symbols y) ≡ Some y = number-at symbols y there in
      let follows : Contains (followers_in ways k) (number_in symbols y) = (follower k x e (number_in symbols y)).1 (get-below symbols (number_in symbols y) y at_j, (y, at_j, goes.0, goes.2)) in
      let more = walk-trails (number_in symbols y) (k ∷ u) (follows, h) y at_j (z ∷ rest) goes.3 in
      (more.0, more.1, more.2, more.3, ap (λ q. forwards symbols (k ∷ u) (q ∷ z ∷ rest)) (sym (symbol-is (number_in symbols y) y at_j)) ∙ more.4)

  walk-trail : (word : List Symbol) → WalksFrom net s d word → IsTrailOf word
  walk-trail [] h = absurd h
  walk-trail (x ∷ rest) h =
      let e : slice_get symbols ways.start ≡ Some x = w.start ∙ ap Some (sym h.0) in
      let more = walk-trails ways.start [] refl x e rest h.4 in
      (more.0, more.1, more.2, more.3, ap (λ q. q ∷ rest) (sym (symbol-is ways.start x e)) ∙ more.4)

  end-number : number_in symbols (at d) ≡ ways.end
  end-number = one-place symbols are.once (number_in symbols (at d)) ways.end (at d) (number-at symbols (at d) (get-in symbols ways.end (at d) w.end)) w.end

  accepted : (t : AutomatonTables) (u : List ℕ) → IsTrail g u → accepts_word symbols t (forwards symbols u (at d ∷ [])) ≡ accepts t (step t (state_at t u) ways.end)
  accepted t u h = accepts-is symbols are.once t u (trail-below u h) (at d) ∙ ap (λ k. accepts t (step t (state_at t u) k)) end-number

  -- the word of a trail
  abbrev pub word_of_trail : List ℕ → List Symbol
  word_of_trail u = forwards symbols u (at d ∷ [])

  stray-walk : (m : ℕ) (v : List ℕ) → IsTrail g (m ∷ v) → Strays g (triple_at g (m ∷ v)) → IsStrayWalk net symbols a b s d (word_of_trail (m ∷ v))
  stray-walk m v h strays =
      let x = trail-symbol m v h in
      let follows : MayFollow net (at x.0.loc, at d) = (may-end m x.0 x.1).0 strays.0 in
      record {
        walk = goes_on-walk net s d (word_of_trail (m ∷ v)) (trail-walks m v h x.0 x.1 (at d ∷ []) (follows, number-symbol ways.end (at d) w.end, refl));
        accepted = accepted a (m ∷ v) h ∙ strays.1;
        refused = accepted b (m ∷ v) h ∙ strays.2;
      }

  trail-strays : (word : List Symbol) → IsStrayWalk net symbols a b s d word → (u : List ℕ) × IsTrail g u × Strays g (triple_at g u) × (word ≡ word_of_trail u)
  trail-strays word h =
      let t = walk-trail word (walk-goes_on net s d word h.walk) in
      (t.0 ∷ t.1, t.2, (t.3, sym (accepted a (t.0 ∷ t.1) t.2) ∙ ap (accepts_word symbols a) (sym t.4) ∙ h.accepted, sym (accepted b (t.0 ∷ t.1) t.2) ∙ ap (accepts_word symbols b) (sym t.4) ∙ h.refused), t.4)

  pub included-none : IsLeastTrail g None → IsIncluded net symbols a b s d
  included-none h word walk acc = by (accepts_word symbols b word) refl
    where
      by : (c : Bool) → accepts_word symbols b word ≡ c → accepts_word symbols b word ≡ true
      by true e = e
      by false e = let t = trail-strays word (record { walk = walk; accepted = acc; refused = e }) in absurd (h t.0 t.1 t.2)

  pub included-some : (u : List ℕ) → IsLeastTrail g (Some u) → IsLeastStrayWalk net symbols a b s d (word_of_trail u)
  included-some [] h = absurd h.0
  included-some (m ∷ v) h = (stray-walk m v h.0 h.1, least)
    where
      least : (word : List Symbol) → IsStrayWalk net symbols a b s d word → (word_of_trail (m ∷ v) ≡ word) ⊎ IsLessWord symbols (word_of_trail (m ∷ v)) word
      least word stray = by (h.2 t.0 t.1 t.2)
        where
          t : (u : List ℕ) × IsTrail g u × Strays g (triple_at g u) × (word ≡ word_of_trail u)
          t = trail-strays word stray

          by : IsNoMoreTrail (m ∷ v) t.0 → (word_of_trail (m ∷ v) ≡ word) ⊎ IsLessWord symbols (word_of_trail (m ∷ v)) word
          by (inl e) = inl (ap word_of_trail e ∙ sym t.3)
          by (inr l) = inr (subst (IsLessWord symbols (word_of_trail (m ∷ v))) (sym t.3) (less-word symbols are.once (m ∷ v) t.0 (trail-below (m ∷ v) h.0) (trail-below t.0 t.1) l (at d)))

  pub trail-inside : (u : List ℕ) → IsLeastTrail g (Some u) → AllByRecursion (λ k. k < length symbols) u
  trail-inside u h = trail-below u h.0
