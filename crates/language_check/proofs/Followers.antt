-- Rows of followers, symbol by symbol.
use Rattle.std.proofs.Common.{◌≡◌, ◌<◌, ◌≤◌, ◌⊎◌, inl, inr, ◌+◌, ℕ, Bool, true, false, nat_lt, List, [], ◌∷◌, ◌++◌, slice_get, Contains, Some, refl, sym, ◌∙◌, subst, arith}
use Rattle.std.specs.List.{AllByRecursion}
use Rattle.merlin_model.specs.declared.policy.Symbol.{Symbol}
use Rattle.merlin_model.specs.Networks.{Network, IsHost}
use Rattle.merlin_model.specs.Words.{at, MayFollow}
use Rattle.merlin_model.proofs.Members.{In, in_from, in_to, in_append, in_append-left, in_append-right}
use Rattle.language_check.specs.Ways.{AreAscending, IsFollower, IsRowAt}
use Rattle.language_check.proofs.Searching.{below_or_at}

some-same : {X : Type 0} {a b : X} → Some a ≡ Some b → a ≡ b
some-same e = cc

all-map : (P Q : ℕ → Type 0) → ((k : ℕ) → P k → Q k) → (xs : List ℕ) → AllByRecursion P xs → AllByRecursion Q xs
all-map P Q f [] h = tt
all-map P Q f (x ∷ xs) h = (f x h.0, all-map P Q f xs h.1)

all-snoc : (P : ℕ → Type 0) (xs : List ℕ) (x : ℕ) → AllByRecursion P xs → P x → AllByRecursion P (xs ++ x ∷ [])
all-snoc P [] x h p = (p, tt)
all-snoc P (y ∷ xs) x h p = (h.0, all-snoc P xs x h.1 p)

ascending-snoc : (row : List ℕ) (n : ℕ) → AllByRecursion (λ k. k < n) row → AreAscending row → AreAscending (row ++ n ∷ [])
ascending-snoc [] n h a = (tt, tt)
ascending-snoc (x ∷ row) n h a = (all-snoc (λ k. x < k) row n a.0 h.0, ascending-snoc row n h.1 a.1)

module _ (net : Network) (symbols : List Symbol) (loc : ℕ) where
  pub row-start : IsRowAt net symbols loc 0 []
  row-start = record {
    each = λ j. (λ h. absurd (in_from [] j h), λ h. let lt : j < 0 = h.0 in absurd (omega (arith, lt)));
    below = tt;
    ascends = tt;
  }

  module _ (n : ℕ) (row : List ℕ) (r : IsRowAt net symbols loc n row) where
    wider : AllByRecursion (λ k. k < n + 1) row
    wider = all-map (λ k. k < n) (λ k. k < n + 1) (λ k lt. omega (arith, lt)) row r.below

    pub row-with : IsFollower net symbols loc n → IsRowAt net symbols loc (n + 1) (row ++ n ∷ [])
    row-with f = record {
      each = λ j. (λ h. there j (in_append row (n ∷ []) j (in_from (row ++ n ∷ []) j h)), λ h. back j h.0 h.1);
      below = all-snoc (λ k. k < n + 1) row n wider (omega arith);
      ascends = ascending-snoc row n r.below r.ascends;
    }
      where
        there : (j : ℕ) → In j row ⊎ In j (n ∷ []) → (j < n + 1) × IsFollower net symbols loc j
        there j (inl i) = let old = (r.each j).0 (in_to row j i) in let lt : j < n = old.0 in (omega arith, old.1)
        there j (inr (inl e)) = (omega (arith, e), subst (IsFollower net symbols loc) (sym e) f)
        there j (inr (inr i)) = absurd i

        back : (j : ℕ) → j < n + 1 → IsFollower net symbols loc j → Contains (row ++ n ∷ []) j
        back j lt g = on (below_or_at n j lt)
          where
            on : (j < n) ⊎ (j ≡ n) → Contains (row ++ n ∷ []) j
            on (inl l) = in_to (row ++ n ∷ []) j (in_append-left row (n ∷ []) j (in_from row j ((r.each j).1 (l, g))))
            on (inr e) = in_to (row ++ n ∷ []) j (in_append-right row (n ∷ []) j (inl e))

    pub row-without : (¬ IsFollower net symbols loc n) → IsRowAt net symbols loc (n + 1) row
    row-without f = record {
      each = λ j. (λ h. let old = (r.each j).0 h in let lt : j < n = old.0 in (omega arith, old.1), λ h. back j h.0 h.1);
      below = wider;
      ascends = r.ascends;
    }
      where
        back : (j : ℕ) → j < n + 1 → IsFollower net symbols loc j → Contains row j
        back j lt g = on (below_or_at n j lt)
          where
            on : (j < n) ⊎ (j ≡ n) → Contains row j
            on (inl l) = (r.each j).1 (l, g)
            on (inr e) = absurd (f (subst (IsFollower net symbols loc) e g))

  -- what the test of a symbol says
  pub follower-is : (n : ℕ) (y : Symbol) → slice_get symbols n ≡ Some y → MayFollow net (at loc, at y.loc) × (¬ IsHost net y.loc) → IsFollower net symbols loc n
  follower-is n y e h = (y, e, h.0, h.1)

  pub follower-not : (n : ℕ) (y : Symbol) → slice_get symbols n ≡ Some y → (¬ (MayFollow net (at loc, at y.loc) × (¬ IsHost net y.loc))) → ¬ IsFollower net symbols loc n
  follower-not n y e h f = let same : f.0 ≡ y = some-same (sym f.1 ∙ e) in h (subst (λ z. MayFollow net (at loc, at z.loc)) same f.2, subst (λ z. ¬ IsHost net z.loc) same f.3)
