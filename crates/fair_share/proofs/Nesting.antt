-- Caps nest: of two caps the later lies beneath the earlier, or no tenant is beneath both.
use Rattle.std.proofs.Common.{◌≡◌, ℕ, zero, suc, ◌≤◌, ◌<◌, ◌⊎◌, inl, inr, Bool, true, false, ◌||◌, ◌==◌, List, length, Option, None, Some, MatchOption, unwrap_or, slice_get, refl, sym, ◌∙◌, ap, subst, arith}
use Rattle.std.specs.Bool.{⊤}
use Rattle.std.specs.Option.{option_map_or}
use Rattle.std.proofs.lemmas.Option.{slice_get_within}
use Rattle.std.proofs.lemmas.Bool.{or_right, or_cases, both_ways, eqb-true, cases_lt}
use Rattle.fair_share.specs.declared.cap.Cap.{Cap}
use Rattle.fair_share.specs.declared.cap.Tenant.{Tenant}
use Rattle.fair_share.specs.Shares.{Demands, AreNested, cap_above, is_on_way, is_beneath}

-- the place is below n, or there is none
abbrev Below : ℕ → Option ℕ → Type 0
Below n at = MatchOption at ⊤ (λ k. k < n)

Some-inj : {a b : ℕ} → Some a ≡ Some b → a ≡ b
Some-inj {a} {b} e = ap (λ o. unwrap_or o a) e

module _ (caps : List Cap) (up : (c u : ℕ) (cap : Cap) → slice_get caps c ≡ Some cap → cap.under ≡ Some u → u < c) where
  below-above : (k n : ℕ) → k < suc n → Below n (cap_above caps k)
  below-above k n l = by (slice_get caps k) refl
    where
      by : (o : Option Cap) → slice_get caps k ≡ o → Below n (option_map_or (λ cap. cap.under) o None)
      by None e = tt
      by (Some cap) e = at cap.under refl
        where
          at : (u : Option ℕ) → cap.under ≡ u → Below n u
          at None f = tt
          at (Some u) f = let lt = up k u cap e f in omega arith

  -- more steps find nothing more
  met-same : (n m : ℕ) (at : Option ℕ) (c : ℕ) → Below n at → Below m at → is_on_way caps n at c ≡ is_on_way caps m at c
  met-same zero zero at c l j = refl
  met-same zero (suc m) None c l j = refl
  met-same zero (suc m) (Some k) c l j = let no : ⊥ = omega arith in absurd no
  met-same (suc n) zero None c l j = refl
  met-same (suc n) zero (Some k) c l j = let no : ⊥ = omega arith in absurd no
  met-same (suc n) (suc m) None c l j = refl
  met-same (suc n) (suc m) (Some k) c l j = ap (λ b. (k == c) || b) (met-same n m (cap_above caps k) c (below-above k n l) (below-above k m j))

  -- what is met stands no later than the first
  pub met-bound : (n : ℕ) (at : Option ℕ) (c : ℕ) → is_on_way caps n at c ≡ true → MatchOption at ⊥ (λ k. c ≤ k)
  met-bound zero at c e = let no : ⊥ = cc in absurd no
  met-bound (suc n) None c e = let no : ⊥ = cc in absurd no
  met-bound (suc n) (Some k) c e = by (or_cases (k == c) (is_on_way caps n (cap_above caps k) c) e) (met-bound n (cap_above caps k) c)
    where
      above : (o : Option ℕ) → Below k o → MatchOption o ⊥ (λ u. c ≤ u) → c ≤ k
      above None l h = absurd h
      above (Some u) l h = omega arith

      by : ((k == c) ≡ true) ⊎ (is_on_way caps n (cap_above caps k) c ≡ true) → (is_on_way caps n (cap_above caps k) c ≡ true → MatchOption (cap_above caps k) ⊥ (λ u. c ≤ u)) → c ≤ k
      by (inl same) ih = let s = eqb-true k c same in omega arith
      by (inr m) ih = above (cap_above caps k) (below-above k k (omega arith)) (ih m)

  -- what is above a cap that is met is met
  met-up : (n m : ℕ) (at : Option ℕ) (k j : ℕ) → Below n at → k < m → is_on_way caps n at k ≡ true → is_on_way caps m (Some k) j ≡ true → is_on_way caps n at j ≡ true
  met-up zero m at k j l b e f = let no : ⊥ = cc in absurd no
  met-up (suc n) m None k j l b e f = let no : ⊥ = cc in absurd no
  met-up (suc n) m (Some a) k j l b e f = by (or_cases (a == k) (is_on_way caps n (cap_above caps a) k) e) (λ g. met-up n m (cap_above caps a) k j (below-above a n l) b g f)
    where
      by : ((a == k) ≡ true) ⊎ (is_on_way caps n (cap_above caps a) k ≡ true) → (is_on_way caps n (cap_above caps a) k ≡ true → is_on_way caps n (cap_above caps a) j ≡ true) → is_on_way caps (suc n) (Some a) j ≡ true
      by (inl same) ih = let s : k ≡ a = sym (eqb-true a k same) in met-same (suc n) m (Some a) j l (subst (λ x. x < m) s b) ∙ subst (λ x. is_on_way caps m (Some x) j ≡ true) s f
      by (inr g) ih = or_right (a == j) (is_on_way caps n (cap_above caps a) j) (ih g)

  -- of two caps that are met the earlier is above the later
  met-down : (n m : ℕ) (at : Option ℕ) (k j : ℕ) → Below n at → k < m → j < k → is_on_way caps n at k ≡ true → is_on_way caps n at j ≡ true → is_on_way caps m (Some k) j ≡ true
  met-down zero m at k j l b lt e f = let no : ⊥ = cc in absurd no
  met-down (suc n) m None k j l b lt e f = let no : ⊥ = cc in absurd no
  met-down (suc n) m (Some a) k j l b lt e f =
      by (or_cases (a == k) (is_on_way caps n (cap_above caps a) k) e) (or_cases (a == j) (is_on_way caps n (cap_above caps a) j) f) (λ g h. met-down n m (cap_above caps a) k j (below-above a n l) b lt g h)
    where
      by : ((a == k) ≡ true) ⊎ (is_on_way caps n (cap_above caps a) k ≡ true) → ((a == j) ≡ true) ⊎ (is_on_way caps n (cap_above caps a) j ≡ true) →
          (is_on_way caps n (cap_above caps a) k ≡ true → is_on_way caps n (cap_above caps a) j ≡ true → is_on_way caps m (Some k) j ≡ true) → is_on_way caps m (Some k) j ≡ true
      by (inl same) h ih = let s : a ≡ k = eqb-true a k same in subst (λ x. is_on_way caps m (Some x) j ≡ true) s (met-same m (suc n) (Some a) j (subst (λ x. x < m) (sym s) b) l ∙ f)
      by (inr g) (inl same) ih = let s : a ≡ j = eqb-true a j same in let high : k ≤ a = met-bound (suc n) (Some a) k e in let no : ⊥ = omega arith in absurd no
      by (inr g) (inr h) ih = ih g h

  -- beyond the last cap there is none to be met
  met-inside : (n : ℕ) (at : Option ℕ) (c : ℕ) → length caps ≤ n → c < length caps → is_on_way caps n at c ≡ true → Below n at ⊎ ⊥
  met-inside n None c l b e = inl tt
  met-inside zero (Some k) c l b e = let no : ⊥ = cc in absurd no
  met-inside (suc n) (Some k) c l b e = by (cases_lt k (suc n))
    where
      by : (k < suc n) ⊎ (suc n ≤ k) → Below (suc n) (Some k) ⊎ ⊥
      by (inl lt) = inl lt
      by (inr ge) = at (slice_get caps k) refl (or_cases (k == c) (is_on_way caps n (cap_above caps k) c) e)
        where
          none : (m : ℕ) → is_on_way caps m None c ≡ true → ⊥
          none zero g = cc
          none (suc m) g = cc

          at : (o : Option Cap) → slice_get caps k ≡ o → ((k == c) ≡ true) ⊎ (is_on_way caps n (cap_above caps k) c ≡ true) → Below (suc n) (Some k) ⊎ ⊥
          at o f (inl same) = let s = eqb-true k c same in let no : ⊥ = omega arith in absurd no
          at None f (inr g) = absurd (none n (subst (λ x. is_on_way caps n (option_map_or (λ cap. cap.under) x None) c ≡ true) f g))
          at (Some cap) f (inr g) = let within = slice_get_within caps k cap f in let no : ⊥ = omega arith in absurd no

pub caps-nest : (d : Demands) → AreNested d → (j k : ℕ) → j < k → k < length d.caps →
    ((tenant : Tenant) → is_beneath d k tenant ≡ true → is_beneath d j tenant ≡ true) ⊎ ((tenant : Tenant) → is_beneath d k tenant ≡ true → is_beneath d j tenant ≡ true → ⊥)
caps-nest d ok j k lt within = by (is_on_way d.caps (length d.caps) (Some k) j) refl
  where
    there : (tenant : Tenant) → is_beneath d k tenant ≡ true → Below (length d.caps) tenant.under
    there tenant e = by_case (met-inside d.caps ok.caps (length d.caps) tenant.under k (omega arith) within e)
      where
        by_case : Below (length d.caps) tenant.under ⊎ ⊥ → Below (length d.caps) tenant.under
        by_case (inl h) = h
        by_case (inr h) = absurd h

    by : (b : Bool) → is_on_way d.caps (length d.caps) (Some k) j ≡ b →
        ((tenant : Tenant) → is_beneath d k tenant ≡ true → is_beneath d j tenant ≡ true) ⊎ ((tenant : Tenant) → is_beneath d k tenant ≡ true → is_beneath d j tenant ≡ true → ⊥)
    by true e = inl (λ tenant h. met-up d.caps ok.caps (length d.caps) (length d.caps) tenant.under k j (there tenant h) within h e)
    by false e = inr (λ tenant h g. both_ways (is_on_way d.caps (length d.caps) (Some k) j) e (met-down d.caps ok.caps (length d.caps) (length d.caps) tenant.under k j (there tenant h) within lt h g))
