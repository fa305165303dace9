-- An ascending list is known by its members, so a share of a cap is one number.
use Rattle.std.proofs.Common.{◌≡◌, ℕ, zero, suc, ◌+◌, ◌<◌, inl, inr, ◌↔◌, List, [], ◌∷◌, length, add-one, get_or, Contains, Some, slice_get, refl, sym, ◌∙◌, ap, ap₂, subst, arith}
use Rattle.std.proofs.lemmas.Option.{slice_get_within, get_or_from_slice_get}
use Rattle.std.specs.List.{AllByRecursion}
use Rattle.std.specs.List.Sorted.{IsStrictlyIncreasing}
use Rattle.merlin_model.specs.Networks.{Network, Pairwise}
use Rattle.merlin_model.specs.Policies.{Policy}
use Rattle.merlin_model.specs.Rates.{share, AreLiveSources, IsShareAt}
use Rattle.merlin_model.proofs.Members.{In, in_from, in_to, all_in}
use Rattle.merlin_model.proofs.Traces.{Some-inj}

module _ {X : Type 0} (R : X → X → Type 0) (irreflexive : (x : X) → ¬ R x x) (transitive : (x y z : X) → R x y → R y z → R x z) where
  first_same : (x y : X) (xs ys : List X) → Pairwise R (x ∷ xs) → Pairwise R (y ∷ ys) → In x (y ∷ ys) → In y (x ∷ xs) → x ≡ y
  first_same x y xs ys ux uy (inl e) h = e
  first_same x y xs ys ux uy (inr h) (inl e) = sym e
  first_same x y xs ys ux uy (inr h) (inr k) = absurd (irreflexive x (transitive x y x (all_in (R x) xs y ux.0 k) (all_in (R y) ys x uy.0 h)))

  in_rest : (x n : X) (xs ys : List X) → Pairwise R (x ∷ xs) → In n (x ∷ ys) → In n xs → In n ys
  in_rest x n xs ys up (inl e) h = absurd (irreflexive x (subst (R x) e (all_in (R x) xs n up.0 h)))
  in_rest x n xs ys up (inr k) h = k

  -- two ascending lists with the same members are one
  pub ascending-one : (xs ys : List X) → Pairwise R xs → Pairwise R ys → ((x : X) → In x xs → In x ys) → ((x : X) → In x ys → In x xs) → xs ≡ ys
  ascending-one [] [] ux uy to from = refl
  ascending-one [] (y ∷ ys) ux uy to from = absurd (from y (inl refl))
  ascending-one (x ∷ xs) [] ux uy to from = absurd (to x (inl refl))
  ascending-one (x ∷ xs) (y ∷ ys) ux uy to from =
      let same : x ≡ y = first_same x y xs ys ux uy (to x (inl refl)) (from y (inl refl)) in
      let uy' : Pairwise R (x ∷ ys) = subst (λ z. Pairwise R (z ∷ ys)) (sym same) uy in
      ap₂ (λ z zs. z ∷ zs) same
      (ascending-one xs ys ux.1 uy.1 (λ n h. in_rest x n xs ys ux (subst (λ z. In n (z ∷ ys)) (sym same) (to n (inr h))) h)
      (λ n h. in_rest x n ys xs uy' (from n (inr h)) h))

-- numbers that increase from place to place increase pairwise
tail_up : (x : ℕ) (xs : List ℕ) → IsStrictlyIncreasing (x ∷ xs) → IsStrictlyIncreasing xs
tail_up x xs up k h =
    let far : get_or (x ∷ xs) (suc k + 1) 0 ≡ get_or xs (k + 1) 0 = ap (λ n. get_or (x ∷ xs) n 0) (add-one (suc k)) ∙ sym (ap (λ n. get_or xs n 0) (add-one k)) in
    let next = up (suc k) (omega arith) in
    omega arith

above : (x : ℕ) (xs : List ℕ) → IsStrictlyIncreasing (x ∷ xs) → AllByRecursion (λ y. x < y) xs
above x [] up = tt
above x (y ∷ []) up = (up 0 (omega arith), tt)
above x (y ∷ z ∷ zs) up = let first : x < y = up 0 (omega arith) in (first, later x y (z ∷ zs) first (above y (z ∷ zs) (tail_up x (y ∷ z ∷ zs) up)))
  where
    later : (a b : ℕ) (ys : List ℕ) → a < b → AllByRecursion (λ c. b < c) ys → AllByRecursion (λ c. a < c) ys
    later a b [] lt h = tt
    later a b (c ∷ ys) lt h = let next = h.0 in (omega arith, later a b ys lt h.1)

pub increasing-pairwise : (xs : List ℕ) → IsStrictlyIncreasing xs → Pairwise (λ a b. a < b) xs
increasing-pairwise [] up = tt
increasing-pairwise (x ∷ xs) up = (above x xs up, increasing-pairwise xs (tail_up x xs up))

pub ascending-same : (xs ys : List ℕ) → IsStrictlyIncreasing xs → IsStrictlyIncreasing ys → ((n : ℕ) → Contains xs n ↔ Contains ys n) → xs ≡ ys
ascending-same xs ys ux uy m =
    ascending-one (λ a b. a < b) (λ a h. omega arith) (λ a b c h k. omega arith) xs ys (increasing-pairwise xs ux) (increasing-pairwise ys uy)
    (λ n h. in_from ys n ((m n).0 (in_to xs n h))) (λ n h. in_from xs n ((m n).1 (in_to ys n h)))

-- the place of a number in an ascending list
place_is : (xs : List ℕ) → IsStrictlyIncreasing xs → (s i j : ℕ) → slice_get xs i ≡ Some s → slice_get xs j ≡ Some s → i ≡ j
place_is [] up s i j e f = cc
place_is (x ∷ xs) up s zero zero e f = refl
place_is (x ∷ xs) up s zero (suc j) e f = absurd (apart (all_in (λ y. x < y) xs s (above x xs up) (in_at xs j s f)) (Some-inj e))
  where
    in_at : (ys : List ℕ) (k t : ℕ) → slice_get ys k ≡ Some t → In t ys
    in_at ys k t g = in_from ys t (k, slice_get_within ys k t g, get_or_from_slice_get ys k t t g)

    apart : x < s → x ≡ s → ⊥
    apart a b = omega arith
place_is (x ∷ xs) up s (suc i) zero e f = absurd (apart (all_in (λ y. x < y) xs s (above x xs up) (in_at xs i s e)) (Some-inj f))
  where
    in_at : (ys : List ℕ) (k t : ℕ) → slice_get ys k ≡ Some t → In t ys
    in_at ys k t g = in_from ys t (k, slice_get_within ys k t g, get_or_from_slice_get ys k t t g)

    apart : x < s → x ≡ s → ⊥
    apart a b = omega arith
place_is (x ∷ xs) up s (suc i) (suc j) e f = ap suc (place_is xs (tail_up x xs up) s i j e f)

-- there is one list of live sources, and one share at each
pub sources-same : (net : Network) (policy : Policy) (i : ℕ) (xs ys : List ℕ) → AreLiveSources net policy i xs → AreLiveSources net policy i ys → xs ≡ ys
sources-same net policy i xs ys a b = ascending-same xs ys a.ascending b.ascending (λ s. (λ h. (b.exactly s).1 ((a.exactly s).0 h), λ h. (a.exactly s).1 ((b.exactly s).0 h)))

pub share-same : (net : Network) (policy : Policy) (i s c d : ℕ) → IsShareAt net policy i s c → IsShareAt net policy i s d → c ≡ d
share-same net policy i s c d a b =
    let hosts : b.hosts ≡ a.hosts = sources-same net policy i b.hosts a.hosts b.sources a.sources in
    let cap : a.cap ≡ b.cap = Some-inj (sym a.capped ∙ b.capped) in
    let place : a.place ≡ b.place = place_is a.hosts a.sources.ascending s a.place b.place a.stands (subst (λ h. slice_get h b.place ≡ Some s) hosts b.stands) in
    a.value ∙ ap₂ (λ m p. share m (length a.hosts) p) cap place ∙ ap (λ h. share b.cap (length h) b.place) (sym hosts) ∙ sym b.value
