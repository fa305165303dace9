-- The cheapest entry is taken out.
use Rattle.std.proofs.Common.{◌≡◌, ◌≤◌, ◌↔◌, ◌⊎◌, inl, inr, ℕ, suc, Bool, true, false, cond, nat_lt, ◌==◌, List, [], ◌∷◌, length, map, Contains, refl, sym, ap, subst, arith}
use Rattle.std.specs.Ordering.{nat_cmp, ordering_then, is_lt}
use Rattle.std.specs.List.Sorted.{IsPermutation}
use Rattle.std.specs.BinaryHeap.{IsUpperBound}
use Rattle.std.specs.declared.cmp.Ordering.{Ordering}
use Rattle.std.specs.declared.cmp.Ordering.TheVariants.{Less, Equal, Greater}
use Rattle.std.specs.declared.cmp.Reverse.{Reverse}
use Rattle.std.proofs.lemmas.List.Sorted.{Contains-permutation, IsPermutation-sym, IsPermutation-map, length_permutation}
use Rattle.merlin_model.proofs.Members.{In, in_from, in_to, all_in, in_map}
use Rattle.graph_search.specs.Frontiers.{entry_cmp, HasAlso, IsTakenOut}

abbrev pub entries_of : List (Reverse (ℕ × ℕ)) → List (ℕ × ℕ)
entries_of xs = map (λ r. r.0) xs

cons-member : {X : Type 0} (x : X) (xs : List X) (y : X) → Contains (x ∷ xs) y ↔ ((y ≡ x) ⊎ Contains xs y)
cons-member {X} x xs y = (there, back)
  where
    on : In y (x ∷ xs) → (y ≡ x) ⊎ Contains xs y
    on (inl same) = inl same
    on (inr i) = inr (in_to xs y i)

    there : Contains (x ∷ xs) y → (y ≡ x) ⊎ Contains xs y
    there h = on (in_from (x ∷ xs) y h)

    back : (y ≡ x) ⊎ Contains xs y → Contains (x ∷ xs) y
    back (inl same) = in_to (x ∷ xs) y (inl same)
    back (inr h) = in_to (x ∷ xs) y (inr (in_from xs y h))

-- what is put beside others in any order
pub also : (x : Reverse (ℕ × ℕ)) (xs ys : List (Reverse (ℕ × ℕ))) → IsPermutation (x ∷ xs) ys → HasAlso x.0 (entries_of xs) (entries_of ys)
also x xs ys p other =
    let m : IsPermutation (x.0 ∷ entries_of xs) (entries_of ys) = IsPermutation-map (λ r. r.0) (x ∷ xs) ys p in
    let c = cons-member x.0 (entries_of xs) other in (
      λ h. c.0 (Contains-permutation (entries_of ys) (x.0 ∷ entries_of xs) other (IsPermutation-sym _ _ m) h),
      λ h. Contains-permutation (x.0 ∷ entries_of xs) (entries_of ys) other m (c.1 h),
    )

-- what is not less is no cheaper
no-cheaper : (a b : ℕ) (o : Ordering) → is_lt (ordering_then (nat_cmp b a) o) ≡ false → a ≤ b
no-cheaper a b o e = by (nat_lt b a) refl
  where
    clash : true ≡ false → ⊥
    clash p = cc

    by : (c : Bool) → nat_lt b a ≡ c → a ≤ b
    by true q = absurd (clash (subst (λ c. is_lt (ordering_then (cond c Less (cond (b == a) Equal Greater)) o) ≡ false) q e))
    by false q = let le : a ≤ b = grind arith in le

all-cheaper : (x : Reverse (ℕ × ℕ)) (ys : List (Reverse (ℕ × ℕ))) → IsUpperBound entry_cmp x ys → (other : ℕ × ℕ) → In other (entries_of ys) → x.0.0 ≤ other.0
all-cheaper x ys bound other i =
    let y = in_map (λ r. r.0) ys other i in
    subst (λ o. x.0.0 ≤ o.0) (sym y.2) (no-cheaper x.0.0 y.0.0.0 (nat_cmp y.0.0.1 x.0.1) (all_in (λ z. is_lt (entry_cmp x z) ≡ false) ys y.0 bound y.1))

map-length : (xs : List (Reverse (ℕ × ℕ))) → length (entries_of xs) ≡ length xs
map-length [] = refl
map-length (x ∷ xs) = ap suc (map-length xs)

pub taken : (x : Reverse (ℕ × ℕ)) (xs ys : List (Reverse (ℕ × ℕ))) → IsPermutation xs (x ∷ ys) → IsUpperBound entry_cmp x xs → IsTakenOut x.0 (entries_of xs) (entries_of ys)
taken x xs ys p bound = record {
  rest = also x ys xs (IsPermutation-sym _ _ p);
  cheapest = λ other h. all-cheaper x xs bound other (in_from (entries_of xs) other h);
  fewer =
      let long : length (x ∷ ys) ≡ length xs = length_permutation xs (x ∷ ys) p in
      let m = map-length xs in
      let k = map-length ys in
      let one : length (x ∷ ys) ≡ suc (length ys) = refl in
      omega (arith, long, m, k, one);
}

pub empty : {X : Type 0} (xs : List X) → length xs ≡ 0 → xs ≡ []
empty [] e = refl
empty (x ∷ xs) e = let no : ⊥ = omega arith in absurd no
