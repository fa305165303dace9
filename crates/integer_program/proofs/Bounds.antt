-- Whole numbers within a bound, and sums of them.
use Rattle.std.proofs.Common.{◌≡◌, ℕ, zero, suc, ◌+◌, ◌≤◌, ◌<◌, Bool, true, false, ℤ, pos, negsuc, neg_ℤ, nat_abs, ◌+ℤ◌, ◌≤ℤ◌, List, [], ◌∷◌, ◌++◌, map, take, length, get_or, sym, ◌∙◌, ap, subst, arith}
use Rattle.std.proofs.lemmas.Int.{ints}
use Rattle.std.proofs.lemmas.List.{take_more, get_or-map, map-append, length-map}
use Rattle.std.specs.List.{AllByRecursion}
use Rattle.std.specs.List.Sorted.{IsStrictlyIncreasing}
use Rattle.merlin_model.specs.Programs.{total, coefficient_if}
use Rattle.integer_program.specs.Bounds.{IsBounded}

pub within : (bound : ℕ) (z : ℤ) → nat_abs z ≤ bound → IsBounded bound z
within bound (pos n) h = record { low = omega (arith, ints); high = omega (arith, ints) }
within bound (negsuc n) h = record { low = omega (arith, ints); high = omega (arith, ints) }

pub within-add : (m n : ℕ) (a b : ℤ) → IsBounded m a → IsBounded n b → IsBounded (m + n) (a +ℤ b)
within-add m n a b p q = record {
  low = let x = p.low in let y = q.low in omega (arith, ints);
  high = let x = p.high in let y = q.high in omega (arith, ints);
}

pub within-more : (m n : ℕ) (z : ℤ) → m ≤ n → IsBounded m z → IsBounded n z
within-more m n z h p = record {
  low = let x = p.low in omega (arith, ints);
  high = let x = p.high in omega (arith, ints);
}

pub within-taken : (n : ℕ) (b : Bool) (z : ℤ) → IsBounded n z → IsBounded n (coefficient_if b z)
within-taken n true z h = h
within-taken n false z h = record { low = omega (arith, ints); high = omega (arith, ints) }

-- Lists.

pub all_at : {X : Type 0} (P : X → Type 0) (xs : List X) (k : ℕ) (d : X) → AllByRecursion P xs → k < length xs → P (get_or xs k d)
all_at P [] k d all h = absurd (omega arith)
all_at P (x ∷ xs) zero d all h = all.0
all_at P (x ∷ xs) (suc k) d all h = all_at P xs k d all.1 (omega arith)

pub all_take_more : {X : Type 0} (P : X → Type 0) (xs : List X) (k : ℕ) (d : X) → k < length xs → AllByRecursion P (take k xs) → P (get_or xs k d) → AllByRecursion P (take (k + 1) xs)
all_take_more P [] k d h all one = absurd (omega arith)
all_take_more P (x ∷ xs) zero d h all one = (one, tt)
all_take_more P (x ∷ xs) (suc k) d h all one =
    let n : suc k + 1 ≡ suc (k + 1) = omega arith in
    subst (λ i. AllByRecursion P (take i (x ∷ xs))) (sym n) (all.0, all_take_more P xs k d (omega arith) all.1 one)

pub total-append : (xs ys : List ℤ) → total (xs ++ ys) ≡ total xs +ℤ total ys
total-append [] ys = omega (arith, ints)
total-append (x ∷ xs) ys = let ih = total-append xs ys in omega (arith, ints)

-- a sum over a list so far, with its next member
pub total-more : {X : Type 0} (f : X → ℤ) (xs : List X) (k : ℕ) (d : X) → k < length xs → total (map f (take (k + 1) xs)) ≡ total (map f (take k xs)) +ℤ f (get_or xs k d)
total-more f xs k d h =
    ap (λ ys. total (map f ys)) (take_more xs k d h)
    ∙ ap total (map-append f (take k xs) (get_or xs k d ∷ []))
    ∙ total-append (map f (take k xs)) (f (get_or xs k d) ∷ [])
    ∙ (let e : f (get_or xs k d) +ℤ pos 0 ≡ f (get_or xs k d) = omega (arith, ints) in ap (λ z. total (map f (take k xs)) +ℤ z) e)

-- numbers that ascend and stay below a bound are no more than it
at_least : (xs : List ℕ) → IsStrictlyIncreasing xs → (k : ℕ) → k < length xs → k ≤ get_or xs k 0
at_least xs ascend zero h = omega arith
at_least xs ascend (suc k) h =
    let before = at_least xs ascend k (omega arith) in
    let step = ascend k (omega arith) in
    let n : k + 1 ≡ suc k = omega arith in
    let next : get_or xs k 0 < get_or xs (suc k) 0 = subst (λ i. get_or xs k 0 < get_or xs i 0) n step in
    omega arith

pub ascending_few : {X : Type 0} (key : X → ℕ) (bound : ℕ) (xs : List X) → IsStrictlyIncreasing (map key xs) → AllByRecursion (λ x. key x < bound) xs → length xs ≤ bound
ascending_few key bound [] ascend below = omega arith
ascending_few key bound (x ∷ xs) ascend below =
    let size = length-map (x ∷ xs) key in
    let low = at_least (map key (x ∷ xs)) ascend (length xs) (omega arith) in
    let high = all_at (λ y. key y < bound) (x ∷ xs) (length xs) x below (omega arith) in
    let same = get_or-map key (x ∷ xs) (length xs) x 0 (omega arith) in
    omega arith
