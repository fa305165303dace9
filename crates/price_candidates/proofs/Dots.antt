-- Weights of all rows, and the sums that they make.
use Rattle.std.proofs.Common.{◌≡◌, ℕ, zero, suc, ◌+◌, ◌≤◌, ◌<◌, ◌^◌, nat_abs, Bool, true, false, ℤ, pos, ◌+ℤ◌, ◌*ℤ◌, List, [], ◌∷◌, ◌++◌, map, length, get_or, add-one, refl, sym, ◌∙◌, ap, arith}
use Rattle.std.proofs.lemmas.Int.{ints}
use Rattle.std.specs.List.{AllByRecursion}
use Rattle.std.specs.List.Sorted.{IsStrictlyIncreasing}
use Rattle.merlin_model.specs.declared.certificate.Weight.{Weight}
use Rattle.merlin_model.specs.Programs.{Row, no_row, total}
use Rattle.merlin_model.specs.Trees.{IsPositiveOnBounds}
use Rattle.price_candidates.specs.Leaves.{with_weight, weights_from}

abbrev pub dot : {X : Type 0} → (X → ℤ) → List ℕ → List X → ℤ
dot g [] xs = pos 0
dot g (m ∷ ms) [] = pos 0
dot g (m ∷ ms) (x ∷ xs) = pos m *ℤ g x +ℤ dot g ms xs

pub dot-append : {X : Type 0} (g : X → ℤ) (ms ns : List ℕ) (xs ys : List X) → length ms ≡ length xs → dot g (ms ++ ns) (xs ++ ys) ≡ dot g ms xs +ℤ dot g ns ys
dot-append g [] ns [] ys e = omega (arith, ints)
dot-append g [] ns (x ∷ xs) ys e = let bad : ⊥ = omega arith in absurd bad
dot-append g (m ∷ ms) ns [] ys e = let bad : ⊥ = omega arith in absurd bad
dot-append g (m ∷ ms) ns (x ∷ xs) ys e = let ih = dot-append g ms ns xs ys (omega arith) in omega (arith, ints)

pub dot-map : {U X : Type 0} (g : X → ℤ) (y : U → ℕ) (r : U → X) (us : List U) → dot g (map y us) (map r us) ≡ total (map (λ u. pos (y u) *ℤ g (r u)) us)
dot-map g y r [] = refl
dot-map g y r (u ∷ us) = ap (λ t. pos (y u) *ℤ g (r u) +ℤ t) (dot-map g y r us)

pub dot-weights : (all : List Row) (g : Row → ℤ) (i : ℕ) (ms : List ℕ) (rest : List Row) → length ms ≡ length rest → ((j : ℕ) → get_or all (i + j) no_row ≡ get_or rest j no_row) →
    total (map (λ w. w.weight *ℤ g (get_or all w.row no_row)) (weights_from i ms)) ≡ dot g ms rest
dot-weights all g i [] rest e same = refl
dot-weights all g i (m ∷ ms) [] e same = let bad : ⊥ = omega arith in absurd bad
dot-weights all g i (m ∷ ms) (x ∷ rest) e same =
    by m (dot-weights all g (i + 1) ms rest (omega arith) (λ j. (let s : i + 1 + j ≡ i + suc j = omega arith in ap (λ k. get_or all k no_row) s) ∙ same (suc j)))
  where
    here : get_or all i no_row ≡ x
    here = (let s : i ≡ i + 0 = omega arith in ap (λ k. get_or all k no_row) s) ∙ same 0

    nothing : (a t : ℤ) → t ≡ pos 0 *ℤ a +ℤ t
    nothing a t = omega (arith, ints)

    by : (m : ℕ) → total (map (λ w. w.weight *ℤ g (get_or all w.row no_row)) (weights_from (i + 1) ms)) ≡ dot g ms rest →
        total (map (λ w. w.weight *ℤ g (get_or all w.row no_row)) (with_weight i m (weights_from (i + 1) ms))) ≡ pos m *ℤ g x +ℤ dot g ms rest
    by zero ih = ih ∙ nothing (g x) (dot g ms rest)
    by (suc m) ih =
        ap (λ r. pos (suc m) *ℤ g r +ℤ total (map (λ w. w.weight *ℤ g (get_or all w.row no_row)) (weights_from (i + 1) ms))) here
        ∙ ap (λ t. pos (suc m) *ℤ g x +ℤ t) ih

-- The rows ascend and exist, and the weights are small and above 0.

low : (j i : ℕ) (ms : List ℕ) → j ≤ i → AllByRecursion (λ w. j ≤ w.row) (weights_from i ms)
low j i [] h = tt
low j i (zero ∷ ms) h = low j (i + 1) ms (omega arith)
low j i (suc m ∷ ms) h = (h, low j (i + 1) ms (omega arith))

ascend-cons : (x : ℕ) (ws : List Weight) → AllByRecursion (λ w. x + 1 ≤ w.row) ws → IsStrictlyIncreasing (map (λ w. w.row) ws) → IsStrictlyIncreasing (x ∷ map (λ w. w.row) ws)
ascend-cons x [] all up k h = let bad : ⊥ = omega arith in absurd bad
ascend-cons x (w ∷ ws) all up zero h = let a = all.0 in omega arith
ascend-cons x (w ∷ ws) all up (suc k) h =
    let far : get_or (x ∷ map (λ w. w.row) (w ∷ ws)) (suc k + 1) 0 ≡ get_or (map (λ w. w.row) (w ∷ ws)) (k + 1) 0 =
    ap (λ n. get_or (x ∷ map (λ w. w.row) (w ∷ ws)) n 0) (add-one (suc k)) ∙ sym (ap (λ n. get_or (map (λ w. w.row) (w ∷ ws)) n 0) (add-one k)) in
    let next = up k (omega arith) in
    omega arith

pub ascends : (i : ℕ) (ms : List ℕ) → IsStrictlyIncreasing (map (λ w. w.row) (weights_from i ms))
ascends i [] k h = let bad : ⊥ = omega arith in absurd bad
ascends i (zero ∷ ms) k h = ascends (i + 1) ms k h
ascends i (suc m ∷ ms) k h = ascend-cons i (weights_from (i + 1) ms) (low (i + 1) (i + 1) ms (omega arith)) (ascends (i + 1) ms) k h

pub exist : (size i : ℕ) (ms : List ℕ) → i + length ms ≤ size → AllByRecursion (λ w. w.row < size) (weights_from i ms)
exist size i [] h = tt
exist size i (zero ∷ ms) h = exist size (i + 1) ms (omega arith)
exist size i (suc m ∷ ms) h = (omega arith, exist size (i + 1) ms (omega arith))

pub small : (i : ℕ) (ms : List ℕ) → AllByRecursion (λ m. m ≤ 2 ^ 60) ms → AllByRecursion (λ w. nat_abs w.weight ≤ 2 ^ 60) (weights_from i ms)
small i [] all = tt
small i (zero ∷ ms) all = small (i + 1) ms all.1
small i (suc m ∷ ms) all = (all.0, small (i + 1) ms all.1)

pub signs : (all : List Row) (i : ℕ) (ms : List ℕ) → AllByRecursion (λ w. IsPositiveOnBounds (get_or all w.row no_row).is_equality w.weight) (weights_from i ms)
signs all i [] = tt
signs all i (zero ∷ ms) = signs all (i + 1) ms
signs all i (suc m ∷ ms) = (positive (get_or all i no_row).is_equality, signs all (i + 1) ms)
  where
    positive : (b : Bool) → IsPositiveOnBounds b (pos (suc m))
    positive true = λ e. let bad : ⊥ = omega (arith, ints) in bad
    positive false = omega (arith, ints)
