-- A tree that refutes a box leaves no solution in it.
use Rattle.std.proofs.Common.{◌≡◌, ◌≢◌, ℕ, zero, suc, ◌+◌, ◌≤◌, ◌<◌, ◌==◌, nat_eq, nat_lt, inr, Bool, true, false, ℤ, pos, negsuc, ◌+ℤ◌, ◌*ℤ◌, ◌≤ℤ◌, ◌<ℤ◌, List, [], ◌∷◌, map, length, Option, None, Some, unwrap_or, get_or, length-set, refl, sym, ◌∙◌, ap, subst, arith, get_or-set_same, get_or-set_other}
use Rattle.std.proofs.lemmas.Int.{ints}
use Rattle.std.proofs.lemmas.List.{get_or_past}
use Rattle.std.specs.List.{AllByRecursion, range_with_len}
use Rattle.std.proofs.Math.Nat.{mul-le-mul_left}
use borrow.Author.Differences.{up, down}
use Rattle.merlin_model.specs.declared.certificate.Weight.{Weight}
use Rattle.merlin_model.specs.declared.certificate.Tree.{Tree, Leaf, Split', Unclosed, end_of-Tree, more_of-Tree}
use Rattle.merlin_model.specs.Programs.{Program, variables, no_row, total, coefficient_if, is_chosen, left_side, Compares, IsSolution}
use Rattle.merlin_model.specs.Trees.{fixed_at, fix, IsInBox, row_of, coefficient_in, weighted_coefficient, weighted_right, least_addition, least_value, IsPositiveOnBounds, RefutesBox, Node, IsSoundNode, nodes_of, Refutes}
use Rattle.merlin_model.proofs.Members.{all_left, all_right}
use Rattle.merlin_model.proofs.Sums.{taken-zero, taken-add, taken-mul, total-add, total-mul, total-le, total-same, total-zero, total-outside, total-inside, coefficient_in-cons}

-- What the variables of a row add at a point is its left side.

one_place : (point : List Bool) (n u : ℕ) (z : ℤ) → length point ≡ n →
    total (map (λ v. coefficient_if (is_chosen point v) (coefficient_if (u == v) z)) (range_with_len 0 n)) ≡ coefficient_if (is_chosen point u) z
one_place point n u z size = by (nat_lt u n) refl
  where
    by : (b : Bool) → nat_lt u n ≡ b → total (map (λ v. coefficient_if (is_chosen point v) (coefficient_if (u == v) z)) (range_with_len 0 n)) ≡ coefficient_if (is_chosen point u) z
    by true e = total-inside (is_chosen point) u z 0 n (omega arith) (grind arith)
    by false e =
        let past : n ≤ u = grind arith in
        let none : is_chosen point u ≡ false = get_or_past point u false (omega arith) in
        total-outside (is_chosen point) u z 0 n (inr (omega arith)) ∙ sym (ap (λ b. coefficient_if b z) none)

row_sum : (point : List Bool) (n : ℕ) (entries : List (ℕ × ℤ)) → length point ≡ n →
    total (map (λ v. coefficient_if (is_chosen point v) (coefficient_in v entries)) (range_with_len 0 n)) ≡ left_side entries point
row_sum point n [] size = total-zero _ (range_with_len 0 n) (λ v. taken-zero (is_chosen point v))
row_sum point n (e ∷ es) size =
    total-same _ (λ v. coefficient_if (is_chosen point v) (coefficient_if (e.0 == v) e.1) +ℤ coefficient_if (is_chosen point v) (coefficient_in v es)) (range_with_len 0 n)
    (λ v. ap (coefficient_if (is_chosen point v)) (coefficient_in-cons v e es) ∙ taken-add (is_chosen point v) (coefficient_if (e.0 == v) e.1) (coefficient_in v es))
    ∙ total-add (λ v. coefficient_if (is_chosen point v) (coefficient_if (e.0 == v) e.1)) (λ v. coefficient_if (is_chosen point v) (coefficient_in v es)) (range_with_len 0 n)
    ∙ ap (λ t. t +ℤ total (map (λ v. coefficient_if (is_chosen point v) (coefficient_in v es)) (range_with_len 0 n))) (one_place point n e.0 e.1 size)
    ∙ ap (λ t. coefficient_if (is_chosen point e.0) e.1 +ℤ t) (row_sum point n es size)

abbrev weighted_left : Program → List Weight → List Bool → ℤ
weighted_left program weights point = total (map (λ w. w.weight *ℤ left_side (row_of program w).entries point) weights)

weights_sum : (program : Program) (point : List Bool) (n : ℕ) (weights : List Weight) → length point ≡ n →
    total (map (λ v. coefficient_if (is_chosen point v) (weighted_coefficient program weights v)) (range_with_len 0 n)) ≡ weighted_left program weights point
weights_sum program point n [] size = total-zero _ (range_with_len 0 n) (λ v. taken-zero (is_chosen point v))
weights_sum program point n (w ∷ ws) size =
    total-same _ (λ v. coefficient_if (is_chosen point v) (w.weight *ℤ coefficient_in v entries) +ℤ coefficient_if (is_chosen point v) (weighted_coefficient program ws v)) (range_with_len 0 n)
    (λ v. taken-add (is_chosen point v) (w.weight *ℤ coefficient_in v entries) (weighted_coefficient program ws v))
    ∙ total-add (λ v. coefficient_if (is_chosen point v) (w.weight *ℤ coefficient_in v entries)) (λ v. coefficient_if (is_chosen point v) (weighted_coefficient program ws v)) (range_with_len 0 n)
    ∙ ap (λ t. t +ℤ total (map (λ v. coefficient_if (is_chosen point v) (weighted_coefficient program ws v)) (range_with_len 0 n))) first
    ∙ ap (λ t. w.weight *ℤ left_side entries point +ℤ t) (weights_sum program point n ws size)
  where
    entries : List (ℕ × ℤ)
    entries = (row_of program w).entries

    first : total (map (λ v. coefficient_if (is_chosen point v) (w.weight *ℤ coefficient_in v entries)) (range_with_len 0 n)) ≡ w.weight *ℤ left_side entries point
    first =
        total-same _ (λ v. w.weight *ℤ coefficient_if (is_chosen point v) (coefficient_in v entries)) (range_with_len 0 n)
        (λ v. taken-mul (is_chosen point v) w.weight (coefficient_in v entries))
        ∙ total-mul w.weight (λ v. coefficient_if (is_chosen point v) (coefficient_in v entries)) (range_with_len 0 n)
        ∙ ap (λ t. w.weight *ℤ t) (row_sum point n entries size)

-- The least value of a box is no more than the left sides at any of its points.

false-true : false ≡ true → ⊥
false-true e = cc

least_addition-le : (fixed : Option Bool) (upper chosen : Bool) (z : ℤ) → ((to : Bool) → fixed ≡ Some to → chosen ≡ to) → (chosen ≡ true → upper ≡ true) →
    least_addition fixed upper z ≤ℤ coefficient_if chosen z
least_addition-le (Some true) upper true z is may = omega (arith, ints)
least_addition-le (Some true) upper false z is may = absurd (false-true (is true refl))
least_addition-le (Some false) upper true z is may = absurd (false-true (sym (is false refl)))
least_addition-le (Some false) upper false z is may = omega (arith, ints)
least_addition-le None true true z is may = grind (arith, ints)
least_addition-le None true false z is may = grind (arith, ints)
least_addition-le None false true z is may = absurd (false-true (may refl))
least_addition-le None false false z is may = omega (arith, ints)

-- The weighted left sides at a solution are no more than the weighted right sides.

mul-le : (w l r : ℤ) → pos 0 <ℤ w → l ≤ℤ r → (w *ℤ l) ≤ℤ (w *ℤ r)
mul-le (pos n) l r p h =
    let e : up l + down r ≤ up r + down l = omega (arith, ints) in
    omega (arith, ints, mul-le-mul_left n e)
mul-le (negsuc n) l r p h = omega (arith, ints)

row_bound : (is_equality : Bool) (w l r : ℤ) → IsPositiveOnBounds is_equality w → Compares is_equality l r → (w *ℤ l) ≤ℤ (w *ℤ r)
row_bound true w l r p e = rw e (omega (arith, ints))
row_bound false w l r p h = mul-le w l r p h

at_index : {X : Type 0} (P : X → Type 0) (xs : List X) (k : ℕ) (d : X) → AllByRecursion P xs → k < length xs → P (get_or xs k d)
at_index P [] k d all h = let no : ⊥ = omega arith in absurd no
at_index P (x ∷ xs) zero d all h = all.0
at_index P (x ∷ xs) (suc k) d all h = at_index P xs k d all.1 (omega arith)

weights_bound : (program : Program) (point : List Bool) (weights : List Weight) → IsSolution program point →
    AllByRecursion (λ w. w.row < length program.rows) weights → AllByRecursion (λ w. IsPositiveOnBounds (row_of program w).is_equality w.weight) weights →
    weighted_left program weights point ≤ℤ weighted_right program weights
weights_bound program point [] solution exist signs = omega (arith, ints)
weights_bound program point (w ∷ ws) solution exist signs =
    let rest = weights_bound program point ws solution exist.1 signs.1 in
    let here = row_bound (row_of program w).is_equality w.weight (left_side (row_of program w).entries point) (row_of program w).right signs.0
    (at_index (λ row. Compares row.is_equality (left_side row.entries point) row.right) program.rows w.row no_row solution.meets exist.0) in
    omega (arith, ints)

pub refuted_box : (program : Program) (box : List (Option Bool)) (weights : List Weight) (point : List Bool) →
    RefutesBox program box weights → IsSolution program point → IsInBox box point → ⊥
refuted_box program box weights point refutes solution inside =
    let low : least_value program box weights ≤ℤ weighted_left program weights point =
    subst (λ t. least_value program box weights ≤ℤ t) (weights_sum program point (variables program) weights solution.size)
    (total-le _ _ (range_with_len 0 (variables program))
    (λ v. least_addition-le (fixed_at box v) (is_chosen program.upper v) (is_chosen point v) (weighted_coefficient program weights v) (inside v) (solution.within v))) in
    let high = weights_bound program point weights solution refutes.exist refutes.signs in
    let over = refutes.exceeds in
    omega (arith, ints)

-- Both halves of a split.

none_some : {X : Type 0} {x : X} → None ≡ Some x → ⊥
none_some e = cc

in_half : (box : List (Option Bool)) (point : List Bool) (variable : ℕ) → IsInBox box point → IsInBox (fix box variable (is_chosen point variable)) point
in_half box point variable inside v to e = by (nat_eq v variable) refl (nat_lt variable (length box)) refl
  where
    by : (same : Bool) → nat_eq v variable ≡ same → (within : Bool) → nat_lt variable (length box) ≡ within → is_chosen point v ≡ to
    by true s true w =
        let at : v ≡ variable = grind arith in
        let lt : variable < length box = grind arith in
        let set_to : Some (is_chosen point variable) ≡ Some to = sym (get_or-set_same box variable (Some (is_chosen point variable)) None lt) ∙ ap (λ u. fixed_at (fix box variable (is_chosen point variable)) u) (sym at) ∙ e in
        ap (is_chosen point) at ∙ ap (λ o. unwrap_or o true) set_to
    by true s false w =
        let past : length (fix box variable (is_chosen point variable)) ≤ v = grind (arith, length-set) in
        let none : None ≡ Some to = sym (get_or_past (fix box variable (is_chosen point variable)) v None past) ∙ e in
        absurd (none_some none)
    by false s within w =
        let other : v ≢ variable = grind arith in
        inside v to (sym (get_or-set_other box variable v (Some (is_chosen point variable)) None other) ∙ e)

abbrev IsSound : Program → List (Option Bool) × Node → Type 0
IsSound program node = IsSoundNode program node.0 node.1

pub refuted : (program : Program) (tree : Tree) (box : List (Option Bool)) → Refutes program tree box →
    (point : List Bool) → IsSolution program point → IsInBox box point → ⊥
refuted program (Leaf weights) box refutes point solution inside = refuted_box program box weights point refutes.0 solution inside
refuted program (Split' variable _ (more_of-Tree zero' end_of-Tree) _ (more_of-Tree one end_of-Tree)) box refutes point solution inside =
    half (is_chosen point variable) (in_half box point variable inside)
    (λ h. refuted program zero' (fix box variable false) (all_left (IsSound program) (nodes_of zero' (fix box variable false)) (nodes_of one (fix box variable true)) refutes.1) point solution h)
    (λ h. refuted program one (fix box variable true) (all_right (IsSound program) (nodes_of zero' (fix box variable false)) (nodes_of one (fix box variable true)) refutes.1) point solution h)
  where
    half : (b : Bool) → IsInBox (fix box variable b) point → (IsInBox (fix box variable false) point → ⊥) → (IsInBox (fix box variable true) point → ⊥) → ⊥
    half true h z o = o h
    half false h z o = z h
refuted program Unclosed box refutes point solution inside = refutes.0
