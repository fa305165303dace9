-- Sums are set back, row by row.
use Rattle.std.proofs.Common.{◌≡◌, ◌≢◌, ℕ, zero, suc, ◌==◌, ◌+◌, ◌<◌, ◌≤◌, Bool, true, false, ◌||◌, ℤ, pos, ◌+ℤ◌, ◌*ℤ◌, List, [], ◌∷◌, ◌++◌, Option, take, drop, length, get_or, slice_set, replicate, length-set, refl, sym, ◌∙◌, ap, subst, arith, get_or-set_same, get_or-set_other}
use Rattle.std.proofs.lemmas.Int.{ints}
use Rattle.std.proofs.lemmas.List.{take_more, take_all, drop_more, drop_all, ext_get_or, length-replicate}
use Rattle.std.specs.List.{AllByRecursion, list_any}
use Rattle.merlin_model.specs.Programs.{Program, variables, row_at, coefficient_if}
use Rattle.merlin_model.specs.Trees.{row_of, coefficient_in, weighted_coefficient}
use Rattle.merlin_model.specs.declared.certificate.Weight.{Weight}
use Rattle.merlin_model.proofs.Sums.{coefficient_in-cons}
use Rattle.certificate.specs.declared.sums.Sums.{Sums}
use Rattle.certificate.specs.Adding.{sum_at, IsSum, clear_sums, has_entry, is_touched, IsCleared, IsOnlyOf}
use Rattle.certificate.proofs.AtCutoffs.{IsAt, row_narrower}
use Rattle.certificate.proofs.Totals.{no_weight, zero_at}

true-false : true ≡ false → ⊥
true-false e = cc

or-false : (a b : Bool) → (a || b) ≡ false → (a ≡ false) × (b ≡ false)
or-false true b e = absurd (true-false e)
or-false false b e = (refl, e)

or-true : (a b : Bool) → (a || b) ≡ true → b ≡ false → a ≡ true
or-true true b e f = refl
or-true false b e f = absurd (true-false (sym e ∙ f))

any-append : {X : Type 0} (f : X → Bool) (xs ys : List X) → list_any f (xs ++ ys) ≡ (list_any f xs || list_any f ys)
any-append f [] ys = refl
any-append f (x ∷ xs) ys = by (f x) (any-append f xs ys)
  where
    by : (a : Bool) → list_any f (xs ++ ys) ≡ (list_any f xs || list_any f ys) → (a || list_any f (xs ++ ys)) ≡ ((a || list_any f xs) || list_any f ys)
    by true e = refl
    by false e = e

-- A variable that no row touches has no coefficient.

absent : (v : ℕ) (entries : List (ℕ × ℤ)) → has_entry v entries ≡ false → coefficient_in v entries ≡ pos 0
absent v [] h = refl
absent v (x ∷ xs) h =
    let parts = or-false (x.0 == v) (has_entry v xs) h in
    let all = coefficient_in-cons v x xs in
    let here : coefficient_if (x.0 == v) x.1 ≡ pos 0 = ap (λ b. coefficient_if b x.1) parts.0 in
    let rest = absent v xs parts.1 in
    omega (arith, ints)

untouched : (program : Program) (weights : List Weight) (v : ℕ) → is_touched program weights v ≡ false → weighted_coefficient program weights v ≡ pos 0
untouched program [] v h = refl
untouched program (w ∷ ws) v h =
    let parts = or-false (has_entry v (row_of program w).entries) (is_touched program ws v) h in
    let zero_row : w.weight *ℤ pos 0 ≡ pos 0 = omega (arith, ints) in
    let here : w.weight *ℤ coefficient_in v (row_of program w).entries ≡ pos 0 = ap (λ z. w.weight *ℤ z) (absent v (row_of program w).entries parts.0) ∙ zero_row in
    let rest = untouched program ws v parts.1 in
    omega (arith, ints)

touched-same : (program plain : Program) (weights : List Weight) (v : ℕ) → IsAt program plain → AllByRecursion (λ w. w.row < length plain.rows) weights → is_touched program weights v ≡ is_touched plain weights v
touched-same program plain [] v at exist = refl
touched-same program plain (w ∷ ws) v at exist =
    ap (λ es. has_entry v es || is_touched program ws v) (row_narrower program plain w.row at exist.0).entries
    ∙ ap (λ b. has_entry v (row_of plain w).entries || b) (touched-same program plain ws v at exist.1)

pub only_of : (program plain : Program) (box : List (Option Bool)) (weights : List Weight) (steps : ℕ) (sums : Sums) → IsAt program plain → AllByRecursion (λ w. w.row < length plain.rows) weights →
    IsSum program box weights steps sums → IsOnlyOf plain weights sums
only_of program plain box weights steps sums at exist is = record {
  size = is.size ∙ at.variables_same;
  others = λ v h. is.each v ∙ untouched program weights v (touched-same program plain weights v at exist ∙ h);
}

-- The entries of a row.

pub cleared_none : (entries : List (ℕ × ℤ)) (start : Sums) → IsCleared (take 0 entries) start start
cleared_none entries start = record { size = refl; each = λ v h. absurd (true-false (sym h)); kept = λ v h. h }

pub cleared_more : (entries : List (ℕ × ℤ)) (start before after : Sums) (k : ℕ) → k < length entries → IsCleared (take k entries) start before →
    (get_or entries k (0, pos 0)).0 < length before.by_variable → after.by_variable ≡ slice_set before.by_variable (get_or entries k (0, pos 0)).0 (pos 0) → IsCleared (take (k + 1) entries) start after
cleared_more entries start before after k h is exists e = record {
  size = ap length e ∙ length-set before.by_variable variable (pos 0) ∙ is.size;
  each = λ v t. each v t (variable == v) refl;
  kept = λ v z. kept v z (variable == v) refl;
}
  where
    variable : ℕ
    variable = (get_or entries k (0, pos 0)).0

    here : (v : ℕ) → (variable == v) ≡ true → sum_at after v ≡ pos 0
    here v s =
        let at : variable ≡ v = grind arith in
        subst (λ u. sum_at after u ≡ pos 0) at (ap (λ xs. get_or xs variable (pos 0)) e ∙ get_or-set_same before.by_variable variable (pos 0) (pos 0) exists)

    away : (v : ℕ) → (variable == v) ≡ false → sum_at after v ≡ sum_at before v
    away v s =
        let other : v ≢ variable = grind arith in
        ap (λ xs. get_or xs v (pos 0)) e ∙ get_or-set_other before.by_variable variable v (pos 0) (pos 0) other

    parts : (v : ℕ) → has_entry v (take (k + 1) entries) ≡ (has_entry v (take k entries) || ((variable == v) || false))
    parts v = ap (has_entry v) (take_more entries k (0, pos 0) h) ∙ any-append (λ x. x.0 == v) (take k entries) (get_or entries k (0, pos 0) ∷ [])

    each : (v : ℕ) → has_entry v (take (k + 1) entries) ≡ true → (b : Bool) → (variable == v) ≡ b → sum_at after v ≡ pos 0
    each v t true s = here v s
    each v t false s = away v s ∙ is.each v (or-true (has_entry v (take k entries)) ((variable == v) || false) (sym (parts v) ∙ t) (ap (λ b. b || false) s))

    kept : (v : ℕ) → sum_at start v ≡ pos 0 → (b : Bool) → (variable == v) ≡ b → sum_at after v ≡ pos 0
    kept v z true s = here v s
    kept v z false s = away v s ∙ is.kept v z

pub cleared_whole : (entries : List (ℕ × ℤ)) (start sums : Sums) (k : ℕ) → IsCleared (take k entries) start sums → length entries ≤ k → IsCleared entries start sums
cleared_whole entries start sums k is whole = subst (λ es. IsCleared es start sums) (take_all k entries whole) is

-- The rows.

pub only_less : (program : Program) (weights : List Weight) (k : ℕ) (before after : Sums) → k < length weights → IsOnlyOf program (drop k weights) before →
    IsCleared (row_of program (get_or weights k no_weight)).entries before after → IsOnlyOf program (drop (k + 1) weights) after
only_less program weights k before after h is cleared = record {
  size = cleared.size ∙ is.size;
  others = λ v t. by v t (has_entry v (row_of program (get_or weights k no_weight)).entries) refl;
}
  where
    by : (v : ℕ) → is_touched program (drop (k + 1) weights) v ≡ false → (b : Bool) → has_entry v (row_of program (get_or weights k no_weight)).entries ≡ b → sum_at after v ≡ pos 0
    by v t true s = cleared.each v s
    by v t false s = cleared.kept v
        (is.others v (ap (λ ws. is_touched program ws v) (drop_more weights k no_weight h) ∙ ap (λ b. b || is_touched program (drop (k + 1) weights) v) s ∙ t))

pub only_none : (program : Program) (weights : List Weight) (k : ℕ) (sums after : Sums) → IsOnlyOf program (drop k weights) sums → length weights ≤ k →
    after.by_variable ≡ sums.by_variable → after.least ≡ pos 0 → after ≡ clear_sums (variables program)
only_none program weights k sums after is whole same least = λ i. record { by_variable = (same ∙ places) i; least = least i }
  where
    zeros : (v : ℕ) → get_or sums.by_variable v (pos 0) ≡ pos 0
    zeros v = is.others v (ap (λ ws. is_touched program ws v) (drop_all k weights whole))

    places : sums.by_variable ≡ replicate (variables program) (pos 0)
    places = ext_get_or (pos 0) sums.by_variable (replicate (variables program) (pos 0)) (is.size ∙ sym (length-replicate (variables program) (pos 0))) (λ v h. zeros v ∙ sym (zero_at (variables program) v))
