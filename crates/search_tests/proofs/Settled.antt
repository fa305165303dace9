-- A box of two items without an open variable.
use Rattle.std.proofs.Common.{◌≡◌, ℕ, zero, suc, ◌<◌, ◌+◌, Bool, true, false, ℤ, pos, negsuc, ◌+ℤ◌, ◌*ℤ◌, ◌≤ℤ◌, ◌<ℤ◌, List, [], ◌∷◌, length, Option, None, Some, refl, sym, ◌∙◌, ap, arith}
use Rattle.std.proofs.lemmas.Int.{ints}
use Rattle.merlin_model.specs.Programs.{Program, coefficient_if, is_chosen, IsSolution}
use Rattle.merlin_model.specs.Trees.{fixed_at, least_addition, least_value, weighted_coefficient, weighted_right, row_of, IsPositiveOnBounds, RefutesBox, IsBox}
use Rattle.merlin_model.specs.declared.certificate.Weight.{Weight}
use Rattle.search_tests.specs.declared.items.Wanted.{Wanted}
use Rattle.search_tests.specs.declared.items.Wanted.TheVariants.{One, Both, Three}
use Rattle.search_tests.specs.Items.{items_at, most_spent, least_taken, may_take}
use Rattle.search_tests.specs.Settling.{is_one, are_few, spent, IsClosed}

false-true : false ≡ true → ⊥
false-true e = cc

place : (f : Option Bool) (u : Bool) (z : ℤ) → (f ≡ None → u ≡ true → ⊥) → least_addition f u z ≡ coefficient_if (is_one f) z
place (Some true) u z h = refl
place (Some false) u z h = refl
place None true z h = absurd (h refl refl)
place None false z h = refl

closed_value : (wanted : Wanted) (cutoff : Option ℕ) (box : List (Option Bool)) (weights : List Weight) → IsClosed (items_at wanted cutoff) box →
    least_value (items_at wanted cutoff) box weights
    ≡ coefficient_if (is_one (fixed_at box 0)) (weighted_coefficient (items_at wanted cutoff) weights 0) +ℤ (coefficient_if (is_one (fixed_at box 1)) (weighted_coefficient (items_at wanted cutoff) weights 1) +ℤ pos 0)
closed_value wanted cutoff box weights closed =
    let first = place (fixed_at box 0) (may_take 2 cutoff) (weighted_coefficient (items_at wanted cutoff) weights 0) (λ f u. closed 0 (record { exists = omega arith; free = f; may_be_one = u })) in
    let second = place (fixed_at box 1) (may_take 1 cutoff) (weighted_coefficient (items_at wanted cutoff) weights 1) (λ f u. closed 1 (record { exists = omega arith; free = f; may_be_one = u })) in
    ap (λ z. z +ℤ (least_addition (fixed_at box 1) (may_take 1 cutoff) (weighted_coefficient (items_at wanted cutoff) weights 1) +ℤ pos 0)) first
    ∙ ap (λ z. coefficient_if (is_one (fixed_at box 0)) (weighted_coefficient (items_at wanted cutoff) weights 0) +ℤ (z +ℤ pos 0)) second

alone : (n k : ℕ) → k + 1 < 1 → ⊥
alone n k h = omega arith

positive : (is_equality : Bool) → IsPositiveOnBounds is_equality (pos 1)
positive true = λ e. cc
positive false = omega (arith, ints)

-- a row with the weight 1 refutes the box where its right side is less than the least value
one_row : (program : Program) (row : ℕ) (box : List (Option Bool)) → row < length program.rows → weighted_right program (record { row = row; weight = pos 1 } ∷ []) <ℤ least_value program box (record { row = row; weight = pos 1 } ∷ []) →
    RefutesBox program box (record { row = row; weight = pos 1 } ∷ [])
one_row program row box lt exceeds =
    record { ascend = λ k h. absurd (alone 0 k h); exist = (lt, tt); small = (omega arith, tt); signs = (positive (row_of program (record { row = row; weight = pos 1 })).is_equality, tt); exceeds = exceeds }

pub few_refutes : (wanted : Wanted) (cutoff : Option ℕ) (box : List (Option Bool)) → IsClosed (items_at wanted cutoff) box → are_few wanted (is_one (fixed_at box 0)) (is_one (fixed_at box 1)) ≡ true →
    RefutesBox (items_at wanted cutoff) box (record { row = 0; weight = pos 1 } ∷ [])
few_refutes wanted cutoff box closed few =
    let value = closed_value wanted cutoff box (record { row = 0; weight = pos 1 } ∷ []) closed in let less = by wanted (is_one (fixed_at box 0)) (is_one (fixed_at box 1)) few in
    one_row (items_at wanted cutoff) 0 box (omega arith) (omega (arith, ints))
  where
    by : (wanted : Wanted) (x y : Bool) → are_few wanted x y ≡ true → ((pos 1 *ℤ least_taken wanted) +ℤ pos 0) <ℤ (coefficient_if x (negsuc 0) +ℤ (coefficient_if y (negsuc 0) +ℤ pos 0))
    by One true y e = absurd (false-true e)
    by One false true e = absurd (false-true e)
    by One false false e = omega (arith, ints)
    by Both true true e = absurd (false-true e)
    by Both true false e = omega (arith, ints)
    by Both false true e = omega (arith, ints)
    by Both false false e = omega (arith, ints)
    by Three true true e = omega (arith, ints)
    by Three true false e = omega (arith, ints)
    by Three false true e = omega (arith, ints)
    by Three false false e = omega (arith, ints)

pub dear_refutes : (wanted : Wanted) (cutoff : Option ℕ) (box : List (Option Bool)) → IsClosed (items_at wanted cutoff) box → most_spent cutoff <ℤ spent (is_one (fixed_at box 0)) (is_one (fixed_at box 1)) →
    RefutesBox (items_at wanted cutoff) box (record { row = 1; weight = pos 1 } ∷ [])
dear_refutes wanted cutoff box closed dear =
    let value = closed_value wanted cutoff box (record { row = 1; weight = pos 1 } ∷ []) closed in let less = by (is_one (fixed_at box 0)) (is_one (fixed_at box 1)) dear in
    one_row (items_at wanted cutoff) 1 box (omega arith) (omega (arith, ints))
  where
    by : (x y : Bool) → most_spent cutoff <ℤ spent x y → ((pos 1 *ℤ most_spent cutoff) +ℤ pos 0) <ℤ (coefficient_if x (pos 2) +ℤ (coefficient_if y (pos 1) +ℤ pos 0))
    by true true e = omega (arith, ints)
    by true false e = omega (arith, ints)
    by false true e = omega (arith, ints)
    by false false e = omega (arith, ints)

enough : (wanted : Wanted) (x y : Bool) → are_few wanted x y ≡ false → (coefficient_if x (negsuc 0) +ℤ (coefficient_if y (negsuc 0) +ℤ pos 0)) ≤ℤ least_taken wanted
enough One true true e = omega (arith, ints)
enough One true false e = omega (arith, ints)
enough One false true e = omega (arith, ints)
enough One false false e = absurd (false-true (sym e))
enough Both true true e = omega (arith, ints)
enough Both true false e = absurd (false-true (sym e))
enough Both false y e = absurd (false-true (sym e))
enough Three x y e = absurd (false-true (sym e))

pub is-solution : (wanted : Wanted) (cutoff : Option ℕ) (x y : Bool) → are_few wanted x y ≡ false → spent x y ≤ℤ most_spent cutoff → (x ≡ true → may_take 2 cutoff ≡ true) → (y ≡ true → may_take 1 cutoff ≡ true) →
    IsSolution (items_at wanted cutoff) (x ∷ y ∷ [])
is-solution wanted cutoff x y some cheap first second = record {
  size = refl;
  within = within;
  meets = (enough wanted x y some, (by x y cheap, tt));
}
  where
    within : (v : ℕ) → is_chosen (x ∷ y ∷ []) v ≡ true → is_chosen (items_at wanted cutoff).upper v ≡ true
    within zero h = first h
    within (suc zero) h = second h
    within (suc (suc v)) h = absurd (false-true h)

    by : (x y : Bool) → spent x y ≤ℤ most_spent cutoff → (coefficient_if x (pos 2) +ℤ (coefficient_if y (pos 1) +ℤ pos 0)) ≤ℤ most_spent cutoff
    by true true e = omega (arith, ints)
    by true false e = omega (arith, ints)
    by false true e = omega (arith, ints)
    by false false e = omega (arith, ints)

one_is : (f : Option Bool) → is_one f ≡ true → f ≡ Some true
one_is (Some true) e = refl
one_is (Some false) e = absurd (false-true e)
one_is None e = absurd (false-true e)

pub fits : (wanted : Wanted) (cutoff : Option ℕ) (box : List (Option Bool)) → IsBox (items_at wanted cutoff) box → are_few wanted (is_one (fixed_at box 0)) (is_one (fixed_at box 1)) ≡ false →
    spent (is_one (fixed_at box 0)) (is_one (fixed_at box 1)) ≤ℤ most_spent cutoff → IsSolution (items_at wanted cutoff) (is_one (fixed_at box 0) ∷ is_one (fixed_at box 1) ∷ [])
fits wanted cutoff box is some cheap = is-solution wanted cutoff (is_one (fixed_at box 0)) (is_one (fixed_at box 1)) some cheap
    (λ e. is.within 0 (one_is (fixed_at box 0) e)) (λ e. is.within 1 (one_is (fixed_at box 1) e))
