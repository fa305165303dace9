-- Rows are added one by one.
use Rattle.std.proofs.Common.{◌≡◌, ℕ, zero, suc, ◌+◌, ◌*◌, ◌^◌, ◌≤◌, ◌<◌, Bool, true, false, ℤ, pos, negsuc, neg_ℤ, ◌+ℤ◌, ◌*ℤ◌, List, [], take, drop, length, replicate, Option, None, Some, get_or, refl, sym, ◌∙◌, ap, subst, arith}
use Rattle.std.proofs.lemmas.Int.{ints}
use Rattle.std.proofs.lemmas.List.{drop_more, drop_all, ext_get_or, length-replicate}
use Rattle.std.specs.List.{range_with_len}
use Rattle.merlin_model.specs.Programs.{Program, variables, is_chosen, row_at}
use Rattle.merlin_model.specs.Trees.{fixed_at, row_of, coefficient_in, least_addition, weighted_coefficient, least_value}
use Rattle.merlin_model.specs.declared.certificate.Weight.{Weight}
use Rattle.merlin_model.proofs.Sums.{total-same, total-zero}
use Rattle.integer_program.specs.Bounds.{IsBounded}
use Rattle.integer_program.proofs.Bounds.{total-more}
use Rattle.certificate.specs.declared.sums.Sums.{Sums}
use Rattle.certificate.specs.Adding.{sum_at, AreSumsWithin, least_sum, IsSum, clear_sums}

abbrev pub no_weight : Weight
no_weight = record { row = 0; weight = pos 0 }

-- A weighted row is added.
pub record IsMoved (program : Program) (box : List (Option Bool)) (row : ℕ) (weight : ℤ) (before after : Sums) : Type 0 where
  pub size : length after.by_variable ≡ variables program
  pub each : (v : ℕ) → sum_at after v ≡ sum_at before v +ℤ (weight *ℤ coefficient_in v (row_at program row).entries)
  pub least : after.least ≡ least_sum program box after.by_variable
  pub small : (bound : ℕ) → AreSumsWithin bound before → AreSumsWithin (bound + 2 ^ 105) after

more_steps : (n : ℕ) (sums : Sums) → AreSumsWithin (n * 2 ^ 105 + 2 ^ 105) sums → AreSumsWithin ((n + 1) * 2 ^ 105) sums
more_steps n sums small = subst (λ b. AreSumsWithin b sums) (let e : n * 2 ^ 105 + 2 ^ 105 ≡ (n + 1) * 2 ^ 105 = omega arith in e) small

pub sum_more : (program : Program) (box : List (Option Bool)) (weights : List Weight) (k : ℕ) (before after : Sums) → k < length weights → IsSum program box (take k weights) k before →
    IsMoved program box (get_or weights k no_weight).row (get_or weights k no_weight).weight before after → IsSum program box (take (k + 1) weights) (k + 1) after
sum_more program box weights k before after h is moved = record {
  size = moved.size;
  each = λ v. moved.each v ∙ ap (λ z. z +ℤ ((get_or weights k no_weight).weight *ℤ coefficient_in v (row_of program (get_or weights k no_weight)).entries)) (is.each v)
      ∙ sym (total-more (λ w. w.weight *ℤ coefficient_in v (row_of program w).entries) weights k no_weight h);
  least = moved.least;
  small = more_steps k after (moved.small (k * 2 ^ 105) is.small);
}

-- Sums that are clear.

pub zero_at : (n v : ℕ) → get_or (replicate n (pos 0)) v (pos 0) ≡ pos 0
zero_at zero v = refl
zero_at (suc n) zero = refl
zero_at (suc n) (suc v) = zero_at n v

least-zero : (fixed : Option Bool) (upper : Bool) → least_addition fixed upper (pos 0) ≡ pos 0
least-zero (Some true) upper = refl
least-zero (Some false) upper = refl
least-zero None true = refl
least-zero None false = refl

least_sum-zero : (program : Program) (box : List (Option Bool)) (sums : List ℤ) → ((v : ℕ) → get_or sums v (pos 0) ≡ pos 0) → least_sum program box sums ≡ pos 0
least_sum-zero program box sums zeros = total-zero _ (range_with_len 0 (variables program))
    (λ v. ap (least_addition (fixed_at box v) (is_chosen program.upper v)) (zeros v) ∙ least-zero (fixed_at box v) (is_chosen program.upper v))

pub sum_none : (program : Program) (box : List (Option Bool)) (sums : Sums) (n : ℕ) → sums ≡ clear_sums n → n ≡ variables program → IsSum program box [] 0 sums
sum_none program box sums n e size = subst (IsSum program box [] 0) (sym e) (record {
  size = length-replicate n (pos 0) ∙ size;
  each = λ v. zero_at n v;
  least = sym (least_sum-zero program box (replicate n (pos 0)) (zero_at n));
  small = record { each = λ v. subst (IsBounded 0) (sym (zero_at n v)) within-zero; least = within-zero };
})
  where
    within-zero : IsBounded 0 (pos 0)
    within-zero = record { low = omega (arith, ints); high = omega (arith, ints) }

pub sum_least : (program : Program) (box : List (Option Bool)) (weights : List Weight) (steps : ℕ) (sums : Sums) → IsSum program box weights steps sums → sums.least ≡ least_value program box weights
sum_least program box weights steps sums is = is.least ∙ total-same _ _ (range_with_len 0 (variables program)) (λ v. ap (least_addition (fixed_at box v) (is_chosen program.upper v)) (is.each v))
