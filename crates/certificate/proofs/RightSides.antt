-- The weighted sum of right sides, weight by weight.
use Rattle.std.proofs.Common.{◌≡◌, ℕ, ◌+◌, ◌*◌, ◌^◌, ◌≤◌, ◌<◌, ℤ, ◌+ℤ◌, ◌*ℤ◌, nat_abs, List, take, length, get_or, sym, ◌∙◌, ap, subst, arith, lit≤, to_z, of_z}
use mir.Syntax.{w128}
use mir.Val.{SFits}
use Rattle.std.proofs.lemmas.Int.{ints}
use Rattle.merlin_model.specs.Programs.{Program}
use Rattle.merlin_model.specs.Trees.{row_of, weighted_right}
use Rattle.merlin_model.specs.declared.certificate.Weight.{Weight}
use Rattle.integer_program.specs.Bounds.{IsBounded}
use Rattle.integer_program.proofs.Bounds.{within, within-add, within-more, total-more}
use Rattle.certificate.proofs.RowSteps.{product_of}
use Rattle.certificate.proofs.Totals.{no_weight}

pub record IsRight (program : Program) (weights : List Weight) (k : ℕ) (right : ℤ) : Type 0 where
  pub is : right ≡ weighted_right program (take k weights)
  pub small : IsBounded (k * 2 ^ 105) right

pub record IsTerm (weight right amount : ℤ) : Type 0 where
  pub is : amount ≡ weight *ℤ right
  pub small : IsBounded (2 ^ 105) amount

pub is-term : (weight right a b amount : ℤ) → IsBounded (2 ^ 60) weight → nat_abs right ≤ 2 ^ 45 → a ≡ weight → b ≡ right →
    amount ≡ to_z w128 (of_z w128 (to_z w128 (of_z w128 a) *ℤ to_z w128 (of_z w128 b))) → IsTerm weight right amount
is-term weight right a b amount w r e f h =
    let p = product_of (2 ^ 45) weight right a b amount (lit≤ tt) w r e f h in
    record { is = p.0; small = within-more (2 ^ 60 * 2 ^ 45) (2 ^ 105) _ (lit≤ tt) p.1 }

pub right_more : (program : Program) (weights : List Weight) (k : ℕ) (before after amount : ℤ) → k < length weights → IsRight program weights k before →
    IsTerm (get_or weights k no_weight).weight (row_of program (get_or weights k no_weight)).right amount → after ≡ before +ℤ amount → IsRight program weights (k + 1) after
right_more program weights k before after amount h is term e = record {
  is = e ∙ ap (λ z. before +ℤ z) term.is ∙ ap (λ z. z +ℤ ((get_or weights k no_weight).weight *ℤ (row_of program (get_or weights k no_weight)).right)) is.is
      ∙ sym (total-more (λ w. w.weight *ℤ (row_of program w).right) weights k no_weight h);
  small = subst (IsBounded ((k + 1) * 2 ^ 105)) (sym e) (within-more (k * 2 ^ 105 + 2 ^ 105) ((k + 1) * 2 ^ 105) _ (omega arith) (within-add (k * 2 ^ 105) (2 ^ 105) before amount is.small term.small));
}

-- a term more fits, and the code's sum is the sum
pub term_fits : (n : ℕ) (before amount : ℤ) → n ≤ 16384 → IsBounded (n * 2 ^ 105) before → IsBounded (2 ^ 105) amount → SFits w128 (before +ℤ amount)
term_fits n before amount few b a = omega (arith, ints)

pub term_sum : (n : ℕ) (before amount : ℤ) → n ≤ 16384 → IsBounded (n * 2 ^ 105) before → IsBounded (2 ^ 105) amount → to_z w128 (of_z w128 (before +ℤ amount)) ≡ before +ℤ amount
term_sum n before amount few b a = omega (arith, ints)

pub sum_fits : (n : ℕ) (sum : ℤ) → n ≤ 16384 → IsBounded (n * 2 ^ 105) sum → SFits w128 sum
sum_fits n sum few small = omega (arith, ints)
