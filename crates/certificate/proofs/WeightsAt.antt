-- One of the weights of a leaf.
use Rattle.std.proofs.Common.{ℕ, ◌≤◌, ◌<◌, ◌^◌, nat_abs, List, length, get_or, arith}
use Rattle.merlin_model.specs.Programs.{Program}
use Rattle.merlin_model.specs.declared.certificate.Weight.{Weight}
use Rattle.integer_program.specs.Bounds.{IsBounded}
use Rattle.integer_program.proofs.Bounds.{within, all_at, ascending_few}
use Rattle.certificate.specs.Weights.{AreWeights}
use Rattle.certificate.proofs.AtCutoffs.{IsAt}
use Rattle.certificate.proofs.Totals.{no_weight}

pub record IsWeightAt (program plain : Program) (weights : List Weight) (k : ℕ) : Type 0 where
  pub few : length weights ≤ 16384
  pub exists : (get_or weights k no_weight).row < length plain.rows
  pub small : IsBounded (2 ^ 60) (get_or weights k no_weight).weight

pub few_weights : (program plain : Program) (weights : List Weight) → IsAt program plain → AreWeights program weights → length weights ≤ 16384
few_weights program plain weights at are =
    let few = at.form.few_rows in
    let size = ascending_few (λ (w : Weight). w.row) (length program.rows) weights are.ascend are.exist in
    omega arith

pub weight_at : (program plain : Program) (weights : List Weight) (k : ℕ) → IsAt program plain → AreWeights program weights → k < length weights → IsWeightAt program plain weights k
weight_at program plain weights k at are h = record {
  few = few_weights program plain weights at are;
  exists = let s = at.rows_same in let e = all_at (λ w. w.row < length program.rows) weights k no_weight are.exist h in omega arith;
  small = within (2 ^ 60) (get_or weights k no_weight).weight (all_at (λ w. nat_abs w.weight ≤ 2 ^ 60) weights k no_weight are.small h);
}
