use Rattle.std.proofs.Common.{ℕ, ◌≡◌, ◌≢◌, ◌<◌, length, true, false, Some}
use Rattle.merlin_model.specs.Trees.{fixed_at}
use Rattle.price_bound.proofs.trials.box_within.Given as goal

abbrev pub invariant-loop-variable : goal.invariant-loop-variable
invariant-loop-variable l = record {
  size : length l.within ≡ length l.fixed;
  none : (k : ℕ) → fixed_at l.within k ≢ Some true;
  zeros : (k : ℕ) → k < l.variable → fixed_at l.fixed k ≡ Some false → fixed_at l.within k ≡ Some false;
}
