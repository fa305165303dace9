use Rattle.std.proofs.Common.{◌≡◌, ◌-◌, drop, sum_by}
use Rattle.merlin_model.specs.Rates.{constant_of_part}
use Rattle.negotiator.proofs.sums.left_beside.Given as goal

abbrev pub invariant-loop-part : goal.invariant-loop-part
invariant-loop-part l = l.left - sum_by constant_of_part (drop l.part-index l.parts) ≡ l.rate - sum_by constant_of_part l.parts
