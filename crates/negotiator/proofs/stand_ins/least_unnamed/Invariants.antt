use Rattle.std.proofs.Common.{◌≡◌, ◌≤◌, drop}
use Rattle.predicate_split.specs.Parts.{least_from}
use Rattle.negotiator.proofs.stand_ins.least_unnamed.Given as goal

abbrev pub invariant-loop-value : goal.invariant-loop-value
invariant-loop-value l = record {
  passed : l.passed ≤ l.value-index;
  rest : least_from 0 l.named ≡ least_from l.passed (drop l.value-index l.named);
}
