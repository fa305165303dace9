use Rattle.std.proofs.Common.{◌≡◌, ◌+◌, ◌≤◌, drop}
use Rattle.predicate_split.specs.Parts.{least_from as least_of}
use Rattle.predicate_split.proofs.parts.least_from.Given as goal

abbrev pub invariant-loop-value : goal.invariant-loop-value
invariant-loop-value l = record {
  passed : l.passed ≤ l.value-index;
  rest : least_of l.low l.named ≡ least_of (l.low + l.passed) (drop l.value-index l.named);
}
