use Rattle.std.proofs.Common.{◌≡◌, ◌++◌, drop}
use Rattle.predicate_split.specs.Left.{entries_at as at}
use Rattle.predicate_split.proofs.left.entries_at.Given as goal

abbrev pub invariant-loop-entry : goal.invariant-loop-entry
invariant-loop-entry l = l.left ++ at l.field l.value (drop l.entry-index l.entries) ≡ at l.field l.value l.entries
