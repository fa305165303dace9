use Rattle.std.proofs.Common.{take}
use Rattle.predicate_split.specs.Stretches.{HaveSameHolder}
use Rattle.predicate_split.proofs.stretches.entries_within.Given as goal

abbrev pub invariant-loop-entry : goal.invariant-loop-entry
invariant-loop-entry l = HaveSameHolder l.stretch l.kept (take l.entry-index l.entries)
