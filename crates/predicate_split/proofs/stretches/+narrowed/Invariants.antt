use Rattle.std.proofs.Common.{take}
use Rattle.predicate_split.specs.Stretches.{HoldTogether, HoldAnyhow}
use Rattle.predicate_split.proofs.stretches.+narrowed.Given as goal

abbrev pub invariant-narrowed_all-loop-pred : goal.invariant-narrowed_all-loop-pred
invariant-narrowed_all-loop-pred l = HoldTogether l.stretch l.kept (take l.pred-index l.preds)

abbrev pub invariant-narrowed_any-loop-pred : goal.invariant-narrowed_any-loop-pred
invariant-narrowed_any-loop-pred l = HoldAnyhow l.stretch l.kept (take l.pred-index l.preds)
