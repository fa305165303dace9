use Rattle.std.proofs.Common.{◌≡◌, ◌++◌, drop}
use Rattle.predicate_split.specs.Left.{entries_between as between}
use Rattle.predicate_split.proofs.left.entries_between.Given as goal

abbrev pub invariant-loop-place : goal.invariant-loop-place
invariant-loop-place l = l.left ++ between l.src l.dst l.place (drop l.place l.preds) ≡ between l.src l.dst 0 l.preds
