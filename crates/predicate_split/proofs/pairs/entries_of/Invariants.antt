use Rattle.std.proofs.Common.{◌≡◌, ◌++◌, drop}
use Rattle.predicate_split.specs.Overlaps.{placed_from}
use Rattle.predicate_split.proofs.pairs.entries_of.Given as goal

abbrev pub invariant-loop-place : goal.invariant-loop-place
invariant-loop-place l = l.entries ++ placed_from l.place (drop l.place l.preds) ≡ placed_from 0 l.preds
