use Rattle.std.proofs.Common.{◌≡◌, map, take}
use Rattle.delegation.proofs.joining.preds_of.Given as goal

abbrev pub invariant-loop-r : goal.invariant-loop-r
invariant-loop-r l = l.preds ≡ map (λ r. r.statement.pred) (take l.r-index l.statements)
