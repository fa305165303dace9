use Rattle.std.proofs.Common.{◌≡◌, take}
use Rattle.price_candidates.specs.Leaves.{weights_from}
use Rattle.price_bound.proofs.leaf.leaf.Given as goal

abbrev pub invariant-loop-row : goal.invariant-loop-row
invariant-loop-row l = l.weights ≡ weights_from 0 (take l.row l.at)
