use Rattle.std.proofs.Common.{◌≡◌, ◌++◌, map, take}
use Rattle.price_candidates.specs.Tried.{missing}
use Rattle.price_bound.proofs.numbers.push_missing.Given as goal

abbrev pub invariant-loop-distance : goal.invariant-loop-distance
invariant-loop-distance l = l.numbers ≡ l.fn.numbers ++ map missing (take l.distance-index l.distances)
