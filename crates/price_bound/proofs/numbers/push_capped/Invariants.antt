use Rattle.std.proofs.Common.{◌≡◌, ◌++◌, map, take}
use Rattle.price_candidates.specs.Tried.{capped}
use Rattle.price_bound.proofs.numbers.push_capped.Given as goal

abbrev pub invariant-loop-distance : goal.invariant-loop-distance
invariant-loop-distance l = l.numbers ≡ l.fn.numbers ++ map (capped l.most) (take l.distance-index l.distances)
