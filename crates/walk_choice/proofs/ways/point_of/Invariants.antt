use Rattle.std.proofs.Common.{◌≡◌, map, take, nat_lt}
use Rattle.walk_choice.proofs.ways.point_of.Given as goal

abbrev pub invariant-loop-count : goal.invariant-loop-count
invariant-loop-count l = l.point ≡ map (nat_lt 0) (take l.count-index l.ways)
