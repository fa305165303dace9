use Rattle.std.proofs.Common.{◌≡◌, length}
use Rattle.walk_choice.proofs.ways.push_vertex.Given as goal

abbrev pub invariant-loop-place : goal.invariant-loop-place
invariant-loop-place l = length l.ways ≡ l.place
