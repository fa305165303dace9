use Rattle.std.proofs.Common.{◌≡◌, length}
use Rattle.walk_choice.proofs.ways.keep_to.Given as goal

abbrev pub invariant-loop-place : goal.invariant-loop-place
invariant-loop-place l = length l.point ≡ length l.variables
