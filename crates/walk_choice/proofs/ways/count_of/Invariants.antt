use Rattle.std.proofs.Common.{◌≤◌}
use Rattle.walk_choice.proofs.ways.count_of.Given as goal

abbrev pub invariant-loop-place : goal.invariant-loop-place
invariant-loop-place l = l.count ≤ l.place
