use Rattle.std.proofs.Common.{◌≡◌, ◌≤◌, ◌-◌, length}
use Rattle.walk_choice.proofs.ways.ways_of.Given as goal

abbrev pub invariant-vertices : goal.invariant-vertices
invariant-vertices l = (length l.ways ≡ l.start) × (l.start ≤ length l.variables)

abbrev pub decreases-vertices : goal.decreases-vertices
decreases-vertices l = length l.variables - l.start
