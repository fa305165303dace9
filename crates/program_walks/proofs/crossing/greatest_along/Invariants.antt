use Rattle.std.proofs.Common.{◌≡◌, ◌≤◌, drop, length}
use Rattle.program_walks.specs.Bounds.{greatest_share}
use Rattle.program_walks.proofs.crossing.greatest_along.Given as goal

abbrev pub invariant-loop-place : goal.invariant-loop-place
invariant-loop-place l = (l.place ≤ length l.path) × (l.greatest ≡ greatest_share l.problem (drop l.place l.path))

abbrev pub decreases-loop-place : goal.decreases-loop-place
decreases-loop-place l = l.place
