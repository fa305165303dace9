use Rattle.std.proofs.Common.{◌≡◌, ◌≤◌, ◌+◌, ◌-◌, drop, length}
use Rattle.merlin_model.specs.Words.{crossings}
use Rattle.program_walks.proofs.values.crossings_of.Given as goal

abbrev pub invariant-loop-place : goal.invariant-loop-place
invariant-loop-place l = (l.place ≤ length l.walk) × (l.count ≡ crossings (drop (l.place - 1) l.walk) l.from l.to) × (l.count + l.place ≤ length l.walk)

abbrev pub decreases-loop-place : goal.decreases-loop-place
decreases-loop-place l = l.place
