use Rattle.std.proofs.Common.{◌≡◌, ◌≤◌, sum_by, drop, length}
use Rattle.program_walks.specs.Loads.{cost_on_link}
use Rattle.program_walks.proofs.values.length_of.Given as goal

abbrev pub invariant-loop-link : goal.invariant-loop-link
invariant-loop-link l = (l.link ≤ length l.problem.links) × (l.all ≡ sum_by (cost_on_link l.problem l.walks) (drop l.link l.problem.links))

abbrev pub decreases-loop-link : goal.decreases-loop-link
decreases-loop-link l = l.link
