use Rattle.std.proofs.Common.{◌≡◌, ◌≤◌, drop, length}
use Rattle.merlin_model.specs.Assignments.{greatest_ratio}
use Rattle.cutoff_program.specs.Flows.{taken_from, rate_over, loads_from}
use Rattle.merlin_program.proofs.loads.greatest_ratio_of.Given as goal

abbrev pub invariant-loop-link : goal.invariant-loop-link
invariant-loop-link l = (l.link ≤ length l.problem.links) × (l.greatest ≡ greatest_ratio (loads_from (λ link. taken_from 0 (rate_over link) l.variables l.point) l.link (drop l.link l.problem.links)))

abbrev pub decreases-loop-link : goal.decreases-loop-link
decreases-loop-link l = l.link
