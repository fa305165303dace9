use Rattle.std.proofs.Common.{ℕ, ◌≡◌, ◌≤◌, map, drop, length}
use Rattle.merlin_model.specs.Rates.{greatest_of}
use Rattle.cutoff_program.specs.Flows.{taken_from, rate_over, loads_from}
use Rattle.merlin_program.proofs.loads.greatest_load.Given as goal

abbrev pub invariant-loop-link : goal.invariant-loop-link
invariant-loop-link l = (l.link ≤ length l.problem.links) × (l.greatest ≡ greatest_of (map (λ (x : ℕ × ℕ). x.0) (loads_from (λ link. taken_from 0 (rate_over link) l.variables l.point) l.link (drop l.link l.problem.links))))

abbrev pub decreases-loop-link : goal.decreases-loop-link
decreases-loop-link l = l.link
