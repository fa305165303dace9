use Rattle.std.proofs.Common.{◌≡◌, ◌≤◌, map, drop, length}
use Rattle.merlin_model.specs.Rates.{greatest_of}
use Rattle.program_walks.specs.Loads.{load_on_link}
use Rattle.program_walks.proofs.values.greatest_load.Given as goal

abbrev pub invariant-loop-link : goal.invariant-loop-link
invariant-loop-link l = (l.link ≤ length l.problem.links) × (l.greatest ≡ greatest_of (map (load_on_link l.problem l.walks) (drop l.link l.problem.links)))

abbrev pub decreases-loop-link : goal.decreases-loop-link
decreases-loop-link l = l.link
