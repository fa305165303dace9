use Rattle.std.proofs.Common.{◌≡◌, ◌≤◌, drop, length}
use Rattle.program_walks.specs.Loads.{load_by}
use Rattle.program_walks.proofs.values.load_of.Given as goal

abbrev pub invariant-loop-number : goal.invariant-loop-number
invariant-loop-number l = (l.number ≤ length l.walks) × (l.load ≡ load_by (drop l.number l.problem.flows) (drop l.number l.walks) l.directed.from l.directed.to)

abbrev pub decreases-loop-number : goal.decreases-loop-number
decreases-loop-number l = l.number
