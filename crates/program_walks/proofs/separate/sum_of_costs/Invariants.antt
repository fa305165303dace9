use Rattle.std.proofs.Common.{◌≤◌, length}
use Rattle.program_walks.proofs.Adding.{IsSumFrom}
use Rattle.program_walks.proofs.separate.sum_of_costs.Given as goal

abbrev pub invariant-flows : goal.invariant-flows
invariant-flows l = (l.number ≤ length l.problem.flows) × IsSumFrom l.problem l.number l.total

abbrev pub decreases-flows : goal.decreases-flows
decreases-flows l = l.number
