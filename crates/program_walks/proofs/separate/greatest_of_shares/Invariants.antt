use Rattle.std.proofs.Common.{◌≤◌, length}
use Rattle.program_walks.proofs.Adding.{IsGreatestFrom}
use Rattle.program_walks.proofs.separate.greatest_of_shares.Given as goal

abbrev pub invariant-flows : goal.invariant-flows
invariant-flows l = (l.number ≤ length l.problem.flows) × IsGreatestFrom l.problem l.number l.greatest

abbrev pub decreases-flows : goal.decreases-flows
decreases-flows l = l.number
