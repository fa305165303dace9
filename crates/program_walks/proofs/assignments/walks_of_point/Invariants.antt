use Rattle.std.proofs.Common.{take}
use Rattle.program_walks.specs.Solutions.{AreWordsIf}
use Rattle.program_walks.proofs.assignments.walks_of_point.Given as goal

abbrev pub invariant-loop-number : goal.invariant-loop-number
invariant-loop-number l = AreWordsIf l.problem l.point 0 (take l.number l.problem.flows) (take l.number l.symbols) l.walks
