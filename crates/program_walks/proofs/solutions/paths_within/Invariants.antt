use Rattle.std.proofs.Common.{take}
use Rattle.program_walks.specs.Solutions.{TakesPaths}
use Rattle.program_walks.proofs.solutions.paths_within.Given as goal

abbrev pub invariant-loop-number : goal.invariant-loop-number
invariant-loop-number l = TakesPaths l.problem l.taken (take l.number l.problem.flows) l.point
