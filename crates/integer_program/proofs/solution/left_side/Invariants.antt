use Rattle.integer_program.proofs.Sides.{IsLeft}
use Rattle.integer_program.proofs.solution.left_side.Given as goal

abbrev pub invariant-loop-variable : goal.invariant-loop-variable
invariant-loop-variable l = IsLeft l.entries l.point l.variable-index l.left
