use Rattle.price_bound.proofs.Loading.{AreLoadsTo}
use Rattle.price_bound.proofs.loads.loads_of.Given as goal

abbrev pub invariant-loop-variable : goal.invariant-loop-variable
invariant-loop-variable l = AreLoadsTo l.program.problem l.point l.fixed l.variable l.loads
