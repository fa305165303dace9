use Rattle.std.specs.Option.{option_copied}
use Rattle.price_bound.specs.Asked.{measured}
use Rattle.price_bound.proofs.Permitting.{AreStepsBelow}
use Rattle.price_bound.proofs.permitted.graph_of.Given as goal

abbrev pub invariant-loop-variable : goal.invariant-loop-variable
invariant-loop-variable l = AreStepsBelow l.program.problem (option_copied l.cutoff) l.fixed l.flow (measured l.program.problem l.measure) l.variable l.steps
