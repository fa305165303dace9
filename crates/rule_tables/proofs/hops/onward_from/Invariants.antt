use Rattle.rule_tables.proofs.Going.{AreGoing}
use Rattle.rule_tables.proofs.hops.onward_from.Given as goal

abbrev pub invariant-loop-step : goal.invariant-loop-step
invariant-loop-step l = AreGoing l.steps l.start l.loc l.place l._step l.functions
