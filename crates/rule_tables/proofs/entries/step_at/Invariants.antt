use Rattle.std.proofs.Common.{◌≢◌, take, Contains}
use Rattle.rule_tables.specs.declared.branches.Step.{Step}
use Rattle.rule_tables.proofs.entries.step_at.Given as goal

abbrev pub invariant-loop-step : goal.invariant-loop-step
invariant-loop-step l = (step : Step) → Contains (take l.step-index l.steps) step → step.vertex.symbol.loc ≢ l.loc
