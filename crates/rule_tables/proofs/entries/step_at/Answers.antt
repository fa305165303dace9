use Rattle.std.proofs.Common.{◌≢◌, Contains, None, sym, subst}
use Rattle.std.proofs.lemmas.List.{take_all}
use Rattle.rule_tables.specs.declared.branches.Step.{Step}
use Rattle.rule_tables.proofs.Placing.{each-next}
use Rattle.rule_tables.proofs.entries.step_at.Goals as goal

abbrev no_step : Step
no_step = record { vertex = record { symbol = record { loc = 0; fun = None }; state = 0 }; next = None }

pub loop-step-preserved : goal.loop-step-preserved
loop-step-preserved c = each-next (λ s. s.vertex.symbol.loc ≢ c.args.loc) c.args.steps.now c.loop-step.step-index no_step c.loop-step-test.true c.loop-step.invariant c.if-step-loc.false

pub returns : goal.returns
returns c = λ step among. c.loop-step.invariant step (subst (λ ss. Contains ss step) (sym (take_all c.loop-step.step-index c.args.steps.now c.loop-step-test.false)) among)
