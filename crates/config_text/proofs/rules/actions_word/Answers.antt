use Rattle.config_text.specs.Lines.{action_text}
use Rattle.config_text.proofs.Separators.{written_next}
use Rattle.config_text.proofs.rules.actions_word.Goals as goal

pub loop-step-preserved : goal.loop-step-preserved
loop-step-preserved c = written_next action_text c.args.actions.now c.loop-step.step-index _ c.loop-step-test.true c.loop-step.invariant c.in_ok-listed_action.ensures
