use Rattle.std.proofs.Common.{map, take}
use Rattle.config_text.specs.Lines.{action_text}
use Rattle.config_text.specs.Separated.{AreTextsAdded}
use Rattle.config_text.proofs.rules.actions_word.Given as goal

abbrev pub invariant-loop-step : goal.invariant-loop-step
invariant-loop-step l = AreTextsAdded 32 l.fn.line (map action_text (take l.step-index l.actions)) l.separator l.line
