-- What a rule does, as a list of actions.
use Rattle.std.specs.Prelude.{List, [], ◌∷◌}
use Rattle.merlin_model.specs.declared.config.Action.{Action}
use Rattle.merlin_model.specs.declared.config.Action.TheVariants.{SetVlan, StripVlan, Output, Enqueue}
use Rattle.config_lines.specs.declared.actions.Course.{Course}
use Rattle.config_lines.specs.declared.actions.Course.TheVariants.{Drop, Send, ChangeAndSend}
use Rattle.config_lines.specs.declared.rules.PlainRule.{PlainRule}
use Rattle.merlin_model.specs.declared.config.Rule.{Rule}
use Rattle.config_lines.specs.Words.{IsTag, IsQueue}
use Rattle.config_lines.specs.Parts.{IsLineOut}

-- an action with lawful numbers
abbrev pub IsAction : Action → Type 0
IsAction (SetVlan tag) = IsTag tag
IsAction StripVlan = Unit {0}
IsAction (Output out) = IsLineOut out
IsAction (Enqueue out queue) = IsLineOut out × IsQueue queue

abbrev pub course_actions : Course → List Action
course_actions Drop = []
course_actions (Send send) = send ∷ []
course_actions (ChangeAndSend change send) = change ∷ send ∷ []

abbrev pub rule_of : PlainRule → Rule
rule_of plain =
    record { loc = plain.loc; priority = plain.priority; fits = plain.fits; actions = course_actions plain.course }
