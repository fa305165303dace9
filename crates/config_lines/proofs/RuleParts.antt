-- The line of a rule, from each of its parts on, with what stands behind it.
use Rattle.std.proofs.Common.{◌≡◌, ℕ, List, ◌∷◌, ◌++◌, ◌∙◌, append_assoc, arith}
use Rattle.std.specs.Prelude.{codes}
use Rattle.std.specs.Fmt.{decimal}
use Rattle.merlin_model.specs.declared.config.Action.{Action}
use Rattle.merlin_model.specs.declared.config.Match.{Match}
use Rattle.merlin_model.specs.declared.config.Rule.{Rule}
use Rattle.merlin_model.specs.Networks.{Network}
use Rattle.config_text.specs.Lines.{name_at, match_text, actions_text}
use Rattle.config_lines.specs.Words.{IsLocation}
use Rattle.config_lines.specs.Parts.{HasTwoBytes, IsLineMatch, AreLineActions}
use Rattle.config_lines.specs.Lines.{rule_line, IsRuleLine}
use Rattle.config_lines.proofs.Then.{behind_word, behind_part, location_free, double_free}
use Rattle.config_lines.proofs.MatchTexts.{match_free}
use Rattle.config_lines.proofs.ActionTexts.{actions_free}

abbrev pub from_actions : Network → Rule → List ℕ → List ℕ
from_actions net rule more = actions_text rule.actions ++ 10 ∷ more

abbrev pub from_fits : Network → Rule → List ℕ → List ℕ
from_fits net rule more = match_text rule.fits ++ 32 ∷ from_actions net rule more

abbrev pub from_priority : Network → Rule → List ℕ → List ℕ
from_priority net rule more = decimal rule.priority ++ 32 ∷ from_fits net rule more

abbrev pub from_loc : Network → Rule → List ℕ → List ℕ
from_loc net rule more = name_at net rule.loc ++ 32 ∷ from_priority net rule more

pub parts : (net : Network) (rule : Rule) (more : List ℕ) → rule_line net rule ++ more ≡ codes "rule " ++ from_loc net rule more
parts net rule more = simp append_assoc

pub start : (net : Network) (text r : List ℕ) (rule : Rule) (more : List ℕ) → text ≡ codes "rule " ++ r → text ≡ rule_line net rule ++ more → r ≡ from_loc net rule more
start net text r rule more e h = behind_word (codes "rule ") text r _ e (h ∙ parts net rule more)

pub after_loc : (net : Network) (text rest : List ℕ) (loc : ℕ) (rule : Rule) (more : List ℕ) → text ≡ name_at net loc ++ 32 ∷ rest → IsLocation net loc → IsRuleLine net rule → text ≡ from_loc net rule more → rest ≡ from_priority net rule more
after_loc net text rest loc rule more e f is h = behind_part 32 text (name_at net loc) rest (name_at net rule.loc) _ e (location_free 32 net loc (omega arith) f) (location_free 32 net rule.loc (omega arith) is.loc) h

pub after_priority : (net : Network) (text rest : List ℕ) (priority : ℕ) (rule : Rule) (more : List ℕ) → text ≡ decimal priority ++ 32 ∷ rest → HasTwoBytes priority → IsRuleLine net rule → text ≡ from_priority net rule more → rest ≡ from_fits net rule more
after_priority net text rest priority rule more e f is h = behind_part 32 text (decimal priority) rest (decimal rule.priority) _ e (double_free 32 priority (omega arith) f) (double_free 32 rule.priority (omega arith) is.priority) h

pub after_fits : (net : Network) (text rest : List ℕ) (fits : Match) (rule : Rule) (more : List ℕ) → text ≡ match_text fits ++ 32 ∷ rest → IsLineMatch fits → IsRuleLine net rule → text ≡ from_fits net rule more → rest ≡ from_actions net rule more
after_fits net text rest fits rule more e f is h = behind_part 32 text (match_text fits) rest (match_text rule.fits) _ e (match_free 32 fits (omega arith) f) (match_free 32 rule.fits (omega arith) is.fits) h

pub after_actions : (net : Network) (text rest : List ℕ) (actions : List Action) (rule : Rule) (more : List ℕ) → text ≡ actions_text actions ++ 10 ∷ rest → AreLineActions actions → IsRuleLine net rule → text ≡ from_actions net rule more → rest ≡ more
after_actions net text rest actions rule more e f is h = behind_part 10 text (actions_text actions) rest (actions_text rule.actions) _ e (actions_free 10 actions (omega arith) f) (actions_free 10 rule.actions (omega arith) is.actions) h
