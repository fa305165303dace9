use Rattle.std.proofs.Common.{sym, ◌∙◌}
use Rattle.path_regex.proofs.Plain.{empty_word}
use Rattle.path_regex.proofs.nullable.Goals as goal

pub returns-clause-empty : goal.returns-clause-empty
returns-clause-empty c = (λ t. (empty_word c.args.path.now).0 (sym c.takes_empty.ensures ∙ t), λ h. c.takes_empty.ensures ∙ (empty_word c.args.path.now).1 h)
