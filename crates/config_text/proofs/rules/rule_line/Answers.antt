use Rattle.std.proofs.Common.{◌++◌, ◌∷◌, [], ap, codes, ◌∙◌}
use Rattle.std.specs.Fmt.{decimal}
use Rattle.std.proofs.lemmas.Result.{on_ok_weaker}
use Rattle.config_text.specs.Lines.{match_text, actions_text}
use Rattle.config_text.proofs.Spaced.{five_words}
use Rattle.config_text.proofs.rules.rule_line.Goals as goal

pub returns : goal.returns
returns c =
    on_ok_weaker c.byte.result (λ e. e ∙ rw (c.in_ok-actions_word.ensures, c.in_ok-match_word.ensures, c.in_ok-number_word.ensures, c.in_ok-word.ensures, c.in_ok-begin.ensures, c.as_slice.ensures, c.bytes.ensures, c.from.ensures)
    (ap (λ t. t ++ 10 ∷ []) (five_words (codes "rule") c.args.location.now (decimal c.args.rule.now.priority) (match_text c.args.rule.now.fits) (actions_text c.args.rule.now.actions)))) c.byte.ensures
