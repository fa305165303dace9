use Rattle.std.proofs.Common.{[], ◌∷◌, ◌∙◌, ap}
use Rattle.std.proofs.lemmas.Result.{IfOk-weaker}
use Rattle.config_text.specs.Words.{line}
use Rattle.merlin.proofs.Divisions.{excess_text-is}
use Rattle.merlin.proofs.fair.excess_lines.Goals as goal

pub returns : goal.returns
returns c =
    IfOk-weaker c.named_line.result _ _
    (λ lines h. h ∙ ap (λ t. line t ∷ []) (excess_text-is c.args.what.now c.deref.result.now c.args.count (c.deref.ensures ∙ c.in_ok-text.ensures)))
    c.named_line.ensures
