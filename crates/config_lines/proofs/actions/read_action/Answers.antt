use Rattle.std.proofs.Common.{◌∙◌, sym}
use Rattle.config_lines.proofs.Then.{unlike}
use Rattle.config_lines.proofs.ActionTexts.{no_action}
use Rattle.config_lines.proofs.actions.read_action.Goals as goal

pub returns-in_err-place-clause-none : goal.returns-in_err-place-clause-none
returns-in_err-place-clause-none c =
    rw c.from_residual-in_err-place.ensures
    (no_action c.args.word.now c.in_default.ensures.none (λ e. unlike c.args.word.now c.as_slice.result.now c.eq.result c.eq.ensures c.if-eq.false (e ∙ sym c.as_slice.ensures)) c.in_default-strip_front.ensures.none c.in_err-place.ensures.none)
