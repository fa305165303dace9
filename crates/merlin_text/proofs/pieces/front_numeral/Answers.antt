use Rattle.std.proofs.Common.{inl, inr, Some}
use Rattle.merlin_base.specs.Lexemes.{IsDigit}
use Rattle.merlin_text.specs.Tokens.{IsRunByte, numeral}
use Rattle.merlin_text.proofs.Fronts.{run_front, run_none}
use Rattle.merlin_text.proofs.pieces.front_numeral.Goals as goal

pub returns-in_err-kind-clause-none : goal.returns-in_err-kind-clause-none
returns-in_err-kind-clause-none c =
    rw c.from_residual.ensures
    (run_none numeral IsDigit IsRunByte c.args.text.now c.run_length-length.result (λ e. cc) (λ v r run. run) (λ b l. inr (inl l)) (λ b l. l)
    c.requires.no_mac c.requires.some c.requires.digit c.run_length-length.ensures.each c.run_length-length.ensures.longest c.in_err-kind.ensures.none)

pub returns-clause-some : goal.returns-clause-some
returns-clause-some c =
    run_front numeral IsDigit IsRunByte c.args.text.now c.run_length-length.result (Some c.in_ok-kind.kind) (λ v r run. run) (λ b l. inr (inl l))
    c.requires.no_mac c.requires.some c.requires.digit c.run_length-length.ensures.within c.run_length-length.ensures.each c.run_length-length.ensures.longest
    c.in_ok-kind.ensures.some.1 c.in_ok-kind.ensures.some.0
