use Rattle.merlin_base.proofs.LineSkips.{no_newline, no_number_line}
use Rattle.merlin_base.proofs.nodes.skip_number_line.Goals as goal

pub returns-in_err-digits-clause-none : goal.returns-in_err-digits-clause-none
returns-in_err-digits-clause-none c = rw c.from_residual.ensures (no_newline c.args.text.now c.in_err-digits.ensures.none)

pub returns-in_err-read_number-clause-none : goal.returns-in_err-read_number-clause-none
returns-in_err-read_number-clause-none c =
    rw c.from_residual-in_err-read_number.ensures
    (no_number_line c.args.text.now c.in_ok-digits.digits.now c.in_ok-digits.rest.now c.in_ok-digits.ensures.some.0 c.in_ok-digits.ensures.some.1 c.in_err-read_number.ensures.none)
