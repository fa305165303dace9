use Rattle.config_read.proofs.HeadTexts.{no_first_line}
use Rattle.config_read.proofs.heads.read_first_line.Goals as goal

pub returns-in_err-rest-clause-none : goal.returns-in_err-rest-clause-none
returns-in_err-rest-clause-none c =
    rw c.from_residual.ensures (no_first_line c.args.text.now c.in_default.ensures.none c.in_default-strip_front.ensures.none c.in_default-strip_front-2.ensures.none c.in_err-rest.ensures.none)
