use Rattle.std.specs.Fmt.{decimal}
use Rattle.merlin_base.proofs.NodeLines.{no_number, no_end}
use Rattle.certificate_text.proofs.line.number_line.Goals as goal

pub returns-in_default-clause-none : goal.returns-in_default-clause-none
returns-in_default-clause-none c = λ n rest small e. no_end c.args.text.now (decimal n) rest c.in_default.ensures.none e

pub returns-in-None-clause-none : goal.returns-in-None-clause-none
returns-in-None-clause-none c = no_number c.args.text.now c.in-Some.digits.now c.in-Some.rest.now c.in-Some.ensures.some.0 c.in-Some.ensures.some.1 c.in-None.ensures.none
