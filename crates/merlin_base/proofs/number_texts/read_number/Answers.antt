use Rattle.merlin_base.proofs.Decimals.{decimal_of, no_decimal}
use Rattle.merlin_base.proofs.number_texts.read_number.Goals as goal

pub returns-in-Some-clause-some : goal.returns-in-Some-clause-some
returns-in-Some-clause-some c = decimal_of c.args.text.now c.in-Some.number c.in-Some.ensures.value

pub returns-in-None-clause-none : goal.returns-in-None-clause-none
returns-in-None-clause-none c = no_decimal c.args.text.now c.in-None.ensures.none
