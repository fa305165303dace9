use Rattle.merlin_base.proofs.Decimals.{minus_none, minus_zero}
use Rattle.merlin_base.proofs.number_texts.read_whole.Goals as goal

pub returns-then-size-eq0-clause-none : goal.returns-then-size-eq0-clause-none
returns-then-size-eq0-clause-none c = minus_zero c.args.text.now c.in-Some.digits.now c.in-Some-read_up_to.size c.args.limit c.in-Some.ensures.some c.requires c.in-Some-read_up_to.ensures.some.0 c.if-size-eq0.true

pub returns-in-None-read_up_to-clause-none : goal.returns-in-None-read_up_to-clause-none
returns-in-None-read_up_to-clause-none c = minus_none c.args.text.now c.in-Some.digits.now c.args.limit c.in-Some.ensures.some c.requires c.in-None-read_up_to.ensures.none
