use Rattle.merlin_base.proofs.Decimals.{too_great}
use Rattle.merlin_base.proofs.number_texts.read_up_to.Goals as goal

pub returns-else-number-limit-clause-none : goal.returns-else-number-limit-clause-none
returns-else-number-limit-clause-none c = too_great c.args.text.now c.in-Some.number c.args.limit c.requires c.in-Some.ensures.some c.if-number-limit.false
