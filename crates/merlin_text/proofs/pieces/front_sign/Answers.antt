use Rattle.merlin_text.proofs.Fronts.{short_front}
use Rattle.merlin_text.proofs.pieces.front_sign.Goals as goal

pub returns-in-None-clause-some : goal.returns-in-None-clause-some
returns-in-None-clause-some c = short_front c.args.text.now c.short_sign.result c.requires.no_mac c.requires.some c.in-None.ensures.no_becomes c.short_sign.ensures.some
