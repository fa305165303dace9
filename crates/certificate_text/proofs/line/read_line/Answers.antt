use Rattle.std.proofs.Common.{refl}
use Rattle.merlin_base.proofs.NodeLines.{no_node}
use Rattle.certificate_text.proofs.line.read_line.Goals as goal

pub returns : goal.returns
returns c = record { ok = tt; err = (refl, no_node c.args.text.now c.in_default.ensures.none c.in_default-strip_front.ensures.none c.in_default-strip_front-2.ensures.none) }
