use Rattle.std.proofs.Common.{refl}
use Rattle.merlin.specs.Wire.{wire_form}
use Rattle.merlin.proofs.wire.wire_reply.Goals as goal

pub returns-in-Ok : goal.returns-in-Ok
returns-in-Ok c = c.reply_over_network.ensures (wire_form c.args.command) c.args.topology.now refl c.in-Ok.ensures.ok
