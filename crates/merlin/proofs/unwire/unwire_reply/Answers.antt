use Rattle.std.proofs.Common.{refl}
use Rattle.merlin.specs.Unwire.{unwire_form}
use Rattle.merlin.proofs.unwire.unwire_reply.Goals as goal

pub returns-in-Ok : goal.returns-in-Ok
returns-in-Ok c = c.reply_over_network.ensures (unwire_form c.args.command) c.args.topology.now refl c.in-Ok.ensures.ok
