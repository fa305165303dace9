use Rattle.std.proofs.Common.{IsTrue}
use Rattle.merlin_model.proofs.PacketOrder.{one-least}
use Rattle.merlin_model.proofs.laws.one_least_packet.Goals as goal

pub returns : goal.returns
returns c = λ has. one-least (λ r. IsTrue (has r))
