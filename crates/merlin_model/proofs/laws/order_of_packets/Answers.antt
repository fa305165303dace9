use Rattle.merlin_model.proofs.PacketOrder.{irreflexive, transitive, total}
use Rattle.merlin_model.proofs.laws.order_of_packets.Goals as goal

pub returns-clause-irreflexive : goal.returns-clause-irreflexive
returns-clause-irreflexive c = irreflexive

pub returns-clause-transitive : goal.returns-clause-transitive
returns-clause-transitive c = transitive

pub returns-clause-total : goal.returns-clause-total
returns-clause-total c = total
