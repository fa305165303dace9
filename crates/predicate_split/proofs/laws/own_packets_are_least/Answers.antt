use Rattle.predicate_split.proofs.OwnPackets.{own-least}
use Rattle.predicate_split.proofs.laws.own_packets_are_least.Goals as goal

pub returns : goal.returns
returns c preds src dst cell p well packet first = own-least preds src dst cell well p packet first
