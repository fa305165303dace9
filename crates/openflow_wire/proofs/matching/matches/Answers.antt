use Rattle.openflow_wire.proofs.AllThere.{whole_message}
use Rattle.openflow_wire.proofs.matching.matches.Goals as goal

pub ethernet_matches-requires : goal.ethernet_matches-requires
ethernet_matches-requires c = whole_message c.args.message.now c.requires.taken

pub network_matches-requires : goal.network_matches-requires
network_matches-requires c = whole_message c.args.message.now c.requires.taken
