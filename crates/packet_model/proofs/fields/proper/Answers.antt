use Rattle.std.proofs.Common.{rules}
use Rattle.packet_model.proofs.fields.proper.Goals as goal

pub returns-then-packet-dst-clause-between : goal.returns-then-packet-dst-clause-between
returns-then-packet-dst-clause-between c = search rules

pub returns-else-packet-dst-clause-between : goal.returns-else-packet-dst-clause-between
returns-else-packet-dst-clause-between c = search rules

pub returns-then-packet-dst-clause-in_network : goal.returns-then-packet-dst-clause-in_network
returns-then-packet-dst-clause-in_network c = search rules

pub returns-else-packet-dst-clause-in_network : goal.returns-else-packet-dst-clause-in_network
returns-else-packet-dst-clause-in_network c = search rules
