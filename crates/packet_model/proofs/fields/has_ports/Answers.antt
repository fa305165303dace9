use Rattle.std.proofs.Common.{rules}
use Rattle.packet_model.proofs.fields.has_ports.Goals as goal

pub returns-then-proto-eq6 : goal.returns-then-proto-eq6
returns-then-proto-eq6 c = search rules

pub returns-else-proto-eq6 : goal.returns-else-proto-eq6
returns-else-proto-eq6 c = search rules
