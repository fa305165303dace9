use Rattle.std.proofs.Common.{rules}
use Rattle.packet_trace.proofs.moves.arrived_at.Goals as goal

pub returns-in-Some : goal.returns-in-Some
returns-in-Some c = search rules
