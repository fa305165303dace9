use Rattle.std.proofs.Common.{rules}
use Rattle.packet_trace.proofs.moves.send.Goals as goal

pub returns : goal.returns
returns c = search rules
