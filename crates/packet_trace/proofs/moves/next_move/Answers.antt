use Rattle.packet_trace.specs.Fitting.{frame_of}
use Rattle.packet_trace.proofs.Steps.{plain_move, away_from}
use Rattle.packet_trace.proofs.moves.next_move.Goals as goal

pub returns-in-Host : goal.returns-in-Host
returns-in-Host c = plain_move c.args.net.now c.args.config.now (frame_of c.args.frame.now) c.plain_move.result (away_from c.args.net.now c.args.frame.now.loc c.place.result c.place.ensures c.in-Host.is) c.plain_move.ensures
