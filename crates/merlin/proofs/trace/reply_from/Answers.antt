use Rattle.merlin.proofs.Tracing.{TellsRun-from_trace}
use Rattle.merlin.proofs.trace.reply_from.Goals as goal

pub returns-in-Ok : goal.returns-in-Ok
returns-in-Ok g c = TellsRun-from_trace _ _ _ _ c.in-Ok.trace c.reply_to_trace.result c.in-Ok.ensures c.reply_to_trace.ensures
