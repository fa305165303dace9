use Rattle.merlin.proofs.Tracing.{TellsTrace-delivered}
use Rattle.merlin.proofs.trace.reply_to_trace.Goals as goal

pub returns-in_ok-end-in-Delivered : goal.returns-in_ok-end-in-Delivered
returns-in_ok-end-in-Delivered c =
    TellsTrace-delivered c.args.net.now c.args.trace.now c.in-Delivered.host c.in-Delivered.packet c.in_ok-end-in-Delivered.end c.reply_with.result c.in-Delivered.is c.in_ok-end-in-Delivered.ensures c.reply_with.ensures
