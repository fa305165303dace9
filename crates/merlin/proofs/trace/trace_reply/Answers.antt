use Rattle.merlin.proofs.trace.trace_reply.Goals as goal

pub returns-in-Ok : goal.returns-in-Ok
returns-in-Ok g c = c.reply_over_network.ensures c.args.topology.now c.in-Ok.ensures.ok
