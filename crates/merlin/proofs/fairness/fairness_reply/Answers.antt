use Rattle.merlin.proofs.fairness.fairness_reply.Goals as goal

pub returns-in-Ok : goal.returns-in-Ok
returns-in-Ok c = c.shares_reply.ensures c.args.demands.now c.in-Ok.ensures.ok
