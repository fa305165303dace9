use Rattle.merlin.proofs.refine.texts_reply.Goals as goal

pub returns-in-Ok : goal.returns-in-Ok
returns-in-Ok c = λ first of_parent. c.topology_reply.ensures first c.args.child.now of_parent c.in-Ok.ensures.reading
