use Rattle.merlin.proofs.refine.parent_reply.Goals as goal

pub returns-in-Ok : goal.returns-in-Ok
returns-in-Ok c = λ first second third read. c.child_reply.ensures first second third c.args.parent.now read c.in-Ok.ensures.ok
