use Rattle.merlin.proofs.refine.topology_reply.Goals as goal

pub returns-in-Ok : goal.returns-in-Ok
returns-in-Ok c = λ first second of_parent of_child. c.parent_reply.ensures first second c.args.topology.now (record { of_parent = of_parent; of_child = of_child; of_network = c.in-Ok.ensures.ok })
