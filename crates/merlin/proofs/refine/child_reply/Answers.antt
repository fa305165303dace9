use Rattle.merlin.proofs.refine.child_reply.Goals as goal

pub returns-in-Ok : goal.returns-in-Ok
returns-in-Ok c = λ first second third raw read checked. c.verdict_on.ensures first second third (record {
  raw_parent = raw;
  raw_child = c.args.child.now;
  read = read;
  parent_keeps = checked.rules;
  child_keeps = c.in-Ok.ensures.ok.rules;
  parent_is = checked.policy;
  child_is = c.in-Ok.ensures.ok.policy;
})
