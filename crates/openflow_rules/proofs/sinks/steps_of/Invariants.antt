use Rattle.sink_tree.specs.Trees.{next_in}
use Rattle.openflow_rules.specs.SinkBranches.{AreStepsBelow}
use Rattle.openflow_rules.proofs.sinks.steps_of.Given as goal

abbrev pub invariant-loop-place : goal.invariant-loop-place
invariant-loop-place l = AreStepsBelow l.product (next_in l.tree) l.end l.place l.steps
