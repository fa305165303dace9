use Rattle.std.proofs.Common.{take, Contains, Some}
use Rattle.openflow_rules.proofs.groups.group_with.Given as goal

abbrev pub invariant-loop-group : goal.invariant-loop-group
invariant-loop-group l = ¬ Contains (take l.group l.kinds) (Some l.kind)
