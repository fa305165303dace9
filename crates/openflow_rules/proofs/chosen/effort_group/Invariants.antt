use Rattle.std.proofs.Common.{◌≡◌, take}
use Rattle.openflow_rules.proofs.chosen.effort_group.Given as goal

abbrev pub invariant-loop-branch : goal.invariant-loop-branch
invariant-loop-branch l = l.branches ≡ take l.branch-index l.own
