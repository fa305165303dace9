use Rattle.std.proofs.Common.{◌≡◌, take}
use Rattle.openflow_rules.specs.GroupSpans.{spans_over}
use Rattle.openflow_rules.proofs.spans.group_spans.Given as goal

abbrev pub invariant-loop-group : goal.invariant-loop-group
invariant-loop-group l = l.spans ≡ spans_over l.hosts l.ends (take l.group l.leaders)
