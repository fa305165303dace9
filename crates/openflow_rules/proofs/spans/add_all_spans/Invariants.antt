use Rattle.std.proofs.Common.{◌≡◌, ◌++◌, map, take}
use Rattle.openflow_rules.specs.GroupSpans.{span_to}
use Rattle.openflow_rules.proofs.spans.add_all_spans.Given as goal

abbrev pub invariant-loop-host : goal.invariant-loop-host
invariant-loop-host l = l.spans ≡ l.fn.spans ++ map (span_to l.group l.leader) (take l.host-index l.hosts)
