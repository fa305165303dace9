use Rattle.std.proofs.Common.{◌≡◌, ◌++◌, map, take}
use Rattle.packet_trace.specs.Trace.{record_of}
use Rattle.merlin.specs.Trace.{visit_line}
use Rattle.merlin.proofs.trace_lines.push_visits.Given as goal

abbrev pub invariant-loop-visit : goal.invariant-loop-visit
invariant-loop-visit l = l.lines.items ≡ l.initial.lines.items ++ map (visit_line l.net) (map record_of (take l.visit-index l.visits))
