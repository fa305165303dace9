use Rattle.std.proofs.Common.{◌≡◌, drop}
use Rattle.merlin_model.specs.Machine.{is_dropped_by}
use Rattle.packet_trace.proofs.hosts.is_dropped.Given as goal

abbrev pub invariant-loop-line : goal.invariant-loop-line
invariant-loop-line l = is_dropped_by l.lines l.host l.packet ≡ is_dropped_by (drop l.line-index l.lines) l.host l.packet
