use Rattle.std.proofs.Common.{◌≡◌, not, drop, filter_map, take_while}
use Rattle.std.specs.List.{last_or}
use Rattle.merlin_model.specs.Machine.{class_by, class_of, leaves}
use Rattle.packet_trace.proofs.hosts.class_by.Given as goal

abbrev pub invariant-loop-line : goal.invariant-loop-line
invariant-loop-line l =
    class_by l.lines l.host l.packet ≡ last_or l.class (filter_map (class_of l.host l.packet) (take_while (λ q. not (leaves l.host l.packet q)) (drop l.line-index l.lines)))
