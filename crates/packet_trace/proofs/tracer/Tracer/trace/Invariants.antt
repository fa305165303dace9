use Rattle.std.proofs.Common.{◌<◌, ◌≤◌, ◌-◌, length, map}
use Rattle.merlin_model.specs.Machine.{start}
use Rattle.merlin_model.specs.Functions.{ReachesBy}
use Rattle.packet_trace.specs.Behaviours.{behaviour_by}
use Rattle.packet_trace.specs.Fitting.{frame_of}
use Rattle.packet_trace.specs.Trace.{record_of}
use Rattle.packet_trace.specs.contracts.tracer.Tracer.trace.A-Fn as A-Fn
use Rattle.packet_trace.proofs.tracer.Tracer.trace.Given as goal

abbrev pub invariant-hops : goal.invariant-hops
invariant-hops g l =
    let behaviour = behaviour_by ((A-Fn.words g.row.A g.A.Fn).post l.self.apply) (λ d. d.now) in
    record {
      reaches : ReachesBy l.self.net.now l.self.config.now behaviour (start l.host l.fn.packet) (map record_of l.visits) (frame_of l.frame);
      located : l.frame.loc < length l.self.net.now.locations;
      few : length l.visits ≤ 65536;
    }

abbrev pub decreases-hops : goal.decreases-hops
decreases-hops g l = 65536 - length l.visits
