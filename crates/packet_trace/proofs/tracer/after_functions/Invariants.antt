use Rattle.packet_trace.specs.Behaviours.{behaviour_by}
use Rattle.packet_trace.specs.contracts.tracer.after_functions.A-Fn as A-Fn
use Rattle.packet_trace.proofs.Hops.{LeavesRest}
use Rattle.packet_trace.proofs.tracer.after_functions.Given as goal

abbrev pub invariant-loop-function : goal.invariant-loop-function
invariant-loop-function g l =
    let behaviour = behaviour_by ((A-Fn.words g.row.A g.A.Fn).post l.apply) (λ d. d.now) in
    LeavesRest l.net behaviour l.functions l.function-index l.fn.packet l.changed
