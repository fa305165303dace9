use Rattle.std.proofs.Common.{refl}
use Rattle.packet_trace.proofs.Hops.{one_function, all_functions}
use Rattle.packet_trace.proofs.tracer.after_functions.Goals as goal

pub loop-function-init : goal.loop-function-init
loop-function-init g c = λ q made. made

pub loop-function-preserved : goal.loop-function-preserved
loop-function-preserved g c =
    one_function c.args.net.now _ c.args.functions.now c.args.packet c.loop-function.function-index _ c.loop-function.changed c.after_function-changed.result
    c.loop-function-test.true refl c.loop-function.invariant c.after_function-changed.ensures

pub returns : goal.returns
returns g c = all_functions c.args.net.now _ c.args.functions.now c.args.packet c.loop-function.function-index c.loop-function.changed c.loop-function-test.false c.loop-function.invariant
