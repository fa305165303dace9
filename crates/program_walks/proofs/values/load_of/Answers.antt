use Rattle.std.proofs.Common.{arith}
use Rattle.program_walks.proofs.Dropping.{load-fits}
use Rattle.program_walks.proofs.values.load_of.Goals as goal

pub overflow_mul-load : goal.overflow_mul-load
overflow_mul-load c =
    let s = load-fits c.args.problem.now.flows _ c.args.walks.now _ _ c.args.directed.now.from c.args.directed.now.to c.loop-number.number c.loop-number.load _ c.index-as_slice-number.result c.loop-number-test.true c.loop-number.invariant.0 c.requires.walks c.loop-number.invariant.1 c.as_slice-in-loop-number.ensures c.index-walks-number.is c.as_slice.ensures c.crossings_of-crossings.ensures c.requires.small in
    omega (arith, s)

pub overflow_add-load : goal.overflow_add-load
overflow_add-load c =
    let s = load-fits c.args.problem.now.flows _ c.args.walks.now _ _ c.args.directed.now.from c.args.directed.now.to c.loop-number.number c.loop-number.load _ c.index-as_slice-number.result c.loop-number-test.true c.loop-number.invariant.0 c.requires.walks c.loop-number.invariant.1 c.as_slice-in-loop-number.ensures c.index-walks-number.is c.as_slice.ensures c.crossings_of-crossings.ensures c.requires.small in
    omega (arith, s)
