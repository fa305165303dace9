use Rattle.std.proofs.Common.{None, arith}
use Rattle.std.specs.Option.{option_copied}
use Rattle.cutoff_program.proofs.Forms.{count-rows}
use Rattle.price_bound.proofs.tried.try_rows.Goals as goal

pub returns-clause-tried : goal.returns-clause-tried
returns-clause-tried c = λ row h.
    let problem = c.args.program.now.problem in
    let a = count-rows problem None in
    let b = count-rows problem (option_copied c.args.cutoff) in
    let n = c.rows-row-end.ensures in
    let t = c.loop-row-test.false in
    c.loop-row.invariant.tried row (omega arith)
