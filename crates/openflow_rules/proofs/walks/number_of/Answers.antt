use Rattle.std.proofs.Common.{arith}
use Rattle.openflow_rules.proofs.WalkSteps.{number-below, number-past}
use Rattle.openflow_rules.proofs.walks.number_of.Goals as goal

pub returns-clause-among : goal.returns-clause-among
returns-clause-among c = λ contains.
    let past = c.loop-number-test.false in
    let n = number-past c.args.symbols.now c.args.symbol c.loop-number.number (omega (arith, past)) c.loop-number.invariant in
    let below = number-below c.args.symbols.now c.args.symbol contains in
    omega (arith, past, n, below)
