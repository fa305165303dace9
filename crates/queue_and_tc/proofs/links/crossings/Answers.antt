use Rattle.std.proofs.Common.{◌≡◌, arith}
use Rattle.merlin_model.specs.Words.{crossings}
use Rattle.queue_and_tc.proofs.Crossed.{no-step}
use Rattle.queue_and_tc.proofs.links.crossings.Goals as goal

pub returns-clause-count : goal.returns-clause-count
returns-clause-count c =
    let none : crossings c.steps.rest.now c.args.from c.args.to ≡ 0 = no-step c.steps.rest.now c.args.from c.args.to c.in_default.len_below in
    omega (arith, none, c.steps.invariant.same)
