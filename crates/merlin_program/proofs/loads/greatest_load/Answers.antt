use Rattle.std.proofs.Common.{arith}
use Rattle.cutoff_program.specs.Flows.{taken_from, rate_over}
use Rattle.merlin_program.proofs.Taking.{greatest-next}
use Rattle.merlin_program.proofs.loads.greatest_load.Goals as goal

pub loop-link-preserved : goal.loop-link-preserved
loop-link-preserved c =
    let h = c.loop-link.invariant.0 in
    let p = c.loop-link-test.true in
    (omega arith, greatest-next (λ link. taken_from 0 (rate_over link) c.args.variables.now c.args.point.now) c.args.problem.now.links c.loop-link.link c.loop-link.greatest _ c.max-greatest.result (omega arith) h c.loop-link.invariant.1 c.load_of.ensures.value c.max-greatest.ensures)
