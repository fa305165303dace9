use Rattle.std.proofs.Common.{refl, ap₂, ◌*◌, sym, arith}
use Rattle.program_walks.specs.Loads.{cost_on_link}
use Rattle.program_walks.proofs.Dropping.{cost-fits}
use Rattle.program_walks.proofs.values.length_of.Goals as goal

pub overflow_add-all : goal.overflow_add-all
overflow_add-all c =
    let s = cost-fits (cost_on_link c.args.problem.now c.args.walks.now) c.args.problem.now.links _ c.loop-link.link c.loop-link.all _ _ c.load_of.result c.from.result c.loop-link-test.true c.loop-link.invariant.0 c.loop-link.invariant.1 c.as_slice.ensures refl (ap₂ (λ m n. m * n) (sym c.load_of.ensures) (sym c.from.ensures)) c.requires.small.costs in
    omega (arith, s)
