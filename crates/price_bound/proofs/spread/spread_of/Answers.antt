use Rattle.std.proofs.Common.{arith}
use Rattle.std.specs.Option.{option_copied}
use Rattle.graph_search.proofs.Places.{below-get}
use Rattle.price_bound.proofs.Sizes.{costs-within}
use Rattle.price_bound.proofs.spread.spread_of.Goals as goal

pub least-requires-clause-source : goal.least-requires-clause-source
least-requires-clause-source c =
    let at = below-get c.args.program.now.problem.flows c.args.flow c.requires.in_range in
    let size = (c.in_ok-graph.ensures at.0 at.1).size in
    omega arith

pub least-requires-clause-costs : goal.least-requires-clause-costs
least-requires-clause-costs c =
    let at = below-get c.args.program.now.problem.flows c.args.flow c.requires.in_range in
    costs-within c.args.program.now.problem (option_copied c.args.cutoff) c.args.fixed.now c.args.flow c.args.measure c.in_ok-graph.graph.steps c.args.program.now.is (c.in_ok-graph.ensures at.0 at.1).are
