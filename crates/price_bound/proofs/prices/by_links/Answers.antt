use Rattle.std.proofs.Common.{sym, subst}
use Rattle.std.specs.Option.{option_copied}
use Rattle.price_bound.specs.Loads.{IsOfPaths}
use Rattle.price_bound.specs.Numbers.{AreLinksTried}
use Rattle.price_bound.proofs.Looking.{costs-flat, costs-tried, costs-of}
use Rattle.price_bound.proofs.prices.by_links.Goals as goal

pub try_crowded-requires-clause-paths : goal.try_crowded-requires-clause-paths
try_crowded-requires-clause-paths c =
    let problem = c.args.program.now.problem in
    let cutoff = option_copied c.args.cutoff in
    let box = c.args.fixed.now in
    subst (IsOfPaths problem cutoff box) (sym c.as_slice-point.ensures) (costs-of problem cutoff box c.args.costs c.requires.costs)

pub by_point-requires-clause-tried : goal.by_point-requires-clause-tried
by_point-requires-clause-tried c =
    let problem = c.args.program.now.problem in
    let cutoff = option_copied c.args.cutoff in
    let box = c.args.fixed.now in
    let costs = c.requires.costs in
    record {
      at = costs.at;
      paths = costs.paths;
      tried = costs-tried problem cutoff box c.args.costs costs;
      of = costs.of;
      lengths = c.requires.lengths costs.at (costs-flat problem cutoff box c.args.costs costs);
      links = subst (AreLinksTried problem cutoff box) c.in-None.is c.in_ok-weights.ensures.tried;
    }
