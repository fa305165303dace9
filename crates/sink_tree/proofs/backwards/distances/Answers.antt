use Rattle.std.proofs.Common.{◌≡◌, ◌<◌, ◌^◌, lit<, length, ap, arith}
use Rattle.graph_search.specs.Graphs.{cost_of_all}
use Rattle.sink_tree.specs.Backwards.{turned_edges}
use Rattle.sink_tree.proofs.Distances.{costs-all}
use Rattle.sink_tree.proofs.backwards.distances.Goals as goal

pub least-requires-clause-costs : goal.least-requires-clause-costs
least-requires-clause-costs c =
    let few : length c.edges.result.now < 2 ^ 64 = c.edges.type_inv.0 in
    let same : length c.edges.result.now ≡ length c.args.product.now.edges = ap length c.edges.ensures.edges in
    let all : cost_of_all (turned_edges c.args.product.now.edges) ≡ length c.args.product.now.edges = costs-all c.args.product.now.edges in
    let large : 2 ^ 64 < 2 ^ 120 = lit< tt in
    omega (arith, few, same, all, large)
