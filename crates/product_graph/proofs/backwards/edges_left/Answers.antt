use Rattle.std.proofs.Common.{◌≡◌, ◌<◌, ◌^◌, lit<, length, ap, arith}
use Rattle.graph_search.specs.Graphs.{cost_of_all}
use Rattle.product_graph.specs.Reversed.{reversed_edges}
use Rattle.product_graph.proofs.Returning.{costs-all}
use Rattle.product_graph.proofs.backwards.edges_left.Goals as goal

pub least-requires-clause-costs : goal.least-requires-clause-costs
least-requires-clause-costs c =
    let few : length c.as_slice.result.now < 2 ^ 64 = c.as_slice.type_inv.0 in
    let same : length c.as_slice.result.now ≡ length c.args.edges = ap length c.as_slice.ensures in
    let all : cost_of_all (reversed_edges c.args.edges) ≡ length c.args.edges = costs-all c.args.edges in
    let large : 2 ^ 64 < 2 ^ 120 = lit< tt in
    omega (arith, few, same, all, large)
