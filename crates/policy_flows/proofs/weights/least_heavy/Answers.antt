use Rattle.std.proofs.Common.{◌≤◌, ◌<◌, ℕ, List, None, MatchOption, length, take, get_or, sym, ap, subst, arith}
use Rattle.std.proofs.lemmas.List.{take_all}
use Rattle.cutoff_program.specs.declared.flow.FlowEdge.{FlowEdge}
use Rattle.product_graph.proofs.Lists.{take-more}
use Rattle.policy_flows.specs.Layouts.{IsLight}
use Rattle.policy_flows.specs.Weights.{IsHeavyEdge}
use Rattle.policy_flows.proofs.Heaviest.{IsLeastAmong, least-more, least-of}
use Rattle.policy_flows.proofs.weights.least_heavy.Goals as goal

abbrev no_edge : FlowEdge
no_edge = record { from = 0; to = 0; crosses = None }

pub loop-edge-preserved : goal.loop-edge-preserved
loop-edge-preserved c =
    let links = c.args.links.now in
    let edges : List FlowEdge = c.args.flow.now.edges in
    let k : ℕ = c.loop-edge.edge-index in
    let below : k < length edges = subst (λ es. k < length es) c.as_slice-edge-items.ensures c.loop-edge-test.true in
    let here = subst (λ es. MatchOption c.heavy_link.result (IsLight links c.args.flow.now (get_or es k no_edge)) (IsHeavyEdge links c.args.flow.now (get_or es k no_edge))) c.as_slice-edge-items.ensures c.heavy_link.ensures in
    subst (λ es. IsLeastAmong links c.args.flow.now es c.lesser-least.result) (sym (take-more edges k no_edge below))
    (least-more links c.args.flow.now (take k edges) (get_or edges k no_edge) c.loop-edge.least c.heavy_link.result c.lesser-least.result c.loop-edge.invariant here c.lesser-least.ensures)

pub returns : goal.returns
returns c =
    let edges : List FlowEdge = c.args.flow.now.edges in
    let k : ℕ = c.loop-edge.edge-index in
    let size = ap length c.as_slice-edge-items.ensures in
    let end = c.loop-edge-test.false in
    let past : length edges ≤ k = omega (arith, size, end) in
    least-of c.args.links.now c.args.flow.now c.loop-edge.least (subst (λ es. IsLeastAmong c.args.links.now c.args.flow.now es c.loop-edge.least) (take_all k edges past) c.loop-edge.invariant)
