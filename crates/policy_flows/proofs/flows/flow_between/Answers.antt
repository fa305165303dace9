use Rattle.std.proofs.Common.{◌≡◌, sym, subst}
use Rattle.topology.specs.Symbols.{network_symbols}
use Rattle.product_graph.specs.Products.{automaton_of}
use Rattle.product_graph.proofs.Lists.{if-ok}
use Rattle.rules_model.specs.Products.{SymbolAutomaton}
use Rattle.policy_flows.specs.Layouts.{IsFlowBetween}
use Rattle.policy_flows.specs.Edges.{flow_over}
use Rattle.policy_flows.proofs.Pairs.{flow-between}
use Rattle.policy_flows.proofs.flows.flow_between.Goals as goal

pub returns : goal.returns
returns c =
    let net = c.args.net.now in
    let a : SymbolAutomaton = automaton_of (network_symbols c.args.net.now) c.args.automaton.now in
    let e = c.args.ends.now in
    let product = c.in_ok-product.product in
    let rate = c.args.rate in
    if-ok (λ found. found ≡ flow_over c.args.links.now product rate) (λ found. IsFlowBetween net a rate e.src e.dst found.flow found.symbols) c.flow_of.result
    (λ found is. subst (λ f. IsFlowBetween net a rate e.src e.dst f.flow f.symbols) (sym is)
    (subst (λ ls. IsFlowBetween net a rate e.src e.dst (flow_over ls product rate).flow (flow_over ls product rate).symbols) (sym c.requires.links)
    (flow-between net a e.src e.dst rate product c.requires.src c.in_ok-product.ensures)))
    c.flow_of.ensures
