use Rattle.std.proofs.Common.{◌↔◌, ◌⊎◌, ◌+◌, ℕ, List, Contains, None, sym, subst}
use Rattle.graph_search.specs.Graphs.{ArePotentials}
use Rattle.product_graph.specs.Inside.{AreEdgesInside}
use Rattle.product_graph.specs.Reversed.{reversed_edges}
use Rattle.product_graph.specs.declared.vertex_set.NumberedVertex.{NumberedVertex}
use Rattle.product_graph.specs.Numbered.{ground_of}
use Rattle.product_graph.specs.Ends.{IsLastBy}
use Rattle.product_graph.specs.Finding.{JoinsEnd}
use Rattle.product_graph.proofs.Returning.{are-inside, are-leading}
use Rattle.product_graph.proofs.leading.leading_to_end.Goals as goal

pub edges_left-requires-clause-edges : goal.edges_left-requires-clause-edges
edges_left-requires-clause-edges c =
    let P : NumberedVertex → Type 0 = IsLastBy c.args.net.now c.args.symbols.now c.args.automaton.now c.args.destination.host in
    subst (λ n. AreEdgesInside (n + 1) c.join_end.new.edges None) (sym c.len.ensures.count)
    (are-inside P c.args.found.vertices c.args.found.edges c.join_end.new.edges c.requires.edges
    (subst (λ (l : List NumberedVertex). (e : ℕ × ℕ) → Contains c.join_end.new.edges e ↔ (Contains c.args.found.edges e ⊎ JoinsEnd P l e)) c.as_slice.ensures c.in_ok-join_end.ensures))

pub returns : goal.returns
returns c = λ followers starts long all.
    let P : NumberedVertex → Type 0 = IsLastBy c.args.net.now c.args.symbols.now c.args.automaton.now c.args.destination.host in
    are-leading (ground_of followers c.args.automaton.now) P starts c.args.found all c.join_end.new.edges
    (subst (λ (l : List NumberedVertex). (e : ℕ × ℕ) → Contains c.join_end.new.edges e ↔ (Contains c.args.found.edges e ⊎ JoinsEnd P l e)) c.as_slice.ensures c.in_ok-join_end.ensures)
    c.in_ok-distance.field-0
    (subst (λ n. ArePotentials (n + 1) (reversed_edges c.join_end.new.edges) n c.in_ok-distance.field-0) c.len.ensures.count c.in_ok-distance.ensures)
