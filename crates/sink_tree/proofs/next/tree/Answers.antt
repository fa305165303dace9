use Rattle.std.proofs.Common.{◌≡◌, ◌++◌, ℕ, List, Option, length, sym, ◌∙◌, subst}
use Rattle.graph_search.specs.Graphs.{ArePotentials}
use Rattle.sink_tree.specs.Backwards.{turned_edges}
use Rattle.sink_tree.specs.Nearest.{AreNearest}
use Rattle.sink_tree.proofs.Places.{some-same}
use Rattle.sink_tree.proofs.Trees.{sink-tree}
use Rattle.sink_tree.proofs.next.tree.Goals as goal

pub returns-clause-tree : goal.returns-clause-tree
returns-clause-tree c = λ net a span is.
    let product = c.args.product.now in
    let end : c.in-Some.end ≡ length (is.first ++ is.inner) = some-same (sym c.in-Some.is ∙ c.end.ensures ∙ is.end) in
    let known : ArePotentials (length product.vertices) (turned_edges product.edges) (length (is.first ++ is.inner)) c.in_ok-distance.field-0 = subst (λ (k : ℕ). ArePotentials (length product.vertices) (turned_edges product.edges) k c.in_ok-distance.field-0) end c.in_ok-distance.ensures in
    let distance : c.as_slice.result.now ≡ c.in_ok-distance.field-0.distance = c.as_slice.ensures in
    let there : AreNearest c.in_ok-distance.field-0.distance c.edges-edges.result.now c.in_ok-next.next = subst (λ (d : List (Option ℕ)). AreNearest d c.edges-edges.result.now c.in_ok-next.next) distance c.in_ok-next.ensures in
    let nearest : AreNearest c.in_ok-distance.field-0.distance product.edges c.in_ok-next.next = subst (λ (es : List (ℕ × ℕ)). AreNearest c.in_ok-distance.field-0.distance es c.in_ok-next.next) c.edges-edges.ensures.edges there in
    sink-tree net a span product is (length product.vertices) c.in_ok-distance.field-0 known c.in_ok-next.next nearest
