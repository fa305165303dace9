use Rattle.std.proofs.Common.{◌++◌, ◌∷◌, [], ℕ, List, take, get_or, sym, subst}
use Rattle.product_graph.specs.declared.vertex_set.NumberedVertex.{NumberedVertex}
use Rattle.product_graph.specs.Joining.{AreLasts}
use Rattle.product_graph.proofs.Lists.{take-more}
use Rattle.product_graph.proofs.Listing.{lasts-next}
use Rattle.product_graph.proofs.joining.lasts_among.Goals as goal

abbrev none : NumberedVertex
none = record { symbol = 0; state = 0 }

pub loop-vertex-preserved : goal.loop-vertex-preserved
loop-vertex-preserved c =
    let i : ℕ = c.loop-vertex.vertex-index in
    let vertices : List NumberedVertex = c.args.vertices.now in
    subst (λ (l : List NumberedVertex). AreLasts c.args.net.now c.args.symbols.now c.args.automaton.now c.args.destination.host l c.push.new.self) (sym (take-more vertices i none c.loop-vertex-test.true))
    (subst (AreLasts c.args.net.now c.args.symbols.now c.args.automaton.now c.args.destination.host (take i vertices ++ get_or vertices i none ∷ [])) (sym c.in_ok-push.ensures.ok)
    (lasts-next c.args.net.now c.args.symbols.now c.args.automaton.now c.args.destination.host (take i vertices) c.loop-vertex.lasts (get_or vertices i none) c.is_last.result c.loop-vertex.invariant c.is_last.ensures))
