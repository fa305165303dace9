use Rattle.std.proofs.Common.{◌≡◌, length, map, Some, suc, sym, ◌∙◌, ap, subst}
use Rattle.product_graph.specs.Inside.{AreEdgesInside}
use Rattle.product_graph.specs.Numbered.{ground_of}
use Rattle.product_graph.specs.Kept.{listed_by}
use Rattle.product_graph.proofs.Lists.{length-more, map-length}
use Rattle.product_graph.proofs.Trimming.{assembled-inside}
use Rattle.product_graph.proofs.product.assembled.Goals as goal

pub invariant_of-result : goal.invariant_of-result
invariant_of-result c =
    let size : length c.in_ok-vertices.vertices ≡ suc (length c.args.kept.now.vertices) =
    ap length c.in_ok-vertices.ensures ∙ length-more (map (listed_by c.args.symbols.now) c.as_slice.result.now) c.args.end ∙ ap suc (map-length (listed_by c.args.symbols.now) c.as_slice.result.now ∙ ap length c.as_slice.ensures) in
    let inside = assembled-inside (ground_of c.args.followers.now c.args.automaton.now) c.args.kept.now.vertices c.args.lasts.now c.in_ok-edges.edges c.in_ok-edges.ensures in
    record { inside = subst (λ n. AreEdgesInside n c.in_ok-edges.edges (Some c.len.result)) (sym size) (subst (λ m. AreEdgesInside (suc (length c.args.kept.now.vertices)) c.in_ok-edges.edges (Some m)) (sym c.len.ensures.count) inside) }
