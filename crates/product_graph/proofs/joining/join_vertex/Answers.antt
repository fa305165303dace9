use Rattle.std.proofs.Common.{◌≡◌, ◌++◌, ◌∷◌, [], ℕ, List, length, get_or, slice_get, Some, append_assoc, sym, ◌∙◌, ap, ap₂}
use Rattle.product_graph.specs.declared.vertex_set.NumberedVertex.{NumberedVertex}
use Rattle.product_graph.specs.Numbered.{Ground, ground_of}
use Rattle.product_graph.proofs.Lists.{get-at}
use Rattle.product_graph.proofs.Joins.{out-with, out-without}
use Rattle.product_graph.proofs.joining.join_vertex.Goals as goal

abbrev none : NumberedVertex
none = record { symbol = 0; state = 0 }

pub returns-in_ok-push : goal.returns-in_ok-push
returns-in_ok-push c =
    let g : Ground = ground_of c.args.followers.now c.args.automaton.now in
    let kept : List NumberedVertex = c.args.kept.now in
    let place : ℕ = c.args.place in
    let p : NumberedVertex = get_or c.as_slice.result.now place none in
    let here : slice_get kept place ≡ Some p = get-at kept place none c.requires.place ∙ ap (λ (l : List NumberedVertex). Some (get_or l place none)) (sym c.as_slice.ensures) in
    let added = c.in_ok-join_followers.ensures in (
      added.0 ++ (place, length kept) ∷ [],
      c.in_ok-push.ensures.ok ∙ ap₂ (λ (l : List (ℕ × ℕ)) n. l ++ (place, n) ∷ []) added.1 c.len.ensures.count ∙ append_assoc c.args.edges.now added.0 ((place, length kept) ∷ []),
      out-with g kept c.args.lasts.now place p here added.0 added.2 c.if-lasts-place.true,
    )

pub returns-else-lasts-place : goal.returns-else-lasts-place
returns-else-lasts-place c =
    let g : Ground = ground_of c.args.followers.now c.args.automaton.now in
    let kept : List NumberedVertex = c.args.kept.now in
    let place : ℕ = c.args.place in
    let p : NumberedVertex = get_or c.as_slice.result.now place none in
    let here : slice_get kept place ≡ Some p = get-at kept place none c.requires.place ∙ ap (λ (l : List NumberedVertex). Some (get_or l place none)) (sym c.as_slice.ensures) in
    let added = c.in_ok-join_followers.ensures in
    (added.0, added.1, out-without g kept c.args.lasts.now place p here added.0 added.2 c.if-lasts-place.false)
