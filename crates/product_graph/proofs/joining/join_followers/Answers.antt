use Rattle.std.proofs.Common.{◌≡◌, ◌<◌, ℕ, List, take, get_or, slice_get, Contains, Some, sym, subst}
use Rattle.product_graph.specs.declared.vertex_set.NumberedVertex.{NumberedVertex}
use Rattle.product_graph.specs.Inside.{AreRising}
use Rattle.product_graph.specs.Numbered.{Ground, ground_of, next_of, GoesOnBy}
use Rattle.product_graph.specs.Joining.{IsJoinedNext, AreEdgesBy}
use Rattle.product_graph.proofs.Lists.{take-more, get-at, get-contains}
use Rattle.product_graph.proofs.Listing.{risen}
use Rattle.product_graph.proofs.Joins.{edge-next}
use Rattle.product_graph.proofs.joining.join_followers.Goals as goal

pub loop-symbol-preserved : goal.loop-symbol-preserved
loop-symbol-preserved c =
    let g : Ground = ground_of c.args.followers.now c.args.automaton.now in
    let p : NumberedVertex = c.args.vertex in
    let i : ℕ = c.loop-symbol.symbol-index in
    let row : List ℕ = c.after-row.result.now in
    let k : ℕ = get_or row i 0 in
    let at_i : slice_get row i ≡ Some k = get-at row i 0 c.loop-symbol-test.true in
    let rise : AreRising row = subst AreRising (sym c.after-row.ensures.are) c.requires.rising in
    let here : (d : ℕ) → Contains row d → GoesOnBy g p d = λ d h. subst (λ (l : List ℕ). Contains l d) c.after-row.ensures.are h in
    let all : (d : ℕ) → Contains (take i row) d → (d < k) × GoesOnBy g p d = λ d h. let r = risen row i k at_i rise d h in (r.0, here d r.1) in
    let how : IsJoinedNext c.args.kept.now c.args.place (next_of g p k) c.loop-symbol.edges c.join.new.edges = subst (λ q. IsJoinedNext c.args.kept.now c.args.place (record { symbol = k; state = q }) c.loop-symbol.edges c.join.new.edges) c.step.ensures.after c.in_ok-join.ensures in
    let next = edge-next g c.args.kept.now c.requires.different c.args.place p c.requires.at (take i row) c.loop-symbol.invariant.0 c.loop-symbol.invariant.2 k all (here k (get-contains row i k at_i)) c.requires.order c.loop-symbol.edges c.args.edges.now c.join.new.edges c.loop-symbol.invariant.1 how in
    (next.0, next.1, subst (λ (l : List ℕ). AreEdgesBy g c.args.kept.now c.args.place p l next.0) (sym (take-more row i 0 c.loop-symbol-test.true)) next.2)
