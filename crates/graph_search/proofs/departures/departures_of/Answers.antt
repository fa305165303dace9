use Rattle.std.proofs.Common.{◌≡◌, ◌<◌, ◌+◌, ℕ, Option, None, Some, List, [], ◌∷◌, ◌++◌, get_or, set, slice_get, sym, ◌∙◌, ap, subst}
use Rattle.std.proofs.lemmas.Option.{slice_get-get_or}
use Rattle.graph_search.specs.declared.graph.Edge.{Edge}
use Rattle.graph_search.specs.Departures.{AreDepartures}
use Rattle.graph_search.proofs.Places.{all-get}
use Rattle.graph_search.proofs.Leaving.{departs}
use Rattle.graph_search.proofs.departures.departures_of.Goals as goal

pub loop-number-preserved : goal.loop-number-preserved
loop-number-preserved c =
    let edges : List Edge = c.args.edges.now in
    let k : ℕ = c.loop-number.number in
    let d : Edge = record { from = 0; to = 0; cost = 0 } in
    let at : slice_get edges k ≡ Some (get_or edges k d) = slice_get-get_or edges k d c.loop-number-test.true in
    let ends = all-get (λ (e : Edge). (e.from < c.args.vertices) × (e.to < c.args.vertices)) edges k (get_or edges k d) c.requires at in
    let last : c.set.new.self ≡ set c.loop-number.last (get_or edges k d).from (Some k) = c.set.ensures in
    let previous : c.push.new.self ≡ c.loop-number.previous ++ get_or c.loop-number.last (get_or edges k d).from None ∷ [] = c.in_ok-push.ensures.ok ∙ ap (λ (l : List (Option ℕ)). c.loop-number.previous ++ get_or l (get_or edges k d).from None ∷ []) c.as_slice.ensures in
    subst (AreDepartures c.args.vertices edges (k + 1)) (λ i. record { last = sym last i; previous = sym previous i })
    (departs c.args.vertices edges k (get_or edges k d) c.loop-number.last c.loop-number.previous at ends.0 c.loop-number.invariant)
