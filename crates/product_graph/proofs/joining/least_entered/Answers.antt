use Rattle.std.proofs.Common.{◌+◌, ℕ, List, Bool, false, get_or, sym, ◌∙◌, ap, subst, refl}
use Rattle.product_graph.specs.declared.vertex_set.NumberedVertex.{NumberedVertex}
use Rattle.product_graph.specs.Joining.{IsLeastBelow, lowered_by}
use Rattle.product_graph.proofs.Lists.{get-at}
use Rattle.product_graph.proofs.Joins.{least-next}
use Rattle.product_graph.proofs.joining.least_entered.Goals as goal

abbrev none : NumberedVertex
none = record { symbol = 0; state = 0 }

pub loop-place-preserved : goal.loop-place-preserved
loop-place-preserved c =
    let n : ℕ = c.loop-place.place in
    let vertices : List NumberedVertex = c.args.vertices.now in
    let lasts : List Bool = c.args.lasts.now in
    let p : NumberedVertex = get_or vertices n none in
    subst (IsLeastBelow c.args.automaton.now c.args.symbol vertices lasts (n + 1)) (sym (c.lowered-least.ensures ∙ ap (lowered_by c.loop-place.least (get_or lasts n false)) c.step.ensures.after))
    (least-next c.args.automaton.now c.args.symbol vertices lasts n p (get-at vertices n none c.loop-place-test.true) c.loop-place.least c.loop-place.invariant (get_or lasts n false) refl)
