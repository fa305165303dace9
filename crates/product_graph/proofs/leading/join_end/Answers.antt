use Rattle.std.proofs.Common.{◌≡◌, ◌↔◌, ◌⊎◌, ◌≤◌, ◌+◌, ℕ, List, length, get_or, slice_get, Contains, Some, sym, ◌∙◌, subst}
use Rattle.product_graph.specs.declared.vertex_set.NumberedVertex.{NumberedVertex}
use Rattle.product_graph.specs.Ends.{IsLastBy}
use Rattle.product_graph.proofs.Lists.{false-true, get-at}
use Rattle.product_graph.proofs.Keeping.{JoinsEndBelow, end-with, end-without, ends-all-from}
use Rattle.product_graph.proofs.leading.join_end.Goals as goal
use Rattle.product_graph.proofs.leading.join_end.Goals.{then-is_last+in_ok-push, else-is_last}

abbrev none : NumberedVertex
none = record { symbol = 0; state = 0 }

pub loop-place-preserved : goal.loop-place-preserved
loop-place-preserved c =
    let P : NumberedVertex → Type 0 = IsLastBy c.args.net.now c.args.symbols.now c.args.automaton.now c.args.destination.host in
    let n : ℕ = c.loop-place.place in
    let vertices : List NumberedVertex = c.args.vertices.now in
    let p : NumberedVertex = get_or vertices n none in
    let here : slice_get vertices n ≡ Some p = get-at vertices n none c.loop-place-test.true in
    elim c.if-is_last.branch [
      | then-is_last+in_ok-push w ↦
          subst (λ (l : List (ℕ × ℕ)). (e : ℕ × ℕ) → Contains l e ↔ (Contains c.args.edges.now e ⊎ JoinsEndBelow P vertices (n + 1) e)) (sym (w.edges-is ∙ w.in_ok-push.ensures.ok))
          (end-with P vertices c.args.edges.now c.loop-place.edges n p here c.loop-place.invariant (c.is_last.ensures.0 w.if-is_last.true))
      | else-is_last w ↦
          subst (λ (l : List (ℕ × ℕ)). (e : ℕ × ℕ) → Contains l e ↔ (Contains c.args.edges.now e ⊎ JoinsEndBelow P vertices (n + 1) e)) (sym w.edges-is)
          (end-without P vertices c.args.edges.now c.loop-place.edges n p here c.loop-place.invariant (λ h. false-true (sym w.if-is_last.false ∙ c.is_last.ensures.1 h)))
    ]

pub returns : goal.returns
returns c =
    let past : length c.args.vertices.now ≤ c.loop-place.place = c.loop-place-test.false in
    ends-all-from (IsLastBy c.args.net.now c.args.symbols.now c.args.automaton.now c.args.destination.host) c.args.vertices.now c.args.edges.now c.loop-place.edges c.loop-place.place past c.loop-place.invariant
