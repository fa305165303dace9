use Rattle.std.proofs.Common.{◌++◌, ◌∷◌, [], ℕ, List, append_assoc, sym, ◌∙◌, ap}
use Rattle.product_graph.specs.declared.vertex_set.NumberedVertex.{NumberedVertex}
use Rattle.product_graph.proofs.Lists.{false-true}
use Rattle.product_graph.proofs.Keeping.{state-with, state-without}
use Rattle.product_graph.proofs.leading.keep_states.Goals as goal
use Rattle.product_graph.proofs.leading.keep_states.Goals.{then-is_seen_leading+in_ok-push, else-is_seen_leading}

pub loop-state-preserved : goal.loop-state-preserved
loop-state-preserved c =
    let k : ℕ = c.args.symbol in
    let n : ℕ = c.loop-state.state in
    let v : NumberedVertex = record { symbol = k; state = n } in
    let added : List NumberedVertex = c.loop-state.invariant.0 in
    elim c.if-is_seen_leading.branch [
      | then-is_seen_leading+in_ok-push w ↦ (
        added ++ v ∷ [],
        w.kept-is ∙ w.in_ok-push.ensures.ok ∙ ap (λ (l : List NumberedVertex). l ++ v ∷ []) c.loop-state.invariant.1 ∙ append_assoc c.args.kept.now added (v ∷ []),
        state-with c.args.leading.now k n added c.loop-state.invariant.2 (c.is_seen_leading.ensures.0 w.if-is_seen_leading.true),
      )
      | else-is_seen_leading w ↦ (
        added,
        w.kept-is ∙ c.loop-state.invariant.1,
        state-without c.args.leading.now k n added c.loop-state.invariant.2 (λ h. false-true (sym w.if-is_seen_leading.false ∙ c.is_seen_leading.ensures.1 h)),
      )
    ]
