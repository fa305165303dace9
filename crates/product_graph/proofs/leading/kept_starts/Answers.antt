use Rattle.std.proofs.Common.{◌++◌, ◌∷◌, [], ℕ, List, take, get_or, sym, ◌∙◌, subst}
use Rattle.product_graph.specs.declared.vertex_set.NumberedVertex.{NumberedVertex}
use Rattle.product_graph.specs.Finding.{AreKeptStarts}
use Rattle.product_graph.proofs.Lists.{false-true, take-more}
use Rattle.product_graph.proofs.Keeping.{start-with, start-without}
use Rattle.product_graph.proofs.leading.kept_starts.Goals as goal
use Rattle.product_graph.proofs.leading.kept_starts.Goals.{then-is_seen_leading+in_ok-push, else-is_seen_leading}

abbrev none : NumberedVertex
none = record { symbol = 0; state = 0 }

pub loop-start-preserved : goal.loop-start-preserved
loop-start-preserved c =
    let i : ℕ = c.loop-start.start-index in
    let starts : List NumberedVertex = c.args.starts.now in
    let p : NumberedVertex = get_or starts i none in
    let all = take-more starts i none c.loop-start-test.true in
    subst (λ (l : List NumberedVertex). AreKeptStarts c.args.leading.now l c.if-is_seen_leading.kept) (sym all)
    (elim c.if-is_seen_leading.branch [
      | then-is_seen_leading+in_ok-push w ↦
          subst (AreKeptStarts c.args.leading.now (take i starts ++ p ∷ [])) (sym (w.kept-is ∙ w.in_ok-push.ensures.ok))
          (start-with c.args.leading.now (take i starts) c.loop-start.kept p c.loop-start.invariant (c.is_seen_leading.ensures.0 w.if-is_seen_leading.true))
      | else-is_seen_leading w ↦
          subst (AreKeptStarts c.args.leading.now (take i starts ++ p ∷ [])) (sym w.kept-is)
          (start-without c.args.leading.now (take i starts) c.loop-start.kept p c.loop-start.invariant (λ h. false-true (sym w.if-is_seen_leading.false ∙ c.is_seen_leading.ensures.1 h)))
    ])
