use Rattle.std.proofs.Common.{sym, ◌∙◌}
use Rattle.delegation.proofs.Children.{numbers-step, numbers-stay}
use Rattle.delegation.proofs.scopes.numbers_of.Goals as goal
use Rattle.delegation.proofs.scopes.numbers_of.Goals.{then-is_child+in_ok-push, else-is_child}

pub loop-number-preserved : goal.loop-number-preserved
loop-number-preserved c =
    elim c.if-is_child.branch [
      | then-is_child+in_ok-push w ↦ numbers-step c.args.place c.args.nodes.now c.loop-number.number c.index-nodes-number.result c.loop-number.numbers c.if-is_child.numbers c.loop-number-test.true c.index-nodes-number.is (sym c.is_child.ensures ∙ w.if-is_child.true) c.loop-number.invariant (w.numbers-is ∙ w.in_ok-push.ensures.ok)
      | else-is_child w ↦ w.numbers-is ∙ numbers-stay c.args.place c.args.nodes.now c.loop-number.number c.index-nodes-number.result c.loop-number.numbers c.loop-number-test.true c.index-nodes-number.is (sym c.is_child.ensures ∙ w.if-is_child.false) c.loop-number.invariant
    ]
