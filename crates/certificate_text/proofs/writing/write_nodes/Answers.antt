use Rattle.std.proofs.Common.{◌∙◌, le_trans}
use Rattle.std.proofs.lemmas.Result.{err_from_is_err_and, on_ok_weaker}
use Rattle.certificate_text.proofs.TreeStack.{from_ok, node_taken, node_broken, fewer_now}
use Rattle.certificate_text.proofs.writing.write_nodes.Goals as goal

pub loop-tree-smaller : goal.loop-tree-smaller
loop-tree-smaller g c =
    fewer_now (λ t. t.now) c.loop-tree.pending.items c.pop.new.self.items c.take_node-made.new.pending.items c.in-Some.tree c.in-Some.ensures.items
    (from_ok c.take_node-made.result c.in_ok-hand_over.ensures.made c.take_node-made.ensures.pending)

pub loop-tree-preserved : goal.loop-tree-preserved
loop-tree-preserved g c = (
  node_taken (λ t. t.now) _ _ _ _ c.loop-tree.pending.items c.pop.new.self.items c.in-Some.tree c.in-Some.ensures.items c.take_node-made.new.pending.items c.loop-tree.invariant.0
      (c.in_ok-hand_over.ensures.ok _ (on_ok_weaker c.take_node-made.result (λ e. c.deref.ensures.value ∙ e) c.take_node-made.ensures.line))
      (from_ok c.take_node-made.result c.in_ok-hand_over.ensures.made c.take_node-made.ensures.pending),
  le_trans c.loop-tree.invariant.1 c.in_ok-hand_over.ensures.later,
)

pub returns-in_err-hand_over-clause-err : goal.returns-in_err-hand_over-clause-err
returns-in_err-hand_over-clause-err g c =
    let p = err_from_is_err_and c.from_residual.result c.from_residual.ensures.1 in
    rw p.1 (node_broken (λ t. t.now) _ _ _ _ c.loop-tree.pending.items c.pop.new.self.items c.in-Some.tree c.in-Some.ensures.items c.loop-tree.invariant.0
    (c.in_err-hand_over.ensures.err _ (on_ok_weaker c.take_node-made.result (λ e. c.deref.ensures.value ∙ e) c.take_node-made.ensures.line)))
