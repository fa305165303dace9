use Rattle.std.proofs.Common.{◌∙◌, sym, subst, arith}
use Rattle.delegation_text.specs.Trees.{IsFirstDoubled}
use Rattle.delegation_text.specs.Alongside.{written_names}
use Rattle.delegation_text.proofs.Doubled.{added-more, is-doubled, not-new, is-new}
use Rattle.delegation_text.proofs.names.names_of.Goals as goal

pub returns-then-not-branch-clause-err : goal.returns-then-not-branch-clause-err
returns-then-not-branch-clause-err c = subst (IsFirstDoubled (written_names c.args.nodes.now)) (sym c.in_ok-doubled.ensures)
    (is-doubled c.args.nodes.now c.loop-node.node-index c.loop-node.names.keys c.node-item.result c.in_ok-name.name c.loop-node.invariant (omega arith) c.node-item.is
    (c.in_ok-name.ensures.items ∙ c.bytes.ensures) (not-new _ _ c.in_ok-insert.ensures.added c.if-not-branch.true))

pub loop-node-preserved : goal.loop-node-preserved
loop-node-preserved c = added-more c.args.nodes.now c.loop-node.node-index c.loop-node.names.keys c.node-item.result c.in_ok-name.name c.loop-node.invariant (omega arith) c.node-item.is
    (c.in_ok-name.ensures.items ∙ c.bytes.ensures) c.insert.new.self.keys (is-new _ _ c.in_ok-insert.ensures.added c.if-not-branch.false) c.in_ok-insert.ensures.keys c.in_ok-insert.ensures.unique
