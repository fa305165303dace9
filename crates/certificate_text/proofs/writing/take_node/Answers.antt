use Rattle.std.proofs.Common.{sym, ◌∙◌, ap}
use Rattle.std.proofs.lemmas.Result.{on_ok_weaker}
use Rattle.merlin_base.specs.NodeTexts.{node_line}
use Rattle.certificate_text.specs.Preorder.{first_node}
use Rattle.certificate_text.proofs.TreeStack.{first_split, two_pushed}
use Rattle.certificate_text.proofs.writing.take_node.Goals as goal

pub returns-in_ok-push-in-Split-2-clause-line : goal.returns-in_ok-push-in-Split-2-clause-line
returns-in_ok-push-in-Split-2-clause-line c =
    on_ok_weaker c.split_line.result (λ e. e ∙ ap node_line (sym (ap first_node c.in-Split.is ∙ first_split c.in-Split.variable c.in-Split.zero c.in-Split.one))) c.split_line.ensures

pub returns-in_ok-push-in-Split-2-clause-pending : goal.returns-in_ok-push-in-Split-2-clause-pending
returns-in_ok-push-in-Split-2-clause-pending c =
    on_ok_weaker c.split_line.result (λ e.
    two_pushed (λ t. t.now) c.args.pending.now.items c.push.new.self.items c.push-in-Split.new.self.items c.get.result c.get-in-Split.result c.in-Split.variable c.args.tree.now c.in-Split.zero c.in-Split.one
    c.in_ok-push-in-Split.ensures.items c.in_ok-push-in-Split-2.ensures.items c.get.ensures c.get-in-Split.ensures c.in-Split.is) c.split_line.ensures
