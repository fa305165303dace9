use Rattle.std.proofs.Common.{List, sym, subst}
use Rattle.std.proofs.lemmas.Result.{IfOk-weaker, IfErr-weaker}
use Rattle.serde_json.specs.View.{view}
use Rattle.delegation_text.specs.declared.written.WrittenNode.{WrittenNode}
use Rattle.delegation_text.specs.Alongside.{DescribesNodes}
use Rattle.delegation_text.proofs.Carrying.{as-text, refuses}
use Rattle.delegation_text.proofs.OneTree.{entries-one}
use Rattle.delegation_text.proofs.reader.read.Goals as goal

pub returns-clause-ok : goal.returns-clause-ok
returns-clause-ok c =
    let are : DescribesNodes (view c.in_ok-value.value) c.deref.result.now = subst (λ (nodes : List WrittenNode). DescribesNodes (view c.in_ok-value.value) nodes) (sym c.deref.ensures.value) c.in_ok-nodes.ensures.ok in
    IfOk-weaker c.tree_of.result _ _ (λ entries is. as-text c.args.bytes.now (view c.in_ok-value.value) c.in_ok-value.ensures.ok c.deref.result.now are entries.items is) c.tree_of.ensures.ok

pub returns-clause-only : goal.returns-clause-only
returns-clause-only c =
    let are : DescribesNodes (view c.in_ok-value.value) c.deref.result.now = subst (λ (nodes : List WrittenNode). DescribesNodes (view c.in_ok-value.value) nodes) (sym c.deref.ensures.value) c.in_ok-nodes.ensures.ok in
    IfOk-weaker c.tree_of.result _ _
    (λ entries is other text. entries-one c.args.bytes.now other entries.items text (as-text c.args.bytes.now (view c.in_ok-value.value) c.in_ok-value.ensures.ok c.deref.result.now are entries.items is)) c.tree_of.ensures.ok

pub returns-clause-err : goal.returns-clause-err
returns-clause-err c =
    let are : DescribesNodes (view c.in_ok-value.value) c.deref.result.now = subst (λ (nodes : List WrittenNode). DescribesNodes (view c.in_ok-value.value) nodes) (sym c.deref.ensures.value) c.in_ok-nodes.ensures.ok in
    IfErr-weaker c.tree_of.result _ _ (λ fault h. refuses c.args.bytes.now (view c.in_ok-value.value) c.in_ok-value.ensures.ok c.deref.result.now are fault h) c.tree_of.ensures.err
