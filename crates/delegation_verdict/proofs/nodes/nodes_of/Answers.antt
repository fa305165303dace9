use Rattle.std.proofs.Common.{List, take, ◌+◌, sym, subst, arith}
use Rattle.std.specs.List.{AllZip}
use Rattle.std.proofs.lemmas.Result.{err_from_is_err_and}
use Rattle.delegation.specs.declared.node.Node.{Node}
use Rattle.delegation_verdict.specs.Nodes.{IsNodeOf, IsNodeFault}
use Rattle.delegation_verdict.proofs.Further.{pairs, whole, one-more, first-fault}
use Rattle.delegation_verdict.proofs.nodes.nodes_of.Goals as goal

pub returns-in_err-node_of-clause-err : goal.returns-in_err-node_of-clause-err
returns-in_err-node_of-clause-err c =
    let p = err_from_is_err_and c.from_residual.result c.from_residual.ensures.1 in
    rw (p.1, p.2) (first-fault c.args.entries.now c.args.texts.now c.requires c.loop-place.place c.index-entries-place.result c.index-texts-place.result c.loop-place-test.true c.index-entries-place.is c.index-texts-place.is
    c.loop-place.nodes.items c.in_err-node_of.field-0.0 c.loop-place.invariant (subst (λ t. IsNodeFault (c.index-entries-place.result, t) c.in_err-node_of.field-0.0) c.deref.ensures.value c.in_err-node_of.ensures.err))

pub loop-place-preserved : goal.loop-place-preserved
loop-place-preserved c =
    let is = subst (λ t. IsNodeOf (c.index-entries-place.result, t) c.in_ok-node_of.field-0) c.deref.ensures.value c.in_ok-node_of.ensures.ok in
    subst (λ (ns : List Node). AllZip IsNodeOf (take (c.loop-place.place + 1) (pairs c.args.entries.now c.args.texts.now c.requires)) ns) (sym {A = List Node} c.in_ok-push.ensures.items)
    (one-more c.args.entries.now c.args.texts.now c.requires c.loop-place.place c.index-entries-place.result c.index-texts-place.result c.loop-place-test.true c.index-entries-place.is c.index-texts-place.is c.loop-place.nodes.items c.in_ok-node_of.field-0 c.loop-place.invariant is)

pub returns-clause-ok : goal.returns-clause-ok
returns-clause-ok c = subst (λ ps. AllZip IsNodeOf ps c.loop-place.nodes.items) (whole c.args.entries.now c.args.texts.now c.requires c.loop-place.place (let past = c.loop-place-test.false in omega arith)) c.loop-place.invariant
