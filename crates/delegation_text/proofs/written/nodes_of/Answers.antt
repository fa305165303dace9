use Rattle.std.proofs.Common.{◌≡◌, map, subst, arith}
use Rattle.serde_json.specs.View.{view}
use Rattle.delegation_text.specs.Members.{node_words}
use Rattle.delegation_text.specs.Alongside.{IsWrittenNode}
use Rattle.delegation_text.specs.Failing.{FailsAsMisshapen}
use Rattle.delegation_text.proofs.Growing.{beside-more, seen-at, long-seen}
use Rattle.delegation_text.proofs.Carrying.{misshapen-weaker, wrong-part, wrong-node, all-written}
use Rattle.delegation_text.proofs.written.nodes_of.Goals as goal

pub returns-in-Err-Wrong-clause-err : goal.returns-in-Err-Wrong-clause-err
returns-in-Err-Wrong-clause-err c =
    misshapen-weaker _ _ (λ what words. wrong-node (map view c.args.items.now) c.loop-place.place c.loop-place.nodes.items (view c.index-items-place.result) c.in-Err-Wrong.part what c.loop-place.invariant
    (seen-at view c.args.items.now c.loop-place.place c.index-items-place.result (let t = c.loop-place-test.true in omega arith) c.index-items-place.is)
    (wrong-part _ c.in-Err-Wrong.field-0 c.in-Err-Wrong.part c.in-Err-Wrong.field-0-is c.in-Err-Wrong.ensures.err) words) c.node_fault.result
    (subst (λ p. FailsAsMisshapen (λ words. words ≡ node_words c.loop-place.place p) c.node_fault.result) c.in-Err-Wrong.part-is c.node_fault.ensures)

pub loop-place-preserved : goal.loop-place-preserved
loop-place-preserved c =
    beside-more IsWrittenNode (map view c.args.items.now) c.loop-place.place c.loop-place.nodes.items _ (view c.index-items-place.result) c.in-Ok.node c.loop-place.invariant
    (seen-at view c.args.items.now c.loop-place.place c.index-items-place.result (let t = c.loop-place-test.true in omega arith) c.index-items-place.is) c.in-Ok.ensures.ok c.in_ok-push-in-Ok.ensures.items

pub returns-clause-ok : goal.returns-clause-ok
returns-clause-ok c =
    all-written (map view c.args.items.now) c.loop-place.place c.loop-place.nodes.items c.loop-place.invariant
    (let t = c.loop-place-test.false in let l = long-seen view c.args.items.now in omega arith)
