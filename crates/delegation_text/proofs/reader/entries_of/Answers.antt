use Rattle.std.proofs.Common.{arith}
use Rattle.std.proofs.lemmas.Result.{err_from_is_err_and}
use Rattle.delegation_text.specs.Alongside.{IsEntryFor, names_kept}
use Rattle.delegation_text.proofs.Growing.{beside-more, read-at}
use Rattle.delegation_text.proofs.Carrying.{unknown-weaker, first-lost}
use Rattle.delegation_text.proofs.reader.entries_of.Goals as goal

pub returns-in_err-entry-clause-err : goal.returns-in_err-entry-clause-err
returns-in_err-entry-clause-err c =
    let p = err_from_is_err_and c.from_residual-in_err-entry.result c.from_residual-in_err-entry.ensures.1 in
    rw (p.1, p.2) (unknown-weaker _ _ (λ name lost. first-lost (names_kept c.args.names.now.keys) c.args.nodes.now c.loop-place.place c.loop-place.entries.items c.index-nodes-place.result name c.loop-place.invariant
    (read-at c.args.nodes.now c.loop-place.place c.index-nodes-place.result (let t = c.loop-place-test.true in omega arith) c.index-nodes-place.is) lost) _ c.in_err-entry.ensures.err)

pub loop-place-preserved : goal.loop-place-preserved
loop-place-preserved c =
    beside-more (IsEntryFor (names_kept c.args.names.now.keys)) c.args.nodes.now c.loop-place.place c.loop-place.entries.items c.push.new.self.items c.index-nodes-place.result _ c.loop-place.invariant
    (read-at c.args.nodes.now c.loop-place.place c.index-nodes-place.result (let t = c.loop-place-test.true in omega arith) c.index-nodes-place.is) c.in_ok-entry.ensures.ok c.in_ok-push.ensures.items
