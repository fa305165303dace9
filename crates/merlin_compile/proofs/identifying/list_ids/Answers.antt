use Rattle.merlin_compile.proofs.Provided.{ids-more}
use Rattle.merlin_compile.proofs.identifying.list_ids.Goals as goal

pub loop-end-preserved : goal.loop-end-preserved
loop-end-preserved c =
    rw c.in_ok-push.ensures.items (ids-more c.args.checked.now.policy c.args.ends.now c.loop-end.ids.items c.loop-end.end-index c.in_ok-id_of.field-0
    (record { statement = 0; src = 0; dst = 0 }) c.loop-end-test.true c.loop-end.invariant c.in_ok-id_of.ensures)
