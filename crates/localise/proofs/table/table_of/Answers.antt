use Rattle.localise.proofs.Tabled.{filled_more}
use Rattle.localise.proofs.table.table_of.Goals as goal

pub loop-id-preserved : goal.loop-id-preserved
loop-id-preserved c = filled_more c.args.ids.now c.loop-id.id-index c.id-item.result c.loop-id-test.true c.id-item.is c.loop-id.table c.insert.new.self c.loop-id.invariant c.bytes.result.now c.bytes.ensures c.in_ok-insert.ensures.updates
