use Rattle.std.proofs.Common.{◌∙◌}
use Rattle.topology.proofs.Tabled.{new_entry}
use Rattle.topology.proofs.tables.table_of.Goals as goal

pub loop-entry-preserved : goal.loop-entry-preserved
loop-entry-preserved g c =
    c.in_ok-insert.ensures.entries ∙ new_entry g.met.K.Eq.laws c.loop-entry.table c.args.entries.now c.loop-entry.entry-index c.entry-item.result c.loop-entry.invariant c.loop-entry-test.true c.entry-item.is c.requires
