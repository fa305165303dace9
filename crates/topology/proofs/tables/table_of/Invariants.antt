use Rattle.std.proofs.Common.{◌≡◌, take}
use Rattle.topology.proofs.tables.table_of.Given as goal

abbrev pub invariant-loop-entry : goal.invariant-loop-entry
invariant-loop-entry g l = l.table.entries ≡ take l.entry-index l.entries
