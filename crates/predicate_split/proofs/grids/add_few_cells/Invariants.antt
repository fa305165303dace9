use Rattle.std.proofs.Common.{◌≡◌, ◌++◌, take}
use Rattle.predicate_split.specs.Grids.{cell_row}
use Rattle.predicate_split.proofs.grids.add_few_cells.Given as goal

abbrev pub invariant-loop-dport : goal.invariant-loop-dport
invariant-loop-dport l = l.cells.items ≡ l.initial.cells.items ++ cell_row l.entries l.fn.packet l.sport (take l.dport-index l.dports)
