use Rattle.std.proofs.Common.{◌≡◌, ◌++◌, map, take}
use Rattle.openflow_rules.specs.OwnedCells.{owned_cell}
use Rattle.openflow_rules.proofs.owned.add_cells.Given as goal

abbrev pub invariant-loop-cell : goal.invariant-loop-cell
invariant-loop-cell l = l.owned ≡ l.fn.owned ++ map (owned_cell l.group_of l.default l.source l.dest) (take l.cell-index l.found)
