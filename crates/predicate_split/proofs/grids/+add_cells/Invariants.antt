use Rattle.std.proofs.Common.{◌+◌, ◌*◌, length}
use Rattle.predicate_split.proofs.grids.+add_cells.Given as goal

abbrev pub decreases-add_cells : goal.decreases-add_cells
decreases-add_cells l = 2 * length l.dports.now

abbrev pub decreases-add_near_cells : goal.decreases-add_near_cells
decreases-add_near_cells l = 2 * length l.dports.now + 1
