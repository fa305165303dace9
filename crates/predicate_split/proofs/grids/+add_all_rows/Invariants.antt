use Rattle.std.proofs.Common.{◌+◌, ◌*◌, length}
use Rattle.predicate_split.proofs.grids.+add_all_rows.Given as goal

abbrev pub decreases-add_all_rows : goal.decreases-add_all_rows
decreases-add_all_rows l = 2 * length l.sports.now

abbrev pub decreases-add_near_rows : goal.decreases-add_near_rows
decreases-add_near_rows l = 2 * length l.sports.now + 1
