use Rattle.std.proofs.Common.{◌≡◌, ◌+◌}
use Rattle.negotiator.specs.CellCounts.{sum_to, cells_of_pair}
use Rattle.negotiator.proofs.counting.room_beside_row.Given as goal

abbrev pub invariant-loop-dst : goal.invariant-loop-dst
invariant-loop-dst l = l.left + sum_to (cells_of_pair l.net l.preds l.src) l.dst ≡ l.room
