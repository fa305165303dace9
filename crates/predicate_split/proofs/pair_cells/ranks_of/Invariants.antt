use Rattle.std.proofs.Common.{◌≡◌, ◌≤◌, sum_by, take}
use Rattle.predicate_split.specs.Grids.{grid_size, AreCellsUnder}
use Rattle.predicate_split.proofs.pair_cells.ranks_of.Given as goal

abbrev pub invariant-loop-proto : goal.invariant-loop-proto
invariant-loop-proto l = record {
  cells : AreCellsUnder l.left (take l.proto-index l.protos) l.ranks;
  counted : l.count ≡ sum_by (grid_size l.left) (take l.proto-index l.protos);
  within : l.count ≤ l.room;
}
