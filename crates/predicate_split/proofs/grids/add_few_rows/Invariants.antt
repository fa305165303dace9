use Rattle.std.proofs.Common.{◌≡◌, ◌++◌, take}
use Rattle.predicate_split.specs.Grids.{rows_of}
use Rattle.predicate_split.proofs.grids.add_few_rows.Given as goal

abbrev pub invariant-loop-sport : goal.invariant-loop-sport
invariant-loop-sport l = l.cells.items ≡ l.initial.cells.items ++ rows_of l.entries l.packet (take l.sport-index l.sports) l.dports
