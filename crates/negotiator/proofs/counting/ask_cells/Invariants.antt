use Rattle.std.proofs.Common.{◌≡◌, ◌+◌}
use Rattle.predicate_split.specs.declared.fault.TheConstants.{MAX_CELLS}
use Rattle.negotiator.specs.CellCounts.{sum_to, cells_from}
use Rattle.negotiator.proofs.counting.ask_cells.Given as goal

abbrev pub invariant-loop-src : goal.invariant-loop-src
invariant-loop-src l = l.left + sum_to (cells_from l.net l.preds) l.src ≡ MAX_CELLS
