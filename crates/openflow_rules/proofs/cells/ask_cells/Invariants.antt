use Rattle.std.proofs.Common.{◌≡◌, ◌+◌, take}
use Rattle.std.specs.Prelude.{sum_by}
use Rattle.predicate_split.specs.declared.fault.TheConstants.{MAX_CELLS}
use Rattle.configuration_model.specs.Pairs.{cells_of_pair}
use Rattle.openflow_rules.proofs.cells.ask_cells.Given as goal

abbrev pub invariant-loop-src : goal.invariant-loop-src
invariant-loop-src l = l.left + sum_by (λ s. sum_by (cells_of_pair l.net l.checked.policy s) l.hosts) (take l.src-index l.hosts) ≡ MAX_CELLS
