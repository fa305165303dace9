-- Weights that a leaf may have.
use Rattle.std.specs.Prelude.{◌≤◌, ◌<◌, nat_abs, List, map, length}
use Rattle.std.specs.List.{AllByRecursion}
use Rattle.std.specs.List.Sorted.{IsStrictlyIncreasing}
use Rattle.merlin_model.specs.Programs.{Program}
use Rattle.merlin_model.specs.Trees.{row_of, IsPositiveOnBounds}
use Rattle.merlin_model.specs.declared.certificate.Weight.{Weight}
use Rattle.merlin_model.specs.declared.limits.TheConstants.{MAX_WEIGHT}

-- a weight within the limit, positive where the row is a bound
abbrev pub IsWeight : Program → Weight → Type 0
IsWeight program w = (nat_abs w.weight ≤ MAX_WEIGHT) × IsPositiveOnBounds (row_of program w).is_equality w.weight

-- rows that exist and ascend, with such weights
pub record AreWeights (program : Program) (weights : List Weight) : Type 0 where
  pub ascend : IsStrictlyIncreasing (map (λ w. w.row) weights)
  pub exist : AllByRecursion (λ w. w.row < length program.rows) weights
  pub small : AllByRecursion (λ w. nat_abs w.weight ≤ MAX_WEIGHT) weights
  pub signs : AllByRecursion (λ w. IsPositiveOnBounds (row_of program w).is_equality w.weight) weights
