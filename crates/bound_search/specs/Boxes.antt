-- The boxes of a search.
use Rattle.std.specs.Prelude.{ℕ, ◌≡◌, ◌<◌, Bool, true, false, List, length, Option, None, Some, slice_set}
use Rattle.merlin_model.specs.Programs.{Program, variables, is_chosen}
use Rattle.merlin_model.specs.Trees.{fixed_at, IsBox}
use Rattle.bound_search.specs.declared.boxes.Boxes.{Boxes}

abbrev pub with_place : Boxes → ℕ → Option Bool → Boxes
with_place boxes variable to = record { plain = slice_set boxes.plain variable to; shut = slice_set boxes.shut variable to }

-- a place of the box, or 0 where the variable may not be 1
abbrev pub shut_at : Bool → Option Bool → Option Bool
shut_at true fixed = fixed
shut_at false fixed = Some false

-- the box in which each variable that may not be 1 is fixed to 0
pub record IsShut (program : Program) (box shut : List (Option Bool)) : Type 0 where
  pub size : length shut ≡ variables program
  pub same : (variable : ℕ) → variable < variables program → fixed_at shut variable ≡ shut_at (is_chosen program.upper variable) (fixed_at box variable)

pub record AreBoxes (program : Program) (boxes : Boxes) : Type 0 where
  pub box : IsBox program boxes.plain
  pub shut : IsShut program boxes.plain boxes.shut

-- a variable of the box that is not fixed
abbrev pub IsFree : List (Option Bool) → ℕ → Type 0
IsFree box variable = (variable < length box) × (fixed_at box variable ≡ None)
