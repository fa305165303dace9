-- What is found of a box of two items.
use Rattle.std.specs.Prelude.{ℕ, ◌≡◌, Bool, true, false, ℤ, pos, List, [], ◌∷◌, Option, None, Some}
use Rattle.merlin_model.specs.Programs.{Program}
use Rattle.merlin_model.specs.Trees.{IsOpen}
use Rattle.integer_program.specs.declared.relaxation.Verdict.{Verdict}
use Rattle.integer_program.specs.declared.relaxation.Verdict.TheVariants.{Closed, Better}
use Rattle.search_tests.specs.declared.items.Wanted.{Wanted}
use Rattle.search_tests.specs.declared.items.Wanted.TheVariants.{One, Both, Three}

abbrev pub is_one : Option Bool → Bool
is_one (Some to) = to
is_one None = false

abbrev pub leaf_of : ℕ → Verdict
leaf_of row = Closed (record { row = row; weight = pos 1 } ∷ [])

abbrev pub point_of : Bool → Bool → Verdict
point_of first second = Better (first ∷ second ∷ [])

abbrev pub are_few : Wanted → Bool → Bool → Bool
are_few One false false = true
are_few One false true = false
are_few One true second = false
are_few Both true true = false
are_few Both true false = true
are_few Both false second = true
are_few Three first second = true

abbrev pub spent : Bool → Bool → ℤ
spent true true = pos 3
spent true false = pos 2
spent false true = pos 1
spent false false = pos 0

-- no variable is open
abbrev pub IsClosed : Program → List (Option Bool) → Type 0
IsClosed program box = (variable : ℕ) → ¬ IsOpen program box variable
