-- The rows of a program at a cutoff, and without one.
use Rattle.std.proofs.Common.{◌≡◌, ℕ, ◌<◌, Bool, List, [], ◌∷◌, length, Option, None, Some, refl, arith}
use Rattle.std.proofs.lemmas.Int.{ints}
use Rattle.std.proofs.lemmas.List.Elements.{AllZip-get_or, length_all_zip}
use Rattle.std.specs.List.{AllZip}
use Rattle.merlin_model.specs.Programs.{Program, Row, row_at, no_row, IsNarrowerRow, IsNarrower, HasCutoffs, Takes, IsProgram, IsRow}
use Rattle.integer_program.proofs.Bounds.{all_at}

as_narrow : (rows : List Row) → AllZip IsNarrowerRow rows rows
as_narrow [] = tt
as_narrow (row ∷ rows) = (record { entries = refl; is_equality = refl; right = omega (arith, ints); still = λ e. refl }, as_narrow rows)

-- only right sides and upper bounds move with the cutoff
pub narrower_than_none : (K : Type 0) (instance : Option K → Program) (takes : K → Bool) (below : K → K → Bool) (value : List Bool → K) (cutoff : Option K) →
    HasCutoffs K instance takes below value → Takes takes cutoff → IsNarrower (instance cutoff) (instance None)
narrower_than_none K instance takes below value None laws taken = record { rows = as_narrow (instance None).rows; size = refl; upper = λ v e. e }
narrower_than_none K instance takes below value (Some z) laws taken = laws.narrows (Some z) None taken tt refl

pub rows-same : (narrow wide : Program) → IsNarrower narrow wide → length narrow.rows ≡ length wide.rows
rows-same narrow wide is = length_all_zip IsNarrowerRow narrow.rows wide.rows is.rows

pub narrower_at : (narrow wide : Program) (row : ℕ) → IsNarrower narrow wide → row < length narrow.rows → IsNarrowerRow (row_at narrow row) (row_at wide row)
narrower_at narrow wide row is h = AllZip-get_or IsNarrowerRow narrow.rows wide.rows row no_row no_row is.rows h

pub row_is : (program : Program) (row : ℕ) → IsProgram program → row < length program.rows → IsRow program (row_at program row)
row_is program row is h = all_at (IsRow program) program.rows row no_row is.rows h
