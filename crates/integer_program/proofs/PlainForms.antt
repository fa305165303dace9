-- A plain program keeps its form when a row is added.
use Rattle.std.proofs.Common.{◌≡◌, ℕ, ◌<◌, List, [], ◌∷◌, ◌++◌, length, length-append, Result, Ok, Err, OnOk, OnErr, sym, subst, arith}
use Rattle.std.specs.List.{AllByRecursion}
use Rattle.merlin_model.specs.Programs.{Row, IsRow, IsProgram}
use Rattle.integer_program.specs.Plain.{plain_program}

row_of_more : (count : ℕ) (rows more : List Row) (row : Row) → IsRow (plain_program count rows) row → IsRow (plain_program count more) row
row_of_more count rows more row is = record { ascend = is.ascend; exist = is.exist; small = is.small; small_right = is.small_right }

rows_of_more : (count : ℕ) (rows more some : List Row) (row : Row) → AllByRecursion (IsRow (plain_program count rows)) some → IsRow (plain_program count rows) row →
    AllByRecursion (IsRow (plain_program count more)) (some ++ row ∷ [])
rows_of_more count rows more [] row all is = (row_of_more count rows more row is, tt)
rows_of_more count rows more (x ∷ xs) row all is = (row_of_more count rows more x all.0, rows_of_more count rows more xs row all.1 is)

pub pushed : {X E : Type 0} (count : ℕ) (rows after : List Row) (row : Row) (result : Result X E) → IsProgram (plain_program count rows) → IsRow (plain_program count rows) row → length rows < 16384 →
    OnOk result (after ≡ rows ++ row ∷ []) → OnErr result (after ≡ rows) → IsProgram (plain_program count after)
pushed count rows after row (Ok x) form is room ok err = subst (λ rs. IsProgram (plain_program count rs)) (sym ok)
    (record {
      few_variables = form.few_variables;
      few_rows = let n = length-append rows (row ∷ []) in omega arith;
      rows = rows_of_more count rows (rows ++ row ∷ []) rows row form.rows is;
    })
pushed count rows after row (Err x) form is room ok err = subst (λ rs. IsProgram (plain_program count rs)) (sym err) form
