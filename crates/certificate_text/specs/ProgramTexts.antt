-- Programs as texts: the line `program 1`, the number of variables, the rows, the line `end`.
use Rattle.std.specs.Prelude.{ℕ, ◌≡◌, ◌≤◌, Bool, true, false, nat_abs, List, [], ◌∷◌, ◌++◌, length, replicate, codes}
use Rattle.std.specs.List.{AllByRecursion, flat_map}
use Rattle.std.specs.Fmt.{decimal, signed_decimal}
use Rattle.merlin_model.specs.Programs.{Program, Row, variables}
use Rattle.merlin_model.specs.declared.limits.TheConstants.{MAX_VARIABLES, MAX_ROWS, MAX_COEFFICIENT, MAX_RIGHT_SIDE}
use Rattle.merlin_base.specs.Pairs.{pairs_text, ArePairs}

abbrev pub kind_word : Bool → List ℕ
kind_word true = codes "row eq "
kind_word false = codes "row le "

abbrev pub row_line : Row → List ℕ
row_line row = kind_word row.is_equality ++ (signed_decimal row.right ++ (pairs_text row.entries ++ 10 ∷ []))

-- variables ascend and exist, coefficients aren't 0, and all numbers are within their limits
pub record IsRowLine (count : ℕ) (row : Row) : Type 0 where
  pub entries : ArePairs count MAX_COEFFICIENT row.entries
  pub right : nat_abs row.right ≤ MAX_RIGHT_SIDE

-- the two lines before the rows, which give the number of variables
abbrev pub head_text : ℕ → List ℕ
head_text count = (codes "program 1" ++ 10 ∷ []) ++ (codes "variables " ++ (decimal count ++ 10 ∷ []))

abbrev pub program_text : Program → List ℕ
program_text program = head_text (variables program) ++ (flat_map row_line program.rows ++ (codes "end" ++ 10 ∷ []))

-- a program in which each variable may be 1, within the limits
pub record IsProgramText (program : Program) : Type 0 where
  pub upper : program.upper ≡ replicate (variables program) true
  pub few_variables : variables program ≤ MAX_VARIABLES
  pub few_rows : length program.rows ≤ MAX_ROWS
  pub rows : AllByRecursion (IsRowLine (variables program)) program.rows
