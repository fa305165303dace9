-- The sum of weighted rows, variable by variable.
use Rattle.std.specs.Prelude.{ℕ, ◌≡◌, ◌==◌, ◌*◌, ◌^◌, ℤ, pos, List, map, length, replicate, slice_index_or, Option, Bool, true, false}
use Rattle.std.specs.List.{range_with_len, list_any}
use Rattle.merlin_model.specs.Programs.{Program, variables, total, is_chosen}
use Rattle.merlin_model.specs.Trees.{fixed_at, row_of, least_addition, weighted_coefficient}
use Rattle.merlin_model.specs.declared.certificate.Weight.{Weight}
use Rattle.certificate.specs.declared.sums.Sums.{Sums}
use Rattle.integer_program.specs.Bounds.{IsBounded}

abbrev pub sum_at : Sums → ℕ → ℤ
sum_at sums variable = slice_index_or sums.by_variable variable (pos 0)

-- no number of it is past a bound
pub record AreSumsWithin (bound : ℕ) (sums : Sums) : Type 0 where
  pub each : (variable : ℕ) → IsBounded bound (sum_at sums variable)
  pub least : IsBounded bound sums.least

-- the least value over a box of the sum with these coefficients
abbrev pub least_sum : Program → List (Option Bool) → List ℤ → ℤ
least_sum program box sums =
    total (map (λ v. least_addition (fixed_at box v) (is_chosen program.upper v) (slice_index_or sums v (pos 0))) (range_with_len 0 (variables program)))

-- the sum of these rows, reached by so many additions of rows
pub record IsSum (program : Program) (box : List (Option Bool)) (weights : List Weight) (steps : ℕ) (sums : Sums) : Type 0 where
  pub size : length sums.by_variable ≡ variables program
  pub each : (variable : ℕ) → sum_at sums variable ≡ weighted_coefficient program weights variable
  pub least : sums.least ≡ least_sum program box sums.by_variable
  pub small : AreSumsWithin (steps * 2 ^ 105) sums

-- the sum of no rows over so many variables
abbrev pub clear_sums : ℕ → Sums
clear_sums count = record { by_variable = replicate count (pos 0); least = pos 0 }

-- whether a variable has an entry in a row, and in one of several
abbrev pub has_entry : ℕ → List (ℕ × ℤ) → Bool
has_entry variable entries = list_any (λ e. e.0 == variable) entries

abbrev pub is_touched : Program → List Weight → ℕ → Bool
is_touched program weights variable = list_any (λ w. has_entry variable (row_of program w).entries) weights

-- the coefficients of these entries are set to 0, and what was 0 still is
pub record IsCleared (entries : List (ℕ × ℤ)) (before after : Sums) : Type 0 where
  pub size : length after.by_variable ≡ length before.by_variable
  pub each : (variable : ℕ) → has_entry variable entries ≡ true → sum_at after variable ≡ pos 0
  pub kept : (variable : ℕ) → sum_at before variable ≡ pos 0 → sum_at after variable ≡ pos 0

-- only variables that these rows touch have a coefficient
pub record IsOnlyOf (program : Program) (weights : List Weight) (sums : Sums) : Type 0 where
  pub size : length sums.by_variable ≡ variables program
  pub others : (variable : ℕ) → is_touched program weights variable ≡ false → sum_at sums variable ≡ pos 0
