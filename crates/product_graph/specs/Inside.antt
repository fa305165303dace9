-- The numbers of a product are those of its vertices.
use Rattle.std.specs.Prelude.{ℕ, ◌<◌, List, [], length, Option, MatchOption, ⊤}
use Rattle.std.specs.List.{AllByRecursion, slice_index_or}
use Rattle.merlin_model.specs.Networks.{Pairwise}

abbrev pub AreEdgesInside : ℕ → List (ℕ × ℕ) → Option ℕ → Type 0
AreEdgesInside n edges end = AllByRecursion (λ e. (e.0 < n) × (e.1 < n)) edges × MatchOption end ⊤ (λ k. k < n)

abbrev pub AreRising : List ℕ → Type 0
AreRising row = Pairwise (λ u v. u < v) row

-- the numbers in the row at the place that stands for this number
abbrev pub numbers_after : List (List ℕ) → List ℕ → ℕ → List ℕ
numbers_after rows places k = slice_index_or rows (slice_index_or places k 0) []

-- the rows have numbers of symbols, and each symbol has a row
pub record HaveRows (rows : List (List ℕ)) (places : List ℕ) : Type 0 where
  pub below : AllByRecursion (λ row. AllByRecursion (λ k. k < length places) row) rows
  pub within : AllByRecursion (λ loc. loc < length rows) places
