-- Whole numbers of limited size.
use Rattle.std.specs.Prelude.{ℕ, ℤ, pos, ◌≤ℤ◌, neg_ℤ}

-- neither the number nor its opposite is greater than the bound
pub record IsBounded (bound : ℕ) (z : ℤ) : Type 0 where
  pub low : neg_ℤ (pos bound) ≤ℤ z
  pub high : z ≤ℤ pos bound
