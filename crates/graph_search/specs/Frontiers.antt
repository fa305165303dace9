-- Costs with vertices, of which the cheapest is taken first.
use Rattle.std.specs.Prelude.{ℕ, ◌≡◌, ◌<◌, ◌≤◌, ◌⊎◌, ◌↔◌, List, length, Contains}
use Rattle.std.specs.Ordering.{nat_cmp, ordering_then}
use Rattle.std.specs.declared.cmp.Ordering.{Ordering}
use Rattle.std.specs.declared.cmp.Reverse.{Reverse}

-- how the heap compares: the cheaper entry is the greater
abbrev pub entry_cmp : Reverse (ℕ × ℕ) → Reverse (ℕ × ℕ) → Ordering
entry_cmp x y = ordering_then (nat_cmp y.0.0 x.0.0) (nat_cmp y.0.1 x.0.1)

-- the second list has what the first has, and the entry
abbrev pub HasAlso : ℕ × ℕ → List (ℕ × ℕ) → List (ℕ × ℕ) → Type 0
HasAlso entry old new = (other : ℕ × ℕ) → Contains new other ↔ ((other ≡ entry) ⊎ Contains old other)

-- an entry of least cost was taken out
pub record IsTakenOut (entry : ℕ × ℕ) (old new : List (ℕ × ℕ)) : Type 0 where
  pub rest : HasAlso entry new old
  pub cheapest : (other : ℕ × ℕ) → Contains old other → entry.0 ≤ other.0
  pub fewer : length new < length old
