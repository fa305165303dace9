-- How a table numbers names.
use Rattle.std.specs.Prelude.{◌≡◌, ℕ, List, Option, None, Some, slice_get, nat_eq, Vec}
use Rattle.std.specs.Cmp.Lexicographic.{pointwise}
use Rattle.std.specs.Map.{lookup}
use Rattle.std.specs.declared.alloc.Global.{Global}

-- what is found for a name: the number of a location that bears it, or nothing where none does
abbrev pub IsFound : List (List ℕ) → List ℕ → Option ℕ → Type 0
IsFound names name (Some loc) = slice_get names loc ≡ Some name
IsFound names name None = (loc : ℕ) → ¬ (slice_get names loc ≡ Some name)

-- the table finds the names
abbrev pub IsNumbering : List (Vec ℕ Global × ℕ) → List (List ℕ) → Type 0
IsNumbering entries names =
    (name : List ℕ) → IsFound names name (lookup (λ key. pointwise nat_eq name key.items) entries)
