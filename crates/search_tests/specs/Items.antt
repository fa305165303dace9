-- Two items of which so many are wanted, at the least cost.
use Rattle.std.specs.Prelude.{ℕ, ◌+◌, Bool, true, false, ℤ, pos, negsuc, ◌-ℤ◌, List, [], ◌∷◌, Option, None, Some, nat_lt, if◌then◌else◌}
use Rattle.merlin_model.specs.Programs.{Program, is_chosen}
use Rattle.search_tests.specs.declared.items.Wanted.{Wanted}
use Rattle.search_tests.specs.declared.items.Wanted.TheVariants.{One, Both, Three}

abbrev pub cost_if : Bool → ℕ → ℕ
cost_if true cost = cost
cost_if false cost = 0

-- the cost of the items that a point takes
abbrev pub cost_of : List Bool → ℕ
cost_of point = cost_if (is_chosen point 0) 2 + cost_if (is_chosen point 1) 1

-- the most that may be spent at a cutoff: less than the cutoff, and never more than both items cost
abbrev pub most_spent : Option ℕ → ℤ
most_spent None = pos 3
most_spent (Some z) = if nat_lt z 4 then pos z -ℤ pos 1 else pos 3

-- an item may be taken where it costs less than the cutoff
abbrev pub may_take : ℕ → Option ℕ → Bool
may_take cost None = true
may_take cost (Some z) = nat_lt cost z

-- the right side of the row that asks for so many
abbrev pub least_taken : Wanted → ℤ
least_taken One = negsuc 0
least_taken Both = negsuc 1
least_taken Three = negsuc 2

-- at least so many are taken, and their costs are at most what may be spent
abbrev pub items_at : Wanted → Option ℕ → Program
items_at wanted cutoff = record {
  rows = record { entries = (0, negsuc 0) ∷ (1, negsuc 0) ∷ []; is_equality = false; right = least_taken wanted }
      ∷ record { entries = (0, pos 2) ∷ (1, pos 1) ∷ []; is_equality = false; right = most_spent cutoff } ∷ [];
  upper = may_take 2 cutoff ∷ may_take 1 cutoff ∷ [];
}
