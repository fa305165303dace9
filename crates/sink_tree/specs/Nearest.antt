-- Of each vertex the next one from which the fewest edges are left.
use Rattle.std.specs.Prelude.{ℕ, ◌≡◌, ◌<◌, ◌≤◌, ◌⊎◌, List, length, Option, None, Some, slice_set, Contains}
use Rattle.std.specs.List.{AllByRecursion, slice_index_or}
use Rattle.std.specs.Option.{unwrap_or}

-- how many edges are left, 0 where that is not known
abbrev pub steps_at : List (Option ℕ) → ℕ → ℕ
steps_at distance v = unwrap_or (slice_index_or distance v None) 0

-- fewer edges are left from u, or as many, and u comes no later
abbrev pub IsNoWorse : List (Option ℕ) → ℕ → ℕ → Type 0
IsNoWorse distance u x =
    (steps_at distance u < steps_at distance x)
    ⊎ ((steps_at distance u ≡ steps_at distance x) × (u ≤ x))

-- nothing is known yet, or it is worse
abbrev pub IsNearer : List (Option ℕ) → Option ℕ → ℕ → Type 0
IsNearer distance None v = Unit {0}
IsNearer distance (Some known) v =
    (steps_at distance v < steps_at distance known)
    ⊎ ((steps_at distance v ≡ steps_at distance known) × (v < known))

-- the better one was taken
abbrev pub IsChosen : List (Option ℕ) → ℕ → ℕ → List (Option ℕ) → List (Option ℕ) → Type 0
IsChosen distance from to old new =
    (IsNearer distance (slice_index_or old from None) to × (new ≡ slice_set old from (Some to)))
    ⊎ ((¬ IsNearer distance (slice_index_or old from None) to) × (new ≡ old))

-- both ends of each edge are among so many vertices
abbrev pub AreAmong : ℕ → List (ℕ × ℕ) → Type 0
AreAmong n edges = AllByRecursion (λ e. (e.0 < n) × (e.1 < n)) edges

-- of the vertices to which these edges lead from v, the best, or none where no edge leaves v
abbrev pub IsNearest : List (Option ℕ) → List (ℕ × ℕ) → ℕ → Option ℕ → Type 0
IsNearest distance edges v None = (x : ℕ) → ¬ Contains edges (v, x)
IsNearest distance edges v (Some u) =
    Contains edges (v, u) × ((x : ℕ) → Contains edges (v, x) → IsNoWorse distance u x)

-- so it is for each vertex
pub record AreNearest (distance : List (Option ℕ)) (edges : List (ℕ × ℕ)) (next : List (Option ℕ)) : Type 0 where
  pub size : length next ≡ length distance
  pub each : (v : ℕ) → IsNearest distance edges v (slice_index_or next v None)
