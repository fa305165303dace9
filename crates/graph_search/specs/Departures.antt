-- The edges by the vertices that they leave.
use Rattle.std.specs.Prelude.{ℕ, ◌≡◌, ◌<◌, List, length, Option, None, Some, slice_get}
use Rattle.graph_search.specs.declared.graph.Edge.{Edge}
use Rattle.graph_search.specs.declared.departures.Departures.{Departures}
use Rattle.graph_search.specs.Graphs.{known_at}

-- the edge of this number leaves the vertex
abbrev pub Leaves : List Edge → ℕ → ℕ → Type 0
Leaves edges v k = (e : Edge) × (slice_get edges k ≡ Some e) × (e.from ≡ v)

-- of the first so many edges the last one that leaves the vertex, if one does
abbrev pub IsLastToLeave : List Edge → ℕ → ℕ → Option ℕ → Type 0
IsLastToLeave edges v bound None = (k : ℕ) → k < bound → ¬ Leaves edges v k
IsLastToLeave edges v bound (Some j) =
    (j < bound) × Leaves edges v j × ((k : ℕ) → j < k → k < bound → ¬ Leaves edges v k)

-- Of each vertex the last one of the first so many edges that leaves it, and of each of these edges
-- the one before it that leaves the same vertex.
pub record AreDepartures (n : ℕ) (edges : List Edge) (bound : ℕ) (departures : Departures) : Type 0 where
  pub size : length departures.last ≡ n
  pub long : length departures.previous ≡ bound
  pub last : (v : ℕ) → v < n → IsLastToLeave edges v bound (known_at departures.last v)
  pub previous : (k : ℕ) (e : Edge) → k < bound → slice_get edges k ≡ Some e →
      IsLastToLeave edges e.from k (known_at departures.previous k)

abbrev pub AreAllDepartures : ℕ → List Edge → Departures → Type 0
AreAllDepartures n edges departures = AreDepartures n edges (length edges) departures
