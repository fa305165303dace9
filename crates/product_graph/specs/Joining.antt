-- The edges of a product by numbers, vertex by vertex.
use Rattle.std.specs.Prelude.{ℕ, ◌≡◌, ◌≢◌, ◌≤◌, ◌<◌, ◌⊎◌, ◌↔◌, nat_le, Bool, true, false, List, [], ◌∷◌, ◌++◌, length, slice_get, Contains, Option, None, Some, if◌then◌else◌}
use Rattle.std.specs.List.{slice_index_or}
use Rattle.merlin_model.specs.declared.policy.Symbol.{Symbol}
use Rattle.merlin_model.specs.Networks.{Network, Pairwise}
use Rattle.path_automaton.specs.Automata.{AutomatonTables, step}
use Rattle.rules_model.specs.Products.{IsEdgeBefore}
use Rattle.product_graph.specs.declared.followers.Followers.{Followers}
use Rattle.product_graph.specs.declared.vertex_set.NumberedVertex.{NumberedVertex}
use Rattle.product_graph.specs.Inside.{AreRising}
use Rattle.product_graph.specs.Followers.{follower_numbers}
use Rattle.product_graph.specs.Numbered.{Ground, next_of, GoesOnBy}
use Rattle.product_graph.specs.Ends.{IsLastBy}

-- the flag of each vertex says whether the host may follow it, in an accepting state
pub record AreLasts (net : Network) (symbols : List Symbol) (t : AutomatonTables) (d : ℕ) (vertices : List NumberedVertex) (lasts : List Bool) : Type 0 where
  pub long : length lasts ≡ length vertices
  pub each : (i : ℕ) (p : NumberedVertex) → slice_get vertices i ≡ Some p →
      (slice_index_or lasts i false ≡ true) ↔ IsLastBy net symbols t d p

-- the vertices that follow one stand in the order of their symbols
abbrev pub KeepsOrder : Ground → List NumberedVertex → Type 0
KeepsOrder g kept =
    (p : NumberedVertex) (k l i j : ℕ) → GoesOnBy g p k → GoesOnBy g p l → k < l →
    slice_get kept i ≡ Some (next_of g p k) → slice_get kept j ≡ Some (next_of g p l) → i < j

-- the symbols that may follow a vertex stand in order
abbrev pub HaveRisingRows : Followers → List NumberedVertex → Type 0
HaveRisingRows followers kept =
    (p : NumberedVertex) → Contains kept p → AreRising (follower_numbers followers p.symbol)

-- the edge to the vertex was added, unless it is not kept, or is the one at this place
abbrev pub IsJoinedNext : List NumberedVertex → ℕ → NumberedVertex → List (ℕ × ℕ) → List (ℕ × ℕ) → Type 0
IsJoinedNext kept place next old new =
    ((to : ℕ) × (slice_get kept to ≡ Some next) × (to ≢ place) × (new ≡ old ++ (place, to) ∷ []))
    ⊎ ((new ≡ old) × ((¬ Contains kept next) ⊎ (slice_get kept place ≡ Some next)))

-- the edge leads from p at this place to another vertex, which follows it by one of these symbols
abbrev pub IsEdgeBy : Ground → List NumberedVertex → ℕ → NumberedVertex → List ℕ → ℕ × ℕ → Type 0
IsEdgeBy g kept place p done e =
    (e.0 ≡ place)
    × ((k : ℕ) × Contains done k × (slice_get kept e.1 ≡ Some (next_of g p k)) × (p ≢ next_of g p k))

pub record AreEdgesBy (g : Ground) (kept : List NumberedVertex) (place : ℕ) (p : NumberedVertex) (done : List ℕ) (added : List (ℕ × ℕ)) : Type 0 where
  pub each : (e : ℕ × ℕ) → Contains added e ↔ IsEdgeBy g kept place p done e
  pub ascend : Pairwise IsEdgeBefore added

-- the edge leads from the vertex at this place to another one, or to the end behind all
abbrev pub IsEdgeOut : Ground → List NumberedVertex → List Bool → ℕ → ℕ × ℕ → Type 0
IsEdgeOut g kept lasts place e =
    ((p : NumberedVertex) × (slice_get kept place ≡ Some p) × IsEdgeBy g kept place p (follower_numbers g.followers p.symbol) e)
    ⊎ ((e.0 ≡ place) × (e.1 ≡ length kept) × (slice_index_or lasts place false ≡ true))

pub record AreEdgesOut (g : Ground) (kept : List NumberedVertex) (lasts : List Bool) (place : ℕ) (added : List (ℕ × ℕ)) : Type 0 where
  pub each : (e : ℕ × ℕ) → Contains added e ↔ IsEdgeOut g kept lasts place e
  pub ascend : Pairwise IsEdgeBefore added

-- the edges from the first so many vertices
pub record AreEdgesBelow (g : Ground) (kept : List NumberedVertex) (lasts : List Bool) (bound : ℕ) (edges : List (ℕ × ℕ)) : Type 0 where
  pub each : (e : ℕ × ℕ) → Contains edges e ↔ ((e.0 < bound) × IsEdgeOut g kept lasts e.0 e)
  pub ascend : Pairwise IsEdgeBefore edges

-- the lower one of a state and what is known, where the state counts
abbrev pub lowered_by : Option ℕ → Bool → ℕ → Option ℕ
lowered_by known false state = known
lowered_by None true state = Some state
lowered_by (Some least) true state = if nat_le least state then Some least else Some state

-- the least state in which the end is entered from one of the first so many vertices, if it is entered
abbrev pub IsLeastBelow : AutomatonTables → ℕ → List NumberedVertex → List Bool → ℕ → Option ℕ → Type 0
IsLeastBelow t symbol vertices lasts bound None =
    (i : ℕ) → i < bound → ¬ (slice_index_or lasts i false ≡ true)
IsLeastBelow t symbol vertices lasts bound (Some q) =
    ((i : ℕ) × (i < bound) × (slice_index_or lasts i false ≡ true)
    × ((p : NumberedVertex) × (slice_get vertices i ≡ Some p) × (q ≡ step t p.state symbol)))
    × ((i : ℕ) (p : NumberedVertex) → i < bound → slice_index_or lasts i false ≡ true →
    slice_get vertices i ≡ Some p → q ≤ step t p.state symbol)
