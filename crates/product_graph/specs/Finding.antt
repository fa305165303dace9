-- What a search from some vertices has found.
use Rattle.std.specs.Prelude.{ℕ, suc, ◌≡◌, ◌<◌, ◌⊎◌, ◌↔◌, List, [], ◌∷◌, ◌++◌, length, slice_get, Contains, Some, IsSome}
use Rattle.std.specs.List.{AllByRecursion}
use Rattle.merlin_model.specs.Networks.{Pairwise}
use Rattle.graph_search.specs.Graphs.{known_at}
use Rattle.product_graph.specs.declared.vertex_set.NumberedVertex.{NumberedVertex}
use Rattle.product_graph.specs.declared.search.Found.{Found}
use Rattle.product_graph.specs.declared.leading.Leading.{Leading}
use Rattle.product_graph.specs.Numbered.{IsPut, Ground, IsOnGround, next_of, GoesOnBy, IsReachable, LeadsOut, IsNumberedBefore}

-- the vertex that follows the one at the turn was found, and the edge to it noted
abbrev pub IsNotedAfter : ℕ → NumberedVertex → Found → Found → Type 0
IsNotedAfter turn next old new =
    (place : ℕ) × IsPut next place old.vertices new.vertices
    × (new.edges ≡ old.edges ++ (turn, place) ∷ [])

-- the edge leads from a vertex that was found to one that may follow it
abbrev pub JoinsFound : Ground → List NumberedVertex → ℕ × ℕ → Type 0
JoinsFound g vertices e =
    (p : NumberedVertex) × (slice_get vertices e.0 ≡ Some p)
    × ((k : ℕ) × GoesOnBy g p k × (slice_get vertices e.1 ≡ Some (next_of g p k)))

-- what follows p at place i by symbol k was found, and so was the edge
abbrev pub IsFollowedThere : Ground → Found → ℕ → NumberedVertex → ℕ → Type 0
IsFollowedThere g found i p k =
    (j : ℕ) × (slice_get found.vertices j ≡ Some (next_of g p k)) × Contains found.edges (i, j)

-- What is known while the places in turn are followed, the one at the turn by these symbols.
pub record IsFinding (g : Ground) (starts : List NumberedVertex) (found : Found) (turn : ℕ) (done : List ℕ) : Type 0 where
  pub on : AllByRecursion (IsOnGround g) found.vertices
  pub begun : (p : NumberedVertex) → Contains starts p → Contains found.vertices p
  pub reached : (p : NumberedVertex) → Contains found.vertices p → IsReachable g starts p
  pub sound : (e : ℕ × ℕ) → Contains found.edges e → JoinsFound g found.vertices e
  pub closed : (i : ℕ) (p : NumberedVertex) (k : ℕ) → slice_get found.vertices i ≡ Some p →
      ((i < turn) × GoesOnBy g p k) ⊎ ((i ≡ turn) × Contains done k) → IsFollowedThere g found i p k

-- all was found
abbrev pub IsAllFound : Ground → List NumberedVertex → Found → Type 0
IsAllFound g starts found = IsFinding g starts found (length found.vertices) []

-- Edges walked backwards.

-- the edges lead from v over these places to w
abbrev pub StepsTo : List (ℕ × ℕ) → ℕ → List ℕ → ℕ → Type 0
StepsTo edges v [] w = v ≡ w
StepsTo edges v (u ∷ us) w = Contains edges (v, u) × StepsTo edges u us w

abbrev pub ComesTo : List (ℕ × ℕ) → ℕ → ℕ → Type 0
ComesTo edges w v = (us : List ℕ) × StepsTo edges v us w

-- the edge leads from a vertex that is one of the last to the end, behind all vertices
abbrev pub JoinsEnd : (NumberedVertex → Type 0) → List NumberedVertex → ℕ × ℕ → Type 0
JoinsEnd IsOneOfLast vertices e =
    (e.1 ≡ length vertices)
    × ((p : NumberedVertex) × (slice_get vertices e.0 ≡ Some p) × IsOneOfLast p)

-- The vertices that can be reached, and by place which of them lead to the end.
pub record AreLeading (g : Ground) (IsOneOfLast : NumberedVertex → Type 0) (starts : List NumberedVertex) (l : Leading) : Type 0 where
  pub long : length l.distance ≡ suc (length l.vertices)
  pub on : AllByRecursion (IsOnGround g) l.vertices
  pub reachable : (p : NumberedVertex) → Contains l.vertices p ↔ IsReachable g starts p
  pub leads : (i : ℕ) (p : NumberedVertex) → slice_get l.vertices i ≡ Some p →
      IsSome (known_at l.distance i) ↔ LeadsOut g IsOneOfLast p

-- each place has a distance, and the places of one vertex agree
pub record IsReadable (l : Leading) : Type 0 where
  pub long : length l.vertices < length l.distance
  pub agree : (i j : ℕ) (p : NumberedVertex) → slice_get l.vertices i ≡ Some p → slice_get l.vertices j ≡ Some p →
      IsSome (known_at l.distance i) → IsSome (known_at l.distance j)

-- the vertex was found, and leads to the end
abbrev pub IsSeenLeading : Leading → NumberedVertex → Type 0
IsSeenLeading l p = (i : ℕ) × (slice_get l.vertices i ≡ Some p) × IsSome (known_at l.distance i)

-- of the starts those that lead to the end, in the same order
pub record AreKeptStarts (l : Leading) (starts kept : List NumberedVertex) : Type 0 where
  pub each : (p : NumberedVertex) → Contains kept p ↔ (Contains starts p × IsSeenLeading l p)
  pub ascend : Pairwise IsNumberedBefore starts → Pairwise IsNumberedBefore kept

-- of the vertices with these symbols and states those that lead to the end, in order
pub record AreKeptAmong (IsAmong : NumberedVertex → Type 0) (l : Leading) (kept : List NumberedVertex) : Type 0 where
  pub each : (p : NumberedVertex) → Contains kept p ↔ (IsAmong p × IsSeenLeading l p)
  pub ascend : Pairwise IsNumberedBefore kept
