-- Vertices by the numbers of their symbols, and what leads from one to another.
use Rattle.std.specs.Prelude.{ℕ, ◌≡◌, ◌<◌, ◌⊎◌, List, [], ◌∷◌, ◌++◌, length, slice_get, Contains, Some}
use Rattle.std.specs.List.{slice_index_or}
use Rattle.merlin_model.specs.declared.policy.Symbol.{Symbol}
use Rattle.merlin_model.specs.Words.{at}
use Rattle.path_automaton.specs.Automata.{AutomatonTables, step}
use Rattle.rules_model.specs.Products.{Vertex}
use Rattle.product_graph.specs.declared.vertex_set.NumberedVertex.{NumberedVertex}
use Rattle.product_graph.specs.declared.followers.Followers.{Followers}
use Rattle.product_graph.specs.Followers.{follower_numbers}

-- the vertex is at the place, and was put behind the others if it was not among them
abbrev pub IsPut : NumberedVertex → ℕ → List NumberedVertex → List NumberedVertex → Type 0
IsPut p place old new = (slice_get new place ≡ Some p) × ((new ≡ old) ⊎ (new ≡ old ++ p ∷ []))

-- how symbols go on, and what an automaton makes of them
pub record Ground : Type 0 where
  pub followers : Followers
  pub tables : AutomatonTables

abbrev pub ground_of : Followers → AutomatonTables → Ground
ground_of f t = record { followers = f; tables = t }

-- the number of the symbol is one of a symbol, the state one of a state
abbrev pub IsOnGround : Ground → NumberedVertex → Type 0
IsOnGround g p = (p.symbol < length g.followers.places) × (p.state < length g.tables.steps)

-- the vertex after a symbol
abbrev pub next_of : Ground → NumberedVertex → ℕ → NumberedVertex
next_of g p k = record { symbol = k; state = step g.tables p.state k }

-- the symbol of this number may follow
abbrev pub GoesOnBy : Ground → NumberedVertex → ℕ → Type 0
GoesOnBy g p k = Contains (follower_numbers g.followers p.symbol) k

-- symbols of these numbers lead from p to q
abbrev pub PassesTo : Ground → NumberedVertex → List ℕ → NumberedVertex → Type 0
PassesTo g p [] q = p ≡ q
PassesTo g p (k ∷ ks) q = GoesOnBy g p k × PassesTo g (next_of g p k) ks q

abbrev pub IsReachable : Ground → List NumberedVertex → NumberedVertex → Type 0
IsReachable g starts q =
    (p : NumberedVertex) × Contains starts p × ((ks : List ℕ) × PassesTo g p ks q)

-- symbols of these numbers lead from p to a vertex that is one of the last
abbrev pub PassesOut : Ground → (NumberedVertex → Type 0) → NumberedVertex → List ℕ → Type 0
PassesOut g IsOneOfLast p [] = IsOneOfLast p
PassesOut g IsOneOfLast p (k ∷ ks) = GoesOnBy g p k × PassesOut g IsOneOfLast (next_of g p k) ks

abbrev pub LeadsOut : Ground → (NumberedVertex → Type 0) → NumberedVertex → Type 0
LeadsOut g IsOneOfLast p = (ks : List ℕ) × PassesOut g IsOneOfLast p ks

-- by symbol and state
abbrev pub IsNumberedBefore : NumberedVertex → NumberedVertex → Type 0
IsNumberedBefore p q = (p.symbol < q.symbol) ⊎ ((p.symbol ≡ q.symbol) × (p.state < q.state))

-- the vertex that the numbers stand for
abbrev pub vertex_by : List Symbol → NumberedVertex → Vertex
vertex_by symbols p = record { symbol = slice_index_or symbols p.symbol (at 0); state = p.state }
