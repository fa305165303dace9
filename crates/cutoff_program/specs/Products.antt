-- The product between two hosts as lists: its vertices and its edges, in order.
use Rattle.std.specs.Prelude.{ℕ, ◌≡◌, ◌≢◌, ◌≤◌, ◌==◌, ◌&&◌, ◌⊎◌, ◌↔◌, List, [], ◌∷◌, ◌++◌, length, map, Option, slice_get, position, Contains}
use Rattle.std.specs.Option.{option_map_or}
use Rattle.std.specs.List.{AllByRecursion}
use Rattle.merlin_model.specs.Networks.{Network, directed_links, Pairwise}
use Rattle.merlin_model.specs.Words.{at}
use Rattle.rules_model.specs.Products.{SymbolAutomaton, Vertex, loc_of, start_of, IsLast, LeadsToEnd, IsOnWayBetween, IsBefore, IsEdgeBefore, IsJoined}
use Rattle.cutoff_program.specs.Flows.{FlowEdge, Flow}

-- The vertices from the start to the end, and the edges by the places of their two vertices. Both lists are empty where no
-- walk is allowed.
pub record Product : Type 0 where
  pub vertices : List Vertex
  pub edges : List (ℕ × ℕ)

-- no way leads from the start to the end
pub record IsEmptyProduct (net : Network) (a : SymbolAutomaton) (s d : ℕ) (product : Product) : Type 0 where
  pub none : (us : List Vertex) → ¬ LeadsToEnd net a d (start_of a s) us
  pub vertices : product.vertices ≡ []
  pub edges : product.edges ≡ []

-- The start, then the other vertices that it leads to and that lead to the end, in order; last the end, in the least state
-- in which it is entered.
pub record IsTrimmedProduct (net : Network) (a : SymbolAutomaton) (s d : ℕ) (product : Product) : Type 0 where
  pub inner : List Vertex
  pub state : ℕ
  pub vertices : product.vertices ≡ (start_of a s ∷ inner) ++ record { symbol = at d; state = state } ∷ []
  pub exactly : (v : Vertex) → Contains (start_of a s ∷ inner) v ↔ IsOnWayBetween net a s d v
  pub others : AllByRecursion (λ v. start_of a s ≢ v) inner
  pub ascending : Pairwise IsBefore inner
  pub entered : (v : Vertex) × Contains (start_of a s ∷ inner) v × IsLast net a d v × (state ≡ a.step v.state (at d))
  pub least : (v : Vertex) → Contains (start_of a s ∷ inner) v → IsLast net a d v → state ≤ a.step v.state (at d)
  pub joined : (e : ℕ × ℕ) → Contains product.edges e ↔ IsJoined net a d (start_of a s ∷ inner) e
  pub in_order : Pairwise IsEdgeBefore product.edges

abbrev pub IsProductOfHosts : Network → SymbolAutomaton → ℕ → ℕ → Product → Type 0
IsProductOfHosts net a s d product = IsEmptyProduct net a s d product ⊎ IsTrimmedProduct net a s d product

-- A product as a flow.

-- the place of the link from one location to another, if there is one
abbrev pub place_between : Network → ℕ → ℕ → Option ℕ
place_between net u v = position (λ directed. (directed.from == u) && (directed.to == v)) (directed_links net)

abbrev pub loc_at : List Vertex → ℕ → ℕ
loc_at vertices k = option_map_or loc_of (slice_get vertices k) 0

abbrev pub edge_of : Network → List Vertex → ℕ × ℕ → FlowEdge
edge_of net vertices e = record { from = e.0; to = e.1; crosses = place_between net (loc_at vertices e.0) (loc_at vertices e.1) }

abbrev pub flow_of : Network → ℕ → Product → Flow
flow_of net rate product = record { rate = rate; vertices = length product.vertices; edges = map (edge_of net product.vertices) product.edges }
