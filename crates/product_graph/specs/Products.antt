-- Products as lists: which vertices and edges stand between hosts, and in which order.
use Rattle.std.specs.Prelude.{ℕ, ◌≡◌, ◌≢◌, ◌≤◌, ◌<◌, ◌⊎◌, ◌↔◌, List, [], ◌∷◌, ◌++◌, length, map, None, Some, Contains}
use Rattle.merlin_model.specs.Networks.{Network, IsHost, Pairwise}
use Rattle.merlin_model.specs.Words.{at}
use Rattle.merlin_model.specs.declared.policy.Symbol.{Symbol}
use Rattle.rules_model.specs.Products.{SymbolAutomaton, Vertex, loc_of, start_of, IsLast, LeadsToEnd, IsOnWayBetween, IsBefore, IsEdgeBefore, IsJoined}
use Rattle.path_automaton.specs.Automata.{AutomatonTables, step, accepts, number_in}
use Rattle.product_graph.specs.declared.span.Vertex.{Vertex as ListedVertex}
use Rattle.product_graph.specs.declared.span.Product.{Product}
use Rattle.product_graph.specs.declared.span.Span2.{Span2}
use Rattle.product_graph.specs.declared.span.Span2.TheVariants.{Pair, All}

-- the automaton over symbols, which the tables tell by the numbers of the symbols in the list
abbrev pub automaton_of : List Symbol → AutomatonTables → SymbolAutomaton
automaton_of symbols t = record { step = λ q x. step t q (number_in symbols x); accepts = accepts t }

abbrev pub dest_of : Span2 → ℕ
dest_of (Pair s d) = d
dest_of (All d) = d

-- walks may start at this host
abbrev pub IsSource : Network → Span2 → ℕ → Type 0
IsSource net (Pair s d) h = IsHost net h × (h ≡ s)
IsSource net (All d) h = IsHost net h × (h ≢ d)

-- a vertex as it is listed
abbrev pub vertex_of : ListedVertex → Vertex
vertex_of v = record { symbol = v.symbol; state = v.state }

abbrev pub vertices_of : Product → List Vertex
vertices_of product = map vertex_of product.vertices

-- v is a vertex of the product: one that walks start from leads to it, and it leads to the end
abbrev pub StandsIn : Network → SymbolAutomaton → Span2 → Vertex → Type 0
StandsIn net a span v = (s : ℕ) × IsSource net span s × IsOnWayBetween net a s (dest_of span) v

abbrev pub IsStart : Network → SymbolAutomaton → Span2 → Vertex → Type 0
IsStart net a span v = (s : ℕ) × IsSource net span s × (v ≡ start_of a s)

-- no walk is allowed, and nothing stands in the product
pub record IsEmptyOverSpan (net : Network) (a : SymbolAutomaton) (span : Span2) (product : Product) : Type 0 where
  pub none : (s : ℕ) (us : List Vertex) → IsSource net span s → ¬ LeadsToEnd net a (dest_of span) (start_of a s) us
  pub vertices : product.vertices ≡ []
  pub edges : product.edges ≡ []
  pub starts : product.starts ≡ []
  pub end : product.end ≡ None

-- First the vertices that walks start from, then those at no host, each part in order; last the end,
-- in the least state in which an edge enters it.
pub record IsTrimmed (net : Network) (a : SymbolAutomaton) (span : Span2) (product : Product) : Type 0 where
  pub first : List Vertex
  pub inner : List Vertex
  pub state : ℕ
  pub vertices : vertices_of product ≡ first ++ (inner ++ record { symbol = at (dest_of span); state = state } ∷ [])
  pub first_are : (v : Vertex) → Contains first v ↔ (IsStart net a span v × StandsIn net a span v)
  pub inner_are : (v : Vertex) → Contains inner v ↔ ((¬ IsHost net (loc_of v)) × StandsIn net a span v)
  pub first_ascend : Pairwise IsBefore first
  pub inner_ascend : Pairwise IsBefore inner
  pub starts : (k : ℕ) → Contains product.starts k ↔ (k < length first)
  pub starts_ascend : Pairwise (λ j k. j < k) product.starts
  pub end : product.end ≡ Some (length (first ++ inner))
  pub entered : (v : Vertex) × Contains (first ++ inner) v × IsLast net a (dest_of span) v
      × (state ≡ a.step v.state (at (dest_of span)))
  pub least : (v : Vertex) → Contains (first ++ inner) v → IsLast net a (dest_of span) v →
      state ≤ a.step v.state (at (dest_of span))
  pub joined : (e : ℕ × ℕ) → Contains product.edges e ↔ IsJoined net a (dest_of span) (first ++ inner) e
  pub edges_ascend : Pairwise IsEdgeBefore product.edges

-- the product between the hosts, trimmed to what lies on walks
abbrev pub IsProduct : Network → SymbolAutomaton → Span2 → Product → Type 0
IsProduct net a span product = IsEmptyOverSpan net a span product ⊎ IsTrimmed net a span product
