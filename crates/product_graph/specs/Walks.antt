-- The walks along the edges of a product.
use Rattle.std.specs.Prelude.{ℕ, ◌≡◌, ◌≢◌, List, [], ◌∷◌, ◌++◌, map, Some, slice_get, Contains}
use Rattle.std.specs.List.{slice_index_or}
use Rattle.merlin_model.specs.declared.policy.Symbol.{Symbol}
use Rattle.merlin_model.specs.Words.{at}
use Rattle.rules_model.specs.Products.{SymbolAutomaton, Vertex}
use Rattle.product_graph.specs.declared.span.Product.{Product}

-- the edges of these numbers lead from a vertex on to the end
abbrev pub LeadsBy : Product → ℕ → List ℕ → Type 0
LeadsBy product v [] = product.end ≡ Some v
LeadsBy product v (k ∷ ks) =
    (e : ℕ × ℕ) × (slice_get product.edges k ≡ Some e) × (e.0 ≡ v) × LeadsBy product e.1 ks

-- the edges lead from a start to the end
abbrev pub IsPathBy : Product → List ℕ → Type 0
IsPathBy product edges = (start : ℕ) × Contains product.starts start × LeadsBy product start edges

abbrev pub vertex_symbol_at : Product → ℕ → Symbol
vertex_symbol_at product v = (slice_index_or product.vertices v (record { symbol = at 0; state = 0 })).symbol

abbrev pub edge_at : Product → ℕ → ℕ × ℕ
edge_at product k = slice_index_or product.edges k (0, 0)

-- the symbol at which an edge arrives
abbrev pub arrival_by : Product → ℕ → Symbol
arrival_by product k = vertex_symbol_at product (edge_at product k).1

-- the symbol that the first of the edges leaves, if there is an edge
abbrev pub departure_by : Product → List ℕ → List Symbol
departure_by product [] = []
departure_by product (k ∷ ks) = vertex_symbol_at product (edge_at product k).0 ∷ []

-- the word that the edges spell: the symbol that the first one leaves, and those at which they arrive
abbrev pub word_by : Product → List ℕ → List Symbol
word_by product edges = departure_by product edges ++ map (arrival_by product) edges

-- the vertex after a symbol
abbrev pub vertex_after : SymbolAutomaton → Vertex → Symbol → Vertex
vertex_after a v x = record { symbol = x; state = a.step v.state x }

-- the word never turns at a symbol in the state in which it stands there
abbrev pub NeverTurns : SymbolAutomaton → Vertex → List Symbol → Type 0
NeverTurns a v [] = Unit {0}
NeverTurns a v (x ∷ []) = Unit {0}
NeverTurns a v (x ∷ y ∷ rest) = (v ≢ vertex_after a v x) × NeverTurns a (vertex_after a v x) (y ∷ rest)
