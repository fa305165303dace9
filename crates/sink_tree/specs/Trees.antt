-- Sink trees by the numbers of vertices.
use Rattle.std.specs.Prelude.{ℕ, ◌≡◌, ◌≢◌, List, [], ◌∷◌, Option, None, Some, slice_get}
use Rattle.std.specs.List.{slice_index_or}
use Rattle.merlin_model.specs.Networks.{Network}
use Rattle.rules_model.specs.Products.{SymbolAutomaton, Vertex, IsInTree}
use Rattle.product_graph.specs.declared.span.Product.{Product}
use Rattle.product_graph.specs.Products.{vertices_of}
use Rattle.sink_tree.specs.declared.next.SinkTree.{SinkTree}

abbrev pub next_in : SinkTree → ℕ → Option ℕ
next_in tree v = slice_index_or tree.next v None

-- the next vertices lead from the place k over these vertices to the end
abbrev pub NextLeads : Product → (ℕ → Option ℕ) → ℕ → List Vertex → Type 0
NextLeads product next k [] = (j : ℕ) × (next k ≡ Some j) × (product.end ≡ Some j)
NextLeads product next k (u ∷ us) =
    (j : ℕ) × (next k ≡ Some j) × (slice_get (vertices_of product) j ≡ Some u)
    × NextLeads product next j us

-- From each vertex the next ones lead along the sink tree to the end, which has none.
pub record IsSinkTree (net : Network) (a : SymbolAutomaton) (d : ℕ) (product : Product) (next : ℕ → Option ℕ) : Type 0 where
  pub each : (k : ℕ) (v : Vertex) → slice_get (vertices_of product) k ≡ Some v → product.end ≢ Some k →
      (us : List Vertex) × NextLeads product next k us × IsInTree net a d v us
  pub end : (k : ℕ) → product.end ≡ Some k → next k ≡ None
