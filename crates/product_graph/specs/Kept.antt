-- The vertices of a product before its end, by numbers.
use Rattle.std.specs.Prelude.{ℕ, ◌≡◌, ◌<◌, ◌↔◌, Bool, List, [], ◌∷◌, ◌++◌, length, map, Contains, Some, None}
use Rattle.merlin_model.specs.declared.policy.Symbol.{Symbol}
use Rattle.merlin_model.specs.Networks.{Network, Pairwise}
use Rattle.merlin_model.specs.Words.{at}
use Rattle.std.specs.List.{slice_index_or}
use Rattle.path_automaton.specs.Automata.{AutomatonTables}
use Rattle.product_graph.specs.declared.followers.Followers.{Followers}
use Rattle.product_graph.specs.declared.vertex_set.NumberedVertex.{NumberedVertex}
use Rattle.product_graph.specs.declared.leading.Leading.{Leading}
use Rattle.product_graph.specs.declared.kept.Kept.{Kept}
use Rattle.product_graph.specs.declared.span.Span2.{Span2}
use Rattle.product_graph.specs.declared.span.Vertex.{Vertex as ListedVertex}
use Rattle.product_graph.specs.declared.span.Product.{Product}
use Rattle.product_graph.specs.Numbered.{Ground, ground_of, IsOnGround, IsReachable, LeadsOut, IsNumberedBefore}
use Rattle.product_graph.specs.Finding.{AreKeptStarts, AreKeptAmong}
use Rattle.product_graph.specs.Ends.{IsLastBy, AreStartsBelow, IsInsideBelow}
use Rattle.product_graph.specs.Joining.{AreEdgesBelow}

-- the starts and the other vertices that lead to the end
pub record AreKeptOf (net : Network) (symbols : List Symbol) (states : ℕ) (l : Leading) (starts : List NumberedVertex) (k : Kept) : Type 0 where
  pub first : List NumberedVertex
  pub inner : List NumberedVertex
  pub vertices : k.vertices ≡ first ++ inner
  pub count : k.first ≡ length first
  pub first_are : AreKeptStarts l starts first
  pub inner_are : AreKeptAmong (IsInsideBelow net symbols states (length symbols)) l inner

-- a start leads to the vertex, and it leads to the end
abbrev pub LiesBetween : Ground → (NumberedVertex → Type 0) → List NumberedVertex → NumberedVertex → Type 0
LiesBetween g IsOneOfLast starts p = IsReachable g starts p × LeadsOut g IsOneOfLast p

-- The vertices between the starts and the end: first the starts, then those at no host, each part in order.
pub record AreBetween (net : Network) (symbols : List Symbol) (f : Followers) (t : AutomatonTables) (span : Span2) (d : ℕ) (k : Kept) : Type 0 where
  pub starts : List NumberedVertex
  pub starts_are : AreStartsBelow net symbols t span (length symbols) starts
  pub first : List NumberedVertex
  pub inner : List NumberedVertex
  pub vertices : k.vertices ≡ first ++ inner
  pub count : k.first ≡ length first
  pub first_are : (p : NumberedVertex) → Contains first p ↔ (Contains starts p × LiesBetween (ground_of f t) (IsLastBy net symbols t d) starts p)
  pub inner_are : (p : NumberedVertex) → Contains inner p ↔ (IsInsideBelow net symbols (length t.steps) (length symbols) p × LiesBetween (ground_of f t) (IsLastBy net symbols t d) starts p)
  pub first_ascend : Pairwise IsNumberedBefore first
  pub inner_ascend : Pairwise IsNumberedBefore inner
  pub on : (p : NumberedVertex) → IsReachable (ground_of f t) starts p → IsOnGround (ground_of f t) p

-- a vertex as it is listed
abbrev pub listed_by : List Symbol → NumberedVertex → ListedVertex
listed_by symbols p = record { symbol = slice_index_or symbols p.symbol (at 0); state = p.state }

-- all numbers below a bound, in order
pub record AreNumbersBelow (bound : ℕ) (numbers : List ℕ) : Type 0 where
  pub each : (k : ℕ) → Contains numbers k ↔ (k < bound)
  pub ascend : Pairwise (λ j k. j < k) numbers

-- the product of these vertices with this end behind them
pub record IsAssembled (g : Ground) (symbols : List Symbol) (k : Kept) (lasts : List Bool) (end : ListedVertex) (product : Product) : Type 0 where
  pub vertices : product.vertices ≡ map (listed_by symbols) k.vertices ++ end ∷ []
  pub edges : AreEdgesBelow g k.vertices lasts (length k.vertices) product.edges
  pub starts : AreNumbersBelow k.first product.starts
  pub end_is : product.end ≡ Some (length k.vertices)

abbrev pub IsNothing : Product → Type 0
IsNothing product = (product.vertices ≡ []) × (product.edges ≡ []) × (product.starts ≡ []) × (product.end ≡ None)
