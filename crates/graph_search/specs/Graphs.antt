-- Graphs of numbered vertices and edges, and least paths through them.
use Rattle.std.specs.Prelude.{ℕ, ◌≡◌, ◌≤◌, ◌<◌, List, [], ◌∷◌, length, reverse, Option, None, Some, slice_get}
use Rattle.std.specs.List.{AllByRecursion, slice_index_or, sum_by}
use Rattle.std.specs.Option.{option_map_or}
use Rattle.graph_search.specs.declared.graph.Edge.{Edge}
use Rattle.graph_search.specs.declared.paths.Potentials.{Potentials}

-- both ends of each edge are among so many vertices
abbrev pub AreEdgesAmong : ℕ → List Edge → Type 0
AreEdgesAmong n edges = AllByRecursion (λ e. (e.from < n) × (e.to < n)) edges

-- the edges of these numbers lead from u to v
abbrev pub IsEdgePath : List Edge → ℕ → List ℕ → ℕ → Type 0
IsEdgePath edges u [] v = u ≡ v
IsEdgePath edges u (k ∷ path) v =
    (e : Edge) × (slice_get edges k ≡ Some e) × (e.from ≡ u) × IsEdgePath edges e.to path v

abbrev pub cost_of_edge : List Edge → ℕ → ℕ
cost_of_edge edges k = option_map_or (λ e. e.cost) (slice_get edges k) 0

-- what a path costs
abbrev pub cost_of_path : List Edge → List ℕ → ℕ
cost_of_path edges path = sum_by (cost_of_edge edges) path

abbrev pub cost_of_all : List Edge → ℕ
cost_of_all edges = sum_by (λ e. e.cost) edges

-- what a list has at a vertex, if it has something there
abbrev pub known_at : List (Option ℕ) → ℕ → Option ℕ
known_at list v = slice_index_or list v None

-- Going back from v by the last edges passes these edges, and ends at the source, which has none.
abbrev pub GoesBack : List Edge → List (Option ℕ) → ℕ → List ℕ → ℕ → Type 0
GoesBack edges before source [] v = (v ≡ source) × (known_at before v ≡ None)
GoesBack edges before source (k ∷ ks) v =
    (e : Edge) × (known_at before v ≡ Some k) × (slice_get edges k ≡ Some e) × (e.to ≡ v)
    × GoesBack edges before source ks e.from

-- Going back from v by the last edges comes to the source, along a path that costs so much, and no
-- path from the source to v costs less.
pub record IsReachedAtCost (edges : List Edge) (before : List (Option ℕ)) (source v cost : ℕ) : Type 0 where
  pub back : List ℕ
  pub goes_back : GoesBack edges before source back v
  pub path : IsEdgePath edges source (reverse back) v
  pub costs : cost_of_path edges (reverse back) ≡ cost
  pub least : (other : List ℕ) → IsEdgePath edges source other v → cost ≤ cost_of_path edges other

-- The least costs of paths from the source, and the last edges of such paths. Where there is no
-- distance no path leads, and there is no last edge either.
pub record ArePotentials (n : ℕ) (edges : List Edge) (source : ℕ) (p : Potentials) : Type 0 where
  pub distances : length p.distance ≡ n
  pub befores : length p.before ≡ n
  pub reached : (v cost : ℕ) → known_at p.distance v ≡ Some cost → IsReachedAtCost edges p.before source v cost
  pub unreached : (v : ℕ) → known_at p.distance v ≡ None →
      (known_at p.before v ≡ None) × ((path : List ℕ) → ¬ IsEdgePath edges source path v)
