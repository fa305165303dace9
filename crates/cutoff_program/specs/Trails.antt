-- Trails go along edges, which stand by their variables.
use Rattle.std.specs.Prelude.{ℕ, ◌≡◌, ◌≤◌, ◌+◌, ◌==◌, Bool, true, false, ℤ, pos, ◌+ℤ◌, List, [], ◌∷◌, ◌++◌, replicate, Option, None, Some, slice_get, slice_set, Contains, ◌↔◌}
use Rattle.std.specs.List.{AllByRecursion}
use Rattle.merlin_model.specs.Networks.{AreDifferent}
use Rattle.merlin_model.specs.Programs.{is_chosen, IsSolution}
use Rattle.merlin_model.specs.declared.policy.Value.{Value}
use Rattle.cutoff_program.specs.Flows.{Flow, Problem, Variable, variables_of, last_of, net_out, rate_over, cost_of_variable, chosen_from, taken_from, loads_from, value_by, program_at, cutoff_of, takes, is_below}

abbrev pub IsTrailOf : List Variable → ℕ → List ℕ → ℕ → ℕ → Type 0
IsTrailOf variables flow [] from to = from ≡ to
IsTrailOf variables flow (k ∷ ks) from to =
    (v : Variable) × (slice_get variables k ≡ Some v) × (v.flow ≡ flow) × (v.edge.from ≡ from) × IsTrailOf variables flow ks v.edge.to to

-- the sum of some terms along a trail
abbrev pub plus_term : (Variable → ℕ) → Option Variable → ℕ → ℕ
plus_term f None sum = sum
plus_term f (Some v) sum = f v + sum

abbrev pub sum_along : List Variable → (Variable → ℕ) → List ℕ → ℕ
sum_along variables f [] = 0
sum_along variables f (k ∷ ks) = plus_term f (slice_get variables k) (sum_along variables f ks)

-- the vertices that a trail comes to after its first one
abbrev pub with_vertex : Option Variable → List ℕ → List ℕ
with_vertex None vertices = vertices
with_vertex (Some v) vertices = v.edge.to ∷ vertices

abbrev pub comes_to : List Variable → List ℕ → List ℕ
comes_to variables [] = []
comes_to variables (k ∷ ks) = with_vertex (slice_get variables k) (comes_to variables ks)

-- a trail that comes to no vertex twice
pub record IsPath (variables : List Variable) (flow : ℕ) (trail : List ℕ) (from to : ℕ) : Type 0 where
  pub steps : IsTrailOf variables flow trail from to
  pub simple : AreDifferent (from ∷ comes_to variables trail)

-- a path to the same end that takes only edges of the trail, each no more often
pub record IsShortened (variables : List Variable) (flow : ℕ) (ks : List ℕ) (from to : ℕ) : Type 0 where
  pub path : List ℕ
  pub is_path : IsPath variables flow path from to
  pub no_more : (f : Variable → ℕ) → sum_along variables f path ≤ sum_along variables f ks
  pub among : (test : ℕ → Bool) → AllByRecursion (λ k. test k ≡ true) ks → AllByRecursion (λ k. test k ≡ true) path

-- One unit goes from a vertex to another along the chosen edges of a flow: at each vertex what net_out it, less what
-- comes to it.
abbrev pub one_at : Bool → ℤ
one_at true = pos 1
one_at false = pos 0

abbrev pub IsBalanced : List Variable → ℕ → List Bool → ℕ → ℕ → Type 0
IsBalanced variables flow point from to = (u : ℕ) → chosen_from 0 (net_out flow u) variables point +ℤ one_at (u == to) ≡ one_at (u == from)

-- a trail over chosen edges, each of which it takes at most once
pub record HasChosenTrail (variables : List Variable) (flow : ℕ) (point : List Bool) (from to : ℕ) : Type 0 where
  pub trail : List ℕ
  pub steps : IsTrailOf variables flow trail from to
  pub no_more : (f : Variable → ℕ) → sum_along variables f trail ≤ taken_from 0 f variables point
  pub chosen : AllByRecursion (λ k. is_chosen point k ≡ true) trail

-- a path for each flow, the first of which has number n, from its start to its end
abbrev pub ArePathsFrom : List Variable → ℕ → List Flow → List (List ℕ) → Type 0
ArePathsFrom variables n [] [] = Unit {0}
ArePathsFrom variables n (flow ∷ flows) (path ∷ paths) = IsPath variables n path 0 (last_of flow) × ArePathsFrom variables (n + 1) flows paths
ArePathsFrom variables n _ _ = ⊥

abbrev pub ArePaths : Problem → List (List ℕ) → Type 0
ArePaths problem paths = ArePathsFrom (variables_of problem) 0 problem.flows paths

-- the chosen edges of a flow are one path from its start to its end
pub record IsNeatFlow (variables : List Variable) (point : List Bool) (n : ℕ) (flow : Flow) : Type 0 where
  pub path : List ℕ
  pub is_path : IsPath variables n path 0 (last_of flow)
  pub chosen : (k : ℕ) (v : Variable) → slice_get variables k ≡ Some v → v.flow ≡ n → (is_chosen point k ≡ true) ↔ Contains path k

abbrev pub AreNeatFrom : List Variable → List Bool → ℕ → List Flow → Type 0
AreNeatFrom variables point n [] = Unit {0}
AreNeatFrom variables point n (flow ∷ flows) = IsNeatFlow variables point n flow × AreNeatFrom variables point (n + 1) flows

abbrev pub IsNeat : Problem → List Bool → Type 0
IsNeat problem point = AreNeatFrom (variables_of problem) point 0 problem.flows

-- the edges of some paths, one path after the other
abbrev pub edges_of : List (List ℕ) → List ℕ
edges_of [] = []
edges_of (path ∷ paths) = path ++ edges_of paths

-- the point with 1 at some places
abbrev pub point_with : ℕ → List ℕ → List Bool
point_with size [] = replicate size false
point_with size (k ∷ ks) = slice_set (point_with size ks) k true

-- What edges put on the links, and what value they have.
abbrev pub loads_along : Problem → List ℕ → List (ℕ × ℕ)
loads_along problem ks = loads_from (λ link. sum_along (variables_of problem) (rate_over link) ks) 0 problem.links

abbrev pub value_along : Problem → List ℕ → Value
value_along problem ks = value_by problem.objective (sum_along (variables_of problem) (cost_of_variable problem) ks) (loads_along problem ks)

-- a trail for each flow, the first of which has number n, from its start to its end
abbrev pub AreTrailsFrom : List Variable → ℕ → List Flow → List (List ℕ) → Type 0
AreTrailsFrom variables n [] [] = Unit {0}
AreTrailsFrom variables n (flow ∷ flows) (trail ∷ trails) = IsTrailOf variables n trail 0 (last_of flow) × AreTrailsFrom variables (n + 1) flows trails
AreTrailsFrom variables n _ _ = ⊥

-- no load of some edges is above its capacity
abbrev pub FitsCapacities : Problem → List ℕ → Type 0
FitsCapacities problem ks = AllByRecursion (λ l. l.0 ≤ l.1) (loads_along problem ks)

-- the point of some paths: a solution wherever it may be one, neat, with the value of the paths
pub record IsPointOf (problem : Problem) (paths : List (List ℕ)) (point : List Bool) : Type 0 where
  pub solution : IsSolution (program_at problem None) point
  pub better : (z : Value) → takes problem.objective z ≡ true → is_below (value_along problem (edges_of paths)) z ≡ true → IsSolution (program_at problem (Some z)) point
  pub neat : IsNeat problem point
  pub value : cutoff_of problem point ≡ value_along problem (edges_of paths)

-- paths that use each edge no more often than some trails
pub record HasPaths (problem : Problem) (trails : List (List ℕ)) : Type 0 where
  pub paths : List (List ℕ)
  pub are_paths : ArePaths problem paths
  pub fits : FitsCapacities problem (edges_of trails) → FitsCapacities problem (edges_of paths)
  pub no_more : (z : Value) → takes problem.objective z ≡ true → is_below (value_along problem (edges_of trails)) z ≡ true → is_below (value_along problem (edges_of paths)) z ≡ true

-- a path for each flow, the first of which has number n, over chosen edges alone
abbrev pub AreOverChosenEdges : List Bool → List (List ℕ) → Type 0
AreOverChosenEdges point paths = AllByRecursion (λ k. is_chosen point k ≡ true) (edges_of paths)

-- paths over chosen edges: they fit, their value is no greater than the point's, and equal for a neat one
pub record AreWithinPoint (problem : Problem) (point : List Bool) (paths : List (List ℕ)) : Type 0 where
  pub fits : FitsCapacities problem (edges_of paths)
  pub no_more : is_below (cutoff_of problem point) (value_along problem (edges_of paths)) ≡ false
  pub neat : IsNeat problem point → value_along problem (edges_of paths) ≡ cutoff_of problem point
