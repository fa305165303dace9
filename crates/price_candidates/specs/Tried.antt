-- What is tried of a box, and that it decides each box that must be decided.
use Rattle.std.specs.Prelude.{ℕ, ◌≡◌, ◌≤◌, ◌<◌, ◌+◌, ◌==◌, Bool, true, false, ℤ, pos, negsuc, ◌≤ℤ◌, sum, List, [], ◌∷◌, map, length, min, Option, None, Some, slice_get, if◌then◌else◌, Contains, ◌↔◌, ◌⊎◌}
use Rattle.std.specs.List.{AllByRecursion}
use Rattle.merlin_model.specs.declared.policy.Objective.{Objective}
use Rattle.merlin_model.specs.declared.policy.Objective.TheVariants as objective
use Rattle.merlin_model.specs.declared.policy.Value.{Value}
use Rattle.merlin_model.specs.declared.certificate.Weight.{Weight}
use Rattle.merlin_model.specs.Programs.{Program, is_chosen, IsSolution}
use Rattle.merlin_model.specs.Trees.{RefutesBox}
use Rattle.cutoff_program.specs.declared.flow.Problem.{Problem}
use Rattle.cutoff_program.specs.declared.flow.Flow.{Flow}
use Rattle.cutoff_program.specs.declared.flow.Variable.{Variable}
use Rattle.cutoff_program.specs.Flows.{variables_of, program_at, room, last_of, cost_of_variable}
use Rattle.cutoff_program.specs.Trails.{IsTrailOf, IsPath, IsNeat}
pub use Rattle.cutoff_program.specs.Trails.{edges_of, point_with}
use Rattle.cutoff_program.specs.Flows.{rate_over}
use Rattle.cutoff_program.specs.Easy.{MayIn, IsTrailThrough, sum_over, fixed_from, EachFlowHas}
use Rattle.price_candidates.specs.Leaves.{capacity_at, Lengths, OnLink, leaf_from, IsPotential, AreSmallNumbers}

module _ (problem : Problem) (cutoff : Option Value) (box : List (Option Bool)) where
  -- least sums from the start to each vertex, and a permitted trail that has the one of the end
  pub record IsReached (n : ℕ) (flow : Flow) (f : Variable → ℕ) (at : ℕ → ℕ) : Type 0 where
    pub potential : IsPotential problem cutoff box n f at
    pub trail : List ℕ
    pub through : IsTrailThrough problem (MayIn problem cutoff box) n flow trail
    pub reached : sum_over problem f trail ≡ at (last_of flow)

  -- 0 at the vertices that are reached and 1 at the others, the end among them
  pub record IsUnreached (n : ℕ) (flow : Flow) (at : ℕ → ℕ) : Type 0 where
    pub potential : IsPotential problem cutoff box n (λ v. 0) at
    pub low : (vertex : ℕ) → at vertex ≤ 1
    pub last : at (last_of flow) ≡ 1

  -- For one link: the least sums of a flow's rates there, where what is fixed is no more than its least path; else 0.
  pub record IsFloorByPath (link n : ℕ) (flow : Flow) (at : ℕ → ℕ) : Type 0 where
    pub reached : IsReached n flow (rate_over link) at
    pub no_more : fixed_from problem cutoff box n link 0 (variables_of problem) ≤ at (last_of flow)

  pub record IsFloorByFixed (link n : ℕ) (flow : Flow) (at : ℕ → ℕ) : Type 0 where
    pub sums : ℕ → ℕ
    pub reached : IsReached n flow (rate_over link) sums
    pub no_less : sums (last_of flow) ≤ fixed_from problem cutoff box n link 0 (variables_of problem)
    pub zero_at : (vertex : ℕ) → at vertex ≡ 0

  abbrev pub IsFloorAt : ℕ → (ℕ → ℕ → ℕ) → ℕ → Flow → Type 0
  IsFloorAt link at n flow = IsFloorByPath link n flow (at n) ⊎ IsFloorByFixed link n flow (at n)

  -- a permitted path of least cost, by the least costs to each vertex
  pub record IsLeastPath (at : ℕ → ℕ → ℕ) (n : ℕ) (flow : Flow) (path : List ℕ) : Type 0 where
    pub potential : IsPotential problem cutoff box n (cost_of_variable problem) (at n)
    pub is_path : IsPath (variables_of problem) n path 0 (last_of flow)
    pub allowed : AllByRecursion (MayIn problem cutoff box) path
    pub reached : sum_over problem (cost_of_variable problem) path ≡ at n (last_of flow)

  -- What is tried where each flow has a permitted path: the paths of least cost together, and the costs as numbers at vertices.
  pub record IsTried (by_cost : ℕ → ℕ → ℕ) (paths : List (List ℕ)) : Type 0 where
    pub are_paths : EachFlowHas (IsLeastPath by_cost) 0 problem.flows paths
    pub costs : AreSmallNumbers by_cost

  -- and what is tried of one link
  pub record IsTriedOn (link : ℕ) (at : ℕ → ℕ → ℕ) : Type 0 where
    pub floors : (n : ℕ) (flow : Flow) → slice_get problem.flows n ≡ Some flow → IsFloorAt link at n flow
    pub range : AreSmallNumbers at

  pub record HasTried (link : ℕ) : Type 0 where
    pub at : ℕ → ℕ → ℕ
    pub tried : IsTriedOn link at

  abbrev pub HasTriedLinks : Type 0
  HasTriedLinks = (link : ℕ) → link < length problem.links → HasTried link

  -- a link was tried, and what was tried does not refute
  pub record HasFailed (link : ℕ) : Type 0 where
    pub at : ℕ → ℕ → ℕ
    pub tried : IsTriedOn link at
    pub fails : ¬ RefutesBox (program_at problem cutoff) box (leaf_from problem at (OnLink link))

  -- a load that is no less than what is fixed, and than that of some permitted path
  pub record IsNoLess (link n : ℕ) (flow : Flow) (load : ℕ) : Type 0 where
    pub trail : List ℕ
    pub through : IsTrailThrough problem (MayIn problem cutoff box) n flow trail
    pub of_trail : sum_over problem (rate_over link) trail ≤ load
    pub of_fixed : fixed_from problem cutoff box n link 0 (variables_of problem) ≤ load

  -- such loads fit on the link, so that it need not be tried
  pub record IsLight (link : ℕ) : Type 0 where
    pub loads : List ℕ
    pub are_loads : EachFlowHas (IsNoLess link) 0 problem.flows loads
    pub fits : pos (sum loads) ≤ℤ room problem.objective cutoff (capacity_at problem link)

-- the costs, where the objective counts them, else 0
abbrev pub lengths_by : Objective → (ℕ → ℕ → ℕ) → ℕ → ℕ → ℕ
lengths_by objective.Shortest at = at
lengths_by objective.Ratio at = λ n vertex. 0
lengths_by objective.Reserved at = λ n vertex. 0

-- the leaf of the costs
abbrev pub leaf_by_costs : Problem → (ℕ → ℕ → ℕ) → List Weight
leaf_by_costs problem by_cost = leaf_from problem (lengths_by problem.objective by_cost) Lengths

-- numbers for one flow, and 0 for the others
abbrev pub only : ℕ → (ℕ → ℕ) → ℕ → ℕ → ℕ
only n at m vertex = if m == n then at vertex else 0

-- the point that chooses the edges of these paths
pub record HasEdgesOf (problem : Problem) (paths : List (List ℕ)) (point : List Bool) : Type 0 where
  pub size : length point ≡ length (variables_of problem)
  pub chosen : (k : ℕ) → (is_chosen point k ≡ true) ↔ Contains (edges_of paths) k

pub record IsBetter (problem : Problem) (cutoff : Option Value) (point : List Bool) : Type 0 where
  pub solution : IsSolution (program_at problem cutoff) point
  pub is_neat : IsNeat problem point

-- One of what is tried decides the box.
pub data IsDecidedBy (problem : Problem) (cutoff : Option Value) (box : List (Option Bool)) (by_cost : ℕ → ℕ → ℕ) (links : HasTriedLinks problem cutoff box) (point : List Bool) : Type 0 where
  ByLengths : RefutesBox (program_at problem cutoff) box (leaf_from problem (lengths_by problem.objective by_cost) Lengths) → IsDecidedBy problem cutoff box by_cost links point
  ByLink : (link : ℕ) (exists : link < length problem.links) → RefutesBox (program_at problem cutoff) box (leaf_from problem (links link exists).at (OnLink link)) → IsDecidedBy problem cutoff box by_cost links point
  ByPoint : IsBetter problem cutoff point → IsDecidedBy problem cutoff box by_cost links point

-- one row one_weight
abbrev pub one_weight : ℕ → ℤ → List Weight
one_weight row weight = record { row = row; weight = weight } ∷ []

-- the box's own point: 1 where it fixes to 1
abbrev pub is_fixed_to_one : Option Bool → Bool
is_fixed_to_one None = false
is_fixed_to_one (Some b) = b

abbrev pub point_in : List (Option Bool) → List Bool
point_in box = map is_fixed_to_one box

-- A row of a box without an open variable refutes by itself, or no row is broken.
pub data IsSettled (program : Program) (box : List (Option Bool)) : Type 0 where
  Broken : (row : ℕ) (weight : ℤ) → row < length program.rows → (weight ≡ pos 1) ⊎ (weight ≡ negsuc 0) → RefutesBox program box (one_weight row weight) → IsSettled program box
  Unbroken : IsSolution program (point_in box) → IsSettled program box

-- From least sums, where there are any, to numbers at vertices.

-- What a search of a graph answers for one flow: 0 at the start, and what a permitted edge leads to from there on.
pub record SpreadsCosts (problem : Problem) (cutoff : Option Value) (box : List (Option Bool)) (n : ℕ) (f : Variable → ℕ) (distance : ℕ → Option ℕ) : Type 0 where
  pub start : distance 0 ≡ Some 0
  pub spreads : (k : ℕ) (v : Variable) → slice_get (variables_of problem) k ≡ Some v → v.flow ≡ n → MayIn problem cutoff box k → (a : ℕ) → distance v.edge.from ≡ Some a → (b : ℕ) × (distance v.edge.to ≡ Some b) × (b ≤ a + f v)

-- no number is past that of the end, and vertices that aren't reached have that one
abbrev pub capped : ℕ → Option ℕ → ℕ
capped most None = most
capped most (Some d) = min d most

-- 1 where a vertex is not reached
abbrev pub missing : Option ℕ → ℕ
missing None = 1
missing (Some d) = 0

pub record IsCapped (problem : Problem) (cutoff : Option Value) (box : List (Option Bool)) (n : ℕ) (flow : Flow) (f : Variable → ℕ) (most : ℕ) (at : ℕ → ℕ) : Type 0 where
  pub potential : IsPotential problem cutoff box n f at
  pub last : at (last_of flow) ≡ most
  pub low : (vertex : ℕ) → at vertex ≤ most

-- the least sums of permitted trails from the start to each vertex, where there are any
pub record AreLeastSums (problem : Problem) (cutoff : Option Value) (box : List (Option Bool)) (n : ℕ) (f : Variable → ℕ) (distance : ℕ → Option ℕ) : Type 0 where
  pub reached : (vertex sum : ℕ) → distance vertex ≡ Some sum → (trail : List ℕ) × IsTrailOf (variables_of problem) n trail 0 vertex × AllByRecursion (MayIn problem cutoff box) trail × (sum_over problem f trail ≡ sum)
  pub least : (vertex : ℕ) (trail : List ℕ) → IsTrailOf (variables_of problem) n trail 0 vertex → AllByRecursion (MayIn problem cutoff box) trail → (sum : ℕ) × (distance vertex ≡ Some sum) × (sum ≤ sum_over problem f trail)
