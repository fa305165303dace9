-- What a point and a box put on the links together.
use Rattle.std.specs.Prelude.{ℕ, ◌≡◌, ◌<◌, ◌+◌, ◌||◌, List, [], ◌∷◌, length, Option, Bool, slice_index_or}
use Rattle.merlin_model.specs.declared.policy.Value.{Value}
use Rattle.merlin_model.specs.Programs.{is_chosen}
use Rattle.merlin_model.specs.Trees.{fixed_at}
use Rattle.cutoff_program.specs.declared.flow.Problem.{Problem}
use Rattle.cutoff_program.specs.declared.flow.Variable.{Variable}
use Rattle.std.specs.List.{AllByRecursion}
use Rattle.cutoff_program.specs.declared.flow.Flow.{Flow}
use Rattle.cutoff_program.specs.Flows.{variables_of, last_of, rate_over, count_if}
use Rattle.cutoff_program.specs.Trails.{IsPath}
use Rattle.cutoff_program.specs.Easy.{EachFlowHas, MayIn}
use Rattle.price_candidates.specs.Tried.{is_fixed_to_one, HasEdgesOf}

-- the point chooses the variable, or the box fixes it to 1
abbrev pub is_loaded : List Bool → List (Option Bool) → ℕ → Bool
is_loaded point box k = is_chosen point k || is_fixed_to_one (fixed_at box k)

-- the sum of some terms over the variables for which a test holds, the first of which has number k
abbrev pub sum_where : (ℕ → Bool) → (Variable → ℕ) → ℕ → List Variable → ℕ
sum_where test f k [] = 0
sum_where test f k (v ∷ vs) = count_if (test k) (f v) + sum_where test f (k + 1) vs

abbrev pub load_on : Problem → List Bool → List (Option Bool) → ℕ → ℕ
load_on problem point box link = sum_where (is_loaded point box) (rate_over link) 0 (variables_of problem)

-- the load of each link
pub record AreLoads (problem : Problem) (point : List Bool) (box : List (Option Bool)) (loads : List ℕ) : Type 0 where
  pub size : length loads ≡ length problem.links
  pub each : (link : ℕ) → link < length problem.links → slice_index_or loads link 0 ≡ load_on problem point box link

-- the point has the edges of paths that may be taken, one for each flow
pub record IsAllowedPath (problem : Problem) (cutoff : Option Value) (box : List (Option Bool)) (n : ℕ) (flow : Flow) (path : List ℕ) : Type 0 where
  pub is_path : IsPath (variables_of problem) n path 0 (last_of flow)
  pub allowed : AllByRecursion (MayIn problem cutoff box) path

pub record IsOfPaths (problem : Problem) (cutoff : Option Value) (box : List (Option Bool)) (point : List Bool) : Type 0 where
  pub paths : List (List ℕ)
  pub are_paths : EachFlowHas (IsAllowedPath problem cutoff box) 0 problem.flows paths
  pub of : HasEdgesOf problem paths point

-- what such a point and the box put on a link
pub record IsLoadOf (problem : Problem) (cutoff : Option Value) (box : List (Option Bool)) (link load : ℕ) : Type 0 where
  pub point : List Bool
  pub of : IsOfPaths problem cutoff box point
  pub is : load ≡ load_on problem point box link
