-- Least paths of a flow over chosen variables.
use Rattle.std.specs.Prelude.{ℕ, ◌≡◌, ◌≤◌, Bool, true, List}
use Rattle.std.specs.Prelude.{MatchOption, Option}
use Rattle.std.specs.List.{AllByRecursion}
use Rattle.merlin_model.specs.Programs.{is_chosen}
use Rattle.cutoff_program.specs.Flows.{variables_of, last_of, cost_of_variable}
use Rattle.cutoff_program.specs.declared.flow.Problem.{Problem}
use Rattle.cutoff_program.specs.declared.flow.Flow.{Flow}
use Rattle.cutoff_program.specs.Trails.{IsPath}
use Rattle.cutoff_program.specs.Easy.{IsTrailThrough, sum_over}
use Rattle.program_walks.specs.declared.paths.LeastPath.{LeastPath}

abbrev pub IsChosenIn : List Bool → ℕ → Type 0
IsChosenIn point k = is_chosen point k ≡ true

-- a path from the start of a flow to its end over chosen variables, and no such trail costs less
pub record IsLeastPath (problem : Problem) (point : List Bool) (n : ℕ) (flow : Flow) (found : LeastPath) : Type 0 where
  pub is_path : IsPath (variables_of problem) n found.path 0 (last_of flow)
  pub chosen : AllByRecursion (IsChosenIn point) found.path
  pub costs : sum_over problem (cost_of_variable problem) found.path ≡ found.cost
  pub no_less : (other : List ℕ) → IsTrailThrough problem (IsChosenIn point) n flow other → found.cost ≤ sum_over problem (cost_of_variable problem) other

-- the least path, or none where no trail leads there
abbrev pub IsLeastPathIf : Problem → List Bool → ℕ → Flow → Option LeastPath → Type 0
IsLeastPathIf problem point n flow found =
    MatchOption found ((trail : List ℕ) → ¬ IsTrailThrough problem (IsChosenIn point) n flow trail) (IsLeastPath problem point n flow)
