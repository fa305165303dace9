-- What a search over the program of a problem answers, whatever its chooser.
use Rattle.std.specs.Prelude.{ℕ, ◌≡◌, Bool, List, Option, None, Some}
use Rattle.merlin_model.specs.declared.certificate.Tree.{Tree}
use Rattle.merlin_model.specs.declared.policy.Symbol.{Symbol}
use Rattle.merlin_model.specs.declared.policy.Value.{Value}
use Rattle.merlin_model.specs.Programs.{IsSolution}
use Rattle.bound_search.specs.declared.outcome.Outcome.{Outcome}
use Rattle.bound_search.specs.declared.outcome.Outcome.TheVariants.{Least, Infeasible, Budget}
use Rattle.cutoff_program.specs.Flows.{program_at, cutoff_of}
use Rattle.cutoff_program.specs.Trails.{IsNeat}
use Rattle.cutoff_program.specs.declared.flow.Problem.{Problem}
use Rattle.program_walks.specs.Solutions.{AreWalksOfPoint}
use Rattle.walk_search.specs.Found.{RefutesAt, IsSpentAt}

-- a neat solution of the program without a cutoff
pub record IsNeatSolution (problem : Problem) (point : List Bool) : Type 0 where
  pub solution : IsSolution (program_at problem None) point
  pub is_neat : IsNeat problem point

-- with its value, at which a tree refutes the program
pub record IsLeastSolution (problem : Problem) (budget : ℕ) (point : List Bool) (value : Value) (tree : Tree) : Type 0 where
  pub point_is : IsNeatSolution problem point
  pub own : value ≡ cutoff_of problem point
  pub refutes : RefutesAt problem (Some value) budget tree

abbrev pub IsStoppedAt : Problem → ℕ → Tree → Option (List Bool) → Type 0
IsStoppedAt problem budget tree None = IsSpentAt problem None budget tree
IsStoppedAt problem budget tree (Some point) = IsNeatSolution problem point × IsSpentAt problem (Some (cutoff_of problem point)) budget tree

abbrev pub IsOutcomeOf : Problem → ℕ → Outcome Value → Type 0
IsOutcomeOf problem budget (Least point value tree) = IsLeastSolution problem budget point value tree
IsOutcomeOf problem budget (Infeasible tree) = RefutesAt problem None budget tree
IsOutcomeOf problem budget (Budget best tree) = IsStoppedAt problem budget tree best

-- the walks of the best point, if there is one, with the point's value
abbrev pub AreWalksIf : Problem → List (List Symbol) → Option (List Bool) → Option (Value × List (List Symbol)) → Type 0
AreWalksIf problem symbols None None = Unit {0}
AreWalksIf problem symbols (Some point) (Some best) = (best.0 ≡ cutoff_of problem point) × AreWalksOfPoint problem symbols point best.1
AreWalksIf problem symbols _ _ = ⊥
