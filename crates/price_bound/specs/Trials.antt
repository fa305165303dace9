-- What is answered of candidates that were tested.
use Rattle.std.specs.Prelude.{List, Option, Bool}
use Rattle.merlin_model.specs.declared.policy.Value.{Value}
use Rattle.merlin_model.specs.Programs.{IsSolution}
use Rattle.merlin_model.specs.Trees.{RefutesBox}
use Rattle.cutoff_program.specs.Flows.{program_at}
use Rattle.cutoff_program.specs.Trails.{IsNeat}
use Rattle.cutoff_program.specs.declared.flow.Problem.{Problem}
use Rattle.price_bound.specs.Loads.{IsOfPaths}
use Rattle.price_bound.specs.declared.trials.TestedCandidate.{TestedCandidate}
use Rattle.price_bound.specs.declared.trials.TestedCandidate.TheVariants.{Refuting, Better, Others, Nothing}

-- paths that may be taken in the box, of a neat point
pub record AreNeatPaths (problem : Problem) (cutoff : Option Value) (box : List (Option Bool)) (point : List Bool) : Type 0 where
  pub of : IsOfPaths problem cutoff box point
  pub neat : IsNeat problem point

-- weights refute the box, a point is a neat solution, or other paths may be taken
abbrev pub IsTested : Problem → Option Value → List (Option Bool) → TestedCandidate → Type 0
IsTested problem cutoff box (Refuting weights) = RefutesBox (program_at problem cutoff) box weights
IsTested problem cutoff box (Better point) = IsSolution (program_at problem cutoff) point × IsNeat problem point
IsTested problem cutoff box (Others point) = IsOfPaths problem cutoff box point
IsTested problem cutoff box Nothing = Unit {0}
