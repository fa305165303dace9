-- What is asked of a box.
use Rattle.std.specs.Prelude.{ℕ, List, Option, Bool}
use Rattle.merlin_model.specs.declared.policy.Value.{Value}
use Rattle.merlin_model.specs.Programs.{Takes}
use Rattle.merlin_model.specs.Trees.{IsBox}
use Rattle.integer_program.specs.declared.relaxation.Verdict.{Verdict}
use Rattle.integer_program.specs.Verdicts.{IsLawful}
use Rattle.cutoff_program.specs.Easy.{IsEasy}
use Rattle.cutoff_program.specs.Trails.{IsNeat}
use Rattle.cutoff_program.specs.declared.flow.Problem.{Problem}
use Rattle.cutoff_program.specs.declared.flow.Variable.{Variable}
use Rattle.cutoff_program.specs.Flows.{takes, program_at, cost_of_variable, rate_over}
use Rattle.price_bound.specs.declared.measure.Measure.{Measure}
use Rattle.price_bound.specs.declared.measure.Measure.TheVariants.{Cost, Rate}

-- a box at a cutoff that the program takes
pub record IsBoxAsked (problem : Problem) (cutoff : Option Value) (box : List (Option Bool)) : Type 0 where
  pub takes : Takes (takes problem.objective) cutoff
  pub in_box : IsBox (program_at problem cutoff) box

-- what a variable adds along a path: what it costs, or what it puts on a link
abbrev pub measured : Problem → Measure → Variable → ℕ
measured problem Cost v = cost_of_variable problem v
measured problem (Rate link) v = rate_over link v

-- what a relaxation may answer of a box of the problem's program
abbrev pub IsLawfulAt : Problem → Option Value → List (Option Bool) → Verdict → Type 0
IsLawfulAt problem cutoff box verdict = IsLawful (program_at problem cutoff) (IsEasy problem cutoff) (IsNeat problem) box verdict
