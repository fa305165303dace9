-- What a relaxation may answer.
use Rattle.std.specs.Prelude.{Bool, List, Option}
use Rattle.merlin_model.specs.Programs.{Program, IsSolution}
use Rattle.merlin_model.specs.Trees.{RefutesBox, HasOpen}
use Rattle.integer_program.specs.declared.relaxation.Verdict.{Verdict}
use Rattle.integer_program.specs.declared.relaxation.Verdict.TheVariants.{Closed, Better, Undecided}

-- Weights refute the box, a point is a neat solution, and only a box that is not easy and has an open variable is left undecided.
abbrev pub IsLawful : Program → (List (Option Bool) → Type 0) → (List Bool → Type 0) → List (Option Bool) → Verdict → Type 0
IsLawful program easy neat box (Closed weights) = RefutesBox program box weights
IsLawful program easy neat box (Better point) = IsSolution program point × neat point
IsLawful program easy neat box Undecided = HasOpen program box × (¬ easy box)
