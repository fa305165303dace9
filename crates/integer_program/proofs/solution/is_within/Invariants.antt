use Rattle.std.proofs.Common.{ℕ, ◌≡◌, ◌<◌, true}
use Rattle.std.specs.Option.{option_copied}
use Rattle.merlin_model.specs.Programs.{is_chosen}
use Rattle.integer_program.proofs.solution.is_within.Given as goal

abbrev pub invariant-loop-variable : goal.invariant-loop-variable
invariant-loop-variable g l = (v : ℕ) → v < l.variable → is_chosen l.point v ≡ true → is_chosen (g.P.Program.instance l.program (option_copied l.cutoff)).upper v ≡ true
