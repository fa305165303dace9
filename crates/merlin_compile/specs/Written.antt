-- What is written of a result.
use Rattle.std.specs.Prelude.{ℕ, List, zip}
use Rattle.merlin_model.specs.declared.policy.Objective.{Objective}
use Rattle.config_text.specs.Loads.{loads_of}
use Rattle.config_text.specs.Result.{result_lines}
use Rattle.result_heads.specs.Heads.{infeasible_lines, budget_lines}
use Rattle.result_heads.specs.Queued.{queued_on}
use Rattle.merlin_compile.specs.declared.outcome.Solved.{Solved}
use Rattle.merlin_compile.specs.declared.outcome.Partial.{Partial}
use Rattle.merlin_compile.specs.declared.outcome.Compiled.{Compiled}
use Rattle.merlin_compile.specs.declared.outcome.Compiled.TheVariants.{Least, Infeasible, Budget}
use Rattle.merlin_compile.specs.Compiled.{IsSolvedFrom, IsPartialFrom, IsCompiledFrom}

-- The lines of a result. Its loads are those of its queues, which are those of its walks.
abbrev pub solved_lines : Solved → List (List ℕ)
solved_lines s = result_lines s.net s.objective s.value (zip s.ids s.walks) (loads_of s.net (queued_on s.config.queues)) s.config s.tree

abbrev pub partial_lines : Partial → List (List ℕ)
partial_lines p = budget_lines p.net p.objective p.ids p.best p.bound p.tree

abbrev pub compiled_lines : Compiled → List (List ℕ)
compiled_lines (Least solved) = solved_lines solved
compiled_lines (Infeasible objective tree) = infeasible_lines objective tree
compiled_lines (Budget partial) = partial_lines partial

-- It is the result of some texts.

abbrev pub IsSolvedFromSome : Solved → Type 0
IsSolvedFromSome solved = (policy topology : List ℕ) × (objective : Objective) × (budget : ℕ) × IsSolvedFrom policy topology objective budget solved

abbrev pub IsPartialFromSome : Partial → Type 0
IsPartialFromSome partial = (policy topology : List ℕ) × (objective : Objective) × (budget : ℕ) × IsPartialFrom policy topology objective budget partial

abbrev pub IsCompiledFromSome : Compiled → Type 0
IsCompiledFromSome compiled = (policy topology : List ℕ) × (objective : Objective) × (budget : ℕ) × IsCompiledFrom policy topology objective budget compiled
