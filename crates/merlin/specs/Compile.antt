-- The command `compile`.
use Rattle.std.specs.Prelude.{◌≡◌, ◌⊎◌, ◌≤◌, ◌++◌, ℕ, List, [], ◌∷◌, codes}
use Rattle.merlin_base.specs.Lexemes.{IsDecimal}
use Rattle.merlin_base.specs.declared.status.Status.{Status}
use Rattle.merlin_base.specs.declared.status.Status.TheVariants as status
use Rattle.merlin_model.specs.declared.policy.Objective.{Objective}
use Rattle.config_text.specs.Words.{line}
use Rattle.config_text.specs.Result.{objective_word}
use Rattle.merlin.specs.declared.reading.TheConstants.{TEXT_LIMIT}
use Rattle.merlin.specs.declared.compile.TheConstants.{DEFAULT_BUDGET, MAX_BUDGET}
use Rattle.merlin.specs.declared.compile.Compile.{Compile}
use Rattle.merlin.specs.declared.compile.CompileReply.{CompileReply}
use Rattle.merlin.specs.declared.compile.CompileReply.TheVariants as reply
use Rattle.merlin_compile.specs.declared.outcome.Compiled.{Compiled}
use Rattle.merlin_compile.specs.declared.outcome.Compiled.TheVariants as results
use Rattle.merlin_compile.specs.Causes.{IsRefusal, compile_fault_text}
use Rattle.merlin_compile.specs.Compiled.{IsCompiledFrom}
use Rattle.merlin_compile.specs.Written.{compiled_lines}

-- Its words and its files.

pub record CompileForm : Type 0 where
  pub policy : List ℕ
  pub topology : List ℕ
  pub objective : Objective
  pub budget : ℕ

abbrev pub compile_form : Compile → CompileForm
compile_form words = record {
  policy = words.policy.now;
  topology = words.topology.now;
  objective = words.objective;
  budget = words.budget;
}

-- what may follow the objective: nothing, for the default, or a number up to the greatest
abbrev pub IsBudget : List (List ℕ) → ℕ → Type 0
IsBudget rest budget =
    ((rest ≡ []) × (budget ≡ DEFAULT_BUDGET))
    ⊎ ((text : List ℕ) × (rest ≡ text ∷ []) × IsDecimal text budget
    × (1 ≤ budget) × (budget ≤ MAX_BUDGET))

-- nodes that a search may be given
abbrev pub IsInBudget : ℕ → Type 0
IsInBudget budget = (1 ≤ budget) × (budget ≤ MAX_BUDGET)

abbrev pub IsCompileForm : List (List ℕ) → CompileForm → Type 0
IsCompileForm words form = (rest : List (List ℕ))
    × (words ≡ codes "compile" ∷ form.policy ∷ form.topology ∷ objective_word form.objective ∷ rest)
    × IsBudget rest form.budget

abbrev pub compile_files : CompileForm → List (List ℕ × ℕ)
compile_files form = (form.policy, TEXT_LIMIT) ∷ (form.topology, TEXT_LIMIT) ∷ []

-- What each reply means of the policy and the topology.

abbrev pub Compiles : CompileForm → List ℕ → List ℕ → CompileReply → Type 0
Compiles form policy topology (reply.Refused fault) = IsRefusal fault policy topology
Compiles form policy topology (reply.Compiled compiled) =
    IsCompiledFrom policy topology form.objective form.budget compiled

abbrev pub IsCompileReply : CompileForm → List (List ℕ) → CompileReply → Type 0
IsCompileReply form contents reply = (policy topology : List ℕ)
    × (contents ≡ policy ∷ topology ∷ []) × Compiles form policy topology reply

-- Its lines and its status.

abbrev pub compile_lines : CompileReply → List (List ℕ)
compile_lines (reply.Refused fault) = line (codes "refused: " ++ compile_fault_text fault) ∷ []
compile_lines (reply.Compiled compiled) = compiled_lines compiled

abbrev pub compiled_status : Compiled → Status
compiled_status (results.Least solved) = status.Done
compiled_status (results.Infeasible objective tree) = status.Infeasible
compiled_status (results.Budget partial) = status.Budget

abbrev pub compile_status : CompileReply → Status
compile_status (reply.Refused fault) = status.Refused
compile_status (reply.Compiled compiled) = compiled_status compiled
