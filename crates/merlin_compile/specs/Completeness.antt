-- Which results an input may have.
use Rattle.std.specs.Prelude.{ℕ, ⊤, List, None, Some}
use Rattle.merlin_model.specs.declared.policy.Ends.{Ends}
use Rattle.merlin_model.specs.declared.policy.Objective.{Objective}
use Rattle.merlin_model.specs.declared.policy.Symbol.{Symbol}
use Rattle.merlin_model.specs.Networks.{Network}
use Rattle.merlin_model.specs.Policies.{Policy as NumberedPolicy}
use Rattle.merlin_model.specs.Rates.{IsGuaranteed}
use Rattle.merlin_model.specs.Assignments.{IsAssignment, IsFeasible, value_of}
use Rattle.cutoff_program.specs.Easy.{IsUncoupled}
use Rattle.cutoff_program.specs.declared.flow.Problem.{Problem}
use Rattle.policy_check.specs.Checked.{CheckedPolicy}
use Rattle.policy_flows.specs.Layouts.{IsLayout}
use Rattle.walk_search.specs.Parts.{checked_parts}
use Rattle.merlin_compile.specs.declared.outcome.Compiled.{Compiled}
use Rattle.merlin_compile.specs.declared.outcome.Compiled.TheVariants.{Least, Infeasible, Budget}

abbrev pub GuaranteesNothing : NumberedPolicy → Type 0
GuaranteesNothing policy = (i : ℕ) → ¬ IsGuaranteed policy i

-- some assignment of allowed walks is feasible
abbrev pub HasFeasibleWalks : Network → NumberedPolicy → List Ends → Type 0
HasFeasibleWalks net policy ends =
    (walks : List (List Symbol)) × IsAssignment net policy ends walks × IsFeasible net policy ends walks

-- the program that is laid out of the guarantees
abbrev pub IsProblemFor : Network → CheckedPolicy → List Ends → Objective → Problem → Type 0
IsProblemFor net checked ends objective problem =
    (symbols : List (List Symbol)) × IsLayout net (checked_parts net checked) ends objective problem symbols

-- Shortest paths do not hinder one another: without a cutoff, and at the value of each feasible assignment.
pub record NeverCouples (net : Network) (policy : NumberedPolicy) (ends : List Ends) (objective : Objective) (problem : Problem) : Type 0 where
  pub without : IsUncoupled problem None
  pub at : (walks : List (List Symbol)) → IsAssignment net policy ends walks → IsFeasible net policy ends walks →
      IsUncoupled problem (Some (value_of net policy ends objective walks))

-- The three kinds of results.

abbrev pub IsLeastResult : Compiled → Type 0
IsLeastResult (Least solved) = ⊤
IsLeastResult (Infeasible asked tree) = ⊥
IsLeastResult (Budget partial) = ⊥

abbrev pub IsInfeasibleResult : Compiled → Type 0
IsInfeasibleResult (Least solved) = ⊥
IsInfeasibleResult (Infeasible asked tree) = ⊤
IsInfeasibleResult (Budget partial) = ⊥

abbrev pub IsSpentResult : Compiled → Type 0
IsSpentResult (Least solved) = ⊥
IsSpentResult (Infeasible asked tree) = ⊥
IsSpentResult (Budget partial) = ⊤
