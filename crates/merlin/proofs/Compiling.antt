-- What is replied to a policy and a topology.
use Rattle.std.proofs.Common.{◌≡◌, ◌≤◌, ◌<◌, ◌+◌, ◌^◌, ◌⊎◌, inl, inr, ℕ, List, [], ◌∷◌, None, refl, sym, ◌∙◌, ap, subst, arith}
use Rattle.merlin_base.specs.declared.status.Status.{Status}
use Rattle.merlin_base.specs.declared.status.Status.TheVariants as status
use Rattle.merlin_model.specs.declared.policy.Ends.{Ends}
use Rattle.merlin_model.specs.declared.policy.Objective.{Objective}
use Rattle.merlin_model.specs.Networks.{Network}
use Rattle.policy_check.specs.Checked.{CheckedPolicy}
use Rattle.merlin_compile.specs.declared.outcome.Compiled.{Compiled}
use Rattle.merlin_compile.specs.declared.outcome.Compiled.TheVariants as results
use Rattle.merlin_compile.specs.declared.fault.CompileFault.{CompileFault}
use Rattle.merlin_compile.specs.Input.{IsInput}
use Rattle.merlin_compile.specs.Causes.{IsCompileFault, IsWantOfMemory, IsRefusal}
use Rattle.merlin_compile.specs.Compiled.{IsCompiledFrom}
use Rattle.merlin_compile.specs.Completeness.{IsLeastResult, IsInfeasibleResult, IsSpentResult}
use Rattle.merlin.specs.Compile.{CompileForm, IsCompileForm, IsBudget, IsInBudget, Compiles, IsCompileReply, compiled_status, compile_status}
use Rattle.merlin.specs.Commands.{Form, IsForm, IsLawfulForm, CommandName, Compiling, Refining, Refuting, Dividing, Judging, Tracing, Wiring, Unwiring, Delegating, command_meaning, HasLawfulBudget}
use Rattle.merlin.specs.declared.compile.CompileReply.{CompileReply}
use Rattle.merlin.specs.declared.compile.CompileReply.TheVariants as compile

-- the same of what the files hold

pub of_two : (P : List ℕ → List ℕ → Type 0) (contents : List (List ℕ)) (a b c d : List ℕ)
    → contents ≡ a ∷ b ∷ [] → contents ≡ c ∷ d ∷ [] → P c d → P a b
of_two P contents a b c d e e' h =
    let first : c ≡ a = cc in
    let second : d ≡ b = cc in
    subst (λ x. P x b) first (subst (λ y. P c y) second h)

pub IsCompileReply-compiles : (form : CompileForm) (p t : List ℕ) (r : CompileReply)
    → IsCompileReply form (p ∷ t ∷ []) r → Compiles form p t r
IsCompileReply-compiles form p t r (q, u, e, h) = of_two (λ x y. Compiles form x y r) (p ∷ t ∷ []) p t q u refl e h

-- the budget that words ask for is one that a search may be given

in_budget : (rest : List (List ℕ)) (budget : ℕ) → IsBudget rest budget → IsInBudget budget
in_budget rest budget (inl h) = let is = h.1 in (omega (arith, is), omega (arith, is))
in_budget rest budget (inr h) = (h.3, h.4)

pub lawful_budget : (words : List (List ℕ)) (name : CommandName) (request : (command_meaning name).Request) → (command_meaning name).IsRequest words request → HasLawfulBudget name request
lawful_budget words Compiling form (rest, e, budget) = in_budget rest form.budget budget
lawful_budget words Refining form is = tt
lawful_budget words Refuting form is = tt
lawful_budget words Dividing form is = tt
lawful_budget words Judging form is = tt
lawful_budget words Tracing form is = tt
lawful_budget words Wiring form is = tt
lawful_budget words Unwiring form is = tt
lawful_budget words Delegating form is = tt

pub lawful_form : (words : List (List ℕ)) (form : Form) → IsForm words form → IsLawfulForm form
lawful_form words form is = lawful_budget words form.name form.request is

-- What is known: an input is not refused, nor is what compiles.
pub record KnownAnswers : Type 0 where
  pub input : (p t : List ℕ) (net : Network) (checked : CheckedPolicy) (ends : List Ends) (fault : CompileFault) → IsInput p t net checked ends → IsCompileFault fault p t → IsWantOfMemory fault
  pub compiled : (p t : List ℕ) (objective : Objective) (budget : ℕ) (compiled : Compiled) (fault : CompileFault) → IsCompiledFrom p t objective budget compiled → IsCompileFault fault p t → IsWantOfMemory fault

-- By the kind of a result.

pub kind_done : (c : Compiled) → IsLeastResult c → compiled_status c ≡ status.Done
kind_done (results.Least solved) h = refl
kind_done (results.Infeasible objective tree) h = absurd h
kind_done (results.Budget partial) h = absurd h

pub kind_feasible : (c : Compiled) → ¬ IsInfeasibleResult c → (compiled_status c ≡ status.Done) ⊎ (compiled_status c ≡ status.Budget)
kind_feasible (results.Least solved) h = inl refl
kind_feasible (results.Infeasible objective tree) h = absurd (h tt)
kind_feasible (results.Budget partial) h = inr refl

pub kind_infeasible : (c : Compiled) → ¬ IsLeastResult c → (compiled_status c ≡ status.Infeasible) ⊎ (compiled_status c ≡ status.Budget)
kind_infeasible (results.Least solved) h = absurd (h tt)
kind_infeasible (results.Infeasible objective tree) h = inl refl
kind_infeasible (results.Budget partial) h = inr refl

done_spent : {A : Type 0} → status.Done ≡ status.Budget → A
done_spent e = cc

infeasible_spent : {A : Type 0} → status.Infeasible ≡ status.Budget → A
infeasible_spent e = cc

pub kind_spent : (c : Compiled) → ¬ IsSpentResult c → ¬ (compiled_status c ≡ status.Budget)
kind_spent (results.Least solved) h e = done_spent e
kind_spent (results.Infeasible objective tree) h e = infeasible_spent e
kind_spent (results.Budget partial) h e = h tt

refused_done : {A : Type 0} → status.Done ≡ status.Refused → A
refused_done e = cc

refused_infeasible : {A : Type 0} → status.Infeasible ≡ status.Refused → A
refused_infeasible e = cc

refused_budget : {A : Type 0} → status.Budget ≡ status.Refused → A
refused_budget e = cc

module _ (known : KnownAnswers) (form : CompileForm) (p t : List ℕ) where
  -- an input has a result, of which this is so
  pub by_result : (net : Network) (checked : CheckedPolicy) (ends : List Ends) → IsInput p t net checked ends → (P : Status → Type 0) →
      ((c : Compiled) → IsCompiledFrom p t form.objective form.budget c → P (compiled_status c)) → (r : CompileReply) → Compiles form p t r → P (compile_status r)
  by_result net checked ends i P all (compile.Refused fault) h = absurd (h.0 (known.input p t net checked ends fault i h.1))
  by_result net checked ends i P all (compile.Compiled c) h = all c h

  -- two replies are both refusals, or neither
  pub both_refused : (r s : CompileReply) → Compiles form p t r → Compiles form p t s → compile_status r ≡ status.Refused → compile_status s ≡ status.Refused
  both_refused (compile.Refused fault) (compile.Refused other) h k e = refl
  both_refused (compile.Refused fault) (compile.Compiled c) h k e = absurd (h.0 (known.compiled p t form.objective form.budget c fault k h.1))
  both_refused (compile.Compiled c) s h k e = not_refused c e
    where
      not_refused : {A : Type 0} (c : Compiled) → compiled_status c ≡ status.Refused → A
      not_refused (results.Least solved) e = refused_done e
      not_refused (results.Infeasible objective tree) e = refused_infeasible e
      not_refused (results.Budget partial) e = refused_budget e

pub both_refused_reply : KnownAnswers → (form : CompileForm) (contents : List (List ℕ)) (r s : CompileReply) → IsCompileReply form contents r → IsCompileReply form contents s →
    compile_status r ≡ status.Refused → compile_status s ≡ status.Refused
both_refused_reply known form contents r s (p, t, e, h) (q, u, e', k) is = both_refused known form p t r s h (of_two (λ x y. Compiles form x y s) contents p t q u e e' k) is
