use Rattle.std.proofs.Common.{◌≡◌, ◌⊎◌}
use Rattle.merlin_base.specs.declared.status.Status.TheVariants as status
use Rattle.merlin.proofs.Compiling.{KnownAnswers, kind_done, kind_feasible, kind_infeasible, kind_spent, by_result, both_refused_reply, IsCompileReply-compiles}
use Rattle.merlin.proofs.laws.compile_replies.Goals as goal

pub returns-clause-done : goal.returns-clause-done
returns-clause-done c =
    let known : KnownAnswers = record { input = c.inputs_are_not_refused.ensures.input; compiled = c.inputs_are_not_refused.ensures.compiled } in
    λ form p t net checked ends reply some i none replied.
    by_result known form p t net checked ends i (λ s. s ≡ status.Done)
    (λ compiled from. kind_done compiled (c.inputs_have_results.ensures.nothing p t net checked ends form.objective form.budget compiled i none some from)) reply (IsCompileReply-compiles form p t reply replied)

pub returns-clause-feasible : goal.returns-clause-feasible
returns-clause-feasible c =
    let known : KnownAnswers = record { input = c.inputs_are_not_refused.ensures.input; compiled = c.inputs_are_not_refused.ensures.compiled } in
    λ form p t net checked ends reply i walks replied.
    by_result known form p t net checked ends i (λ s. (s ≡ status.Done) ⊎ (s ≡ status.Budget))
    (λ compiled from. kind_feasible compiled (c.inputs_have_results.ensures.feasible p t net checked ends form.objective form.budget compiled i walks from)) reply (IsCompileReply-compiles form p t reply replied)

pub returns-clause-infeasible : goal.returns-clause-infeasible
returns-clause-infeasible c =
    let known : KnownAnswers = record { input = c.inputs_are_not_refused.ensures.input; compiled = c.inputs_are_not_refused.ensures.compiled } in
    λ form p t net checked ends reply i none replied.
    by_result known form p t net checked ends i (λ s. (s ≡ status.Infeasible) ⊎ (s ≡ status.Budget))
    (λ compiled from. kind_infeasible compiled (c.inputs_have_results.ensures.infeasible p t net checked ends form.objective form.budget compiled i none from)) reply (IsCompileReply-compiles form p t reply replied)

pub returns-clause-enough : goal.returns-clause-enough
returns-clause-enough c =
    let known : KnownAnswers = record { input = c.inputs_are_not_refused.ensures.input; compiled = c.inputs_are_not_refused.ensures.compiled } in
    λ form p t net checked ends problem reply i of few replied.
    by_result known form p t net checked ends i (λ s. ¬ (s ≡ status.Budget))
    (λ compiled from. kind_spent compiled (c.inputs_have_results.ensures.enough p t net checked ends form.objective form.budget problem compiled i of few from)) reply (IsCompileReply-compiles form p t reply replied)

pub returns-clause-uncoupled : goal.returns-clause-uncoupled
returns-clause-uncoupled c =
    let known : KnownAnswers = record { input = c.inputs_are_not_refused.ensures.input; compiled = c.inputs_are_not_refused.ensures.compiled } in
    λ form p t net checked ends problem reply i of free replied.
    by_result known form p t net checked ends i (λ s. ¬ (s ≡ status.Budget))
    (λ compiled from. kind_spent compiled (c.inputs_have_results.ensures.uncoupled p t net checked ends form.objective form.budget problem compiled i of free from)) reply (IsCompileReply-compiles form p t reply replied)

pub returns-clause-one : goal.returns-clause-one
returns-clause-one c = both_refused_reply (record { input = c.inputs_are_not_refused.ensures.input; compiled = c.inputs_are_not_refused.ensures.compiled })
