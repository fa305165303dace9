use Rattle.std.proofs.Common.{◌≡◌, sym, ◌∙◌}
use Rattle.std.specs.Prelude.{codes}
use Rattle.std.specs.String.{string_bytes}
use Rattle.config_text.specs.Result.{objective_word}
use Rattle.merlin.proofs.Words.{texts_of_four, same_bytes, IsCompileForm-no_budget}
use Rattle.merlin.proofs.compile.compile_of.Goals as goal

pub returns-in_err-budget-clause-none : goal.returns-in_err-budget-clause-none
returns-in_err-budget-clause-none c =
    let split = texts_of_four c.args.words.now c.command-item.result c.policy-item.result c.topology-item.result c.objective-item.result
    (record { long = c.in-len4-up.len_at_least; first = c.command-item.is; second = c.policy-item.is; third = c.topology-item.is; fourth = c.objective-item.is }) in
    rw c.from_residual-in_err-budget.ensures (IsCompileForm-no_budget _ _ _ _ _ _ split c.in_err-budget.ensures.none)

pub returns-clause-some : goal.returns-clause-some
returns-clause-some c =
    let split = texts_of_four c.args.words.now c.command-item.result c.policy-item.result c.topology-item.result c.objective-item.result
    (record { long = c.in-len4-up.len_at_least; first = c.command-item.is; second = c.policy-item.is; third = c.topology-item.is; fourth = c.objective-item.is }) in
    let command : string_bytes c.command-item.result ≡ codes "compile" = sym c.as_str.ensures.value ∙ same_bytes _ _ c.if-ne.ensures in
    let objective : string_bytes c.objective-item.result ≡ objective_word c.in_ok-objective.objective = sym c.as_str-2.ensures.value ∙ c.in_ok-objective.ensures.some in
    (_, split ∙ rw (command, c.as_str-3.ensures.value, c.as_str-4.ensures.value, objective), c.in_ok-budget.ensures.some)
