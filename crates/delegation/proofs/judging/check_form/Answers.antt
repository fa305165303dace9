use Rattle.std.proofs.Common.{◌≡◌, sym, ◌∙◌, ap, subst}
use Rattle.std.proofs.lemmas.Result.{IfOk-weaker, IfErr-weaker}
use Rattle.topology.specs.Symbols.{network_symbols}
use Rattle.policy_expansion.specs.Kept.{IsWellFormed}
use Rattle.policy_check.specs.Rules.{KeepsAllRules}
use Rattle.delegation.specs.NamedJoins.{rated_policy, written_policy}
use Rattle.delegation.proofs.Accepting.{form-formed, form-is}
use Rattle.delegation.proofs.judging.check_form.Goals as goal

pub check-requires-clause-formed : goal.check-requires-clause-formed
check-requires-clause-formed c =
    subst IsWellFormed (sym (c.in_ok-form.ensures ∙ ap written_policy c.requires.rated)) (form-formed c.args.net.now (network_symbols c.args.net.now) c.args.node.now c.args.own.now c.requires)

pub returns-clause-ok : goal.returns-clause-ok
returns-clause-ok c = IfOk-weaker c.check.result _ _
    (λ checked is. form-is c.args.net.now (network_symbols c.args.net.now) c.args.node.now c.in_ok-form.form checked (c.in_ok-form.ensures ∙ ap written_policy c.requires.rated) is) c.check.ensures.ok

pub returns-clause-err : goal.returns-clause-err
returns-clause-err c =
    let law = c.localised_forms_keep_all_rules.ensures in
    let is : c.in_ok-form.form ≡ written_policy (rated_policy c.args.node.now.policy) = c.in_ok-form.ensures ∙ ap written_policy c.requires.rated in
    let keeps = subst (KeepsAllRules c.args.net.now (network_symbols c.args.net.now)) (sym is) (law.kept c.args.net.now (network_symbols c.args.net.now) c.args.node.now.policy c.requires.is_node.expanded c.requires.keeps) in
    IfErr-weaker c.check.result _ _ (λ fault broken. law.unbroken c.args.net.now (network_symbols c.args.net.now) c.in_ok-form.form fault keeps broken) c.check.ensures.err
