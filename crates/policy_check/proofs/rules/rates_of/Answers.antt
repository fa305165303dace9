use Rattle.std.proofs.Common.{◌∙◌}
use Rattle.std.proofs.lemmas.Result.{err_from_is_err_and}
use Rattle.policy_check.proofs.Rated.{rates-refused}
use Rattle.policy_check.proofs.rules.rates_of.Goals as goal

pub returns-in_err-rates-clause-err : goal.returns-in_err-rates-clause-err
returns-in_err-rates-clause-err c =
    let p = err_from_is_err_and c.from_residual-in_err-rates.result c.from_residual-in_err-rates.ensures.1 in
    rw (p.1, p.2) (rates-refused c.args.policy.now c.in_ok-ask_apart.ensures.ok c.in_ok-ask_total.ensures.ok c.as_slice-2.result.now (c.as_slice-2.ensures ∙ c.requires.ids) _ c.in_err-rates.ensures.err)
