use Rattle.std.proofs.Common.{sym, ◌∙◌, ap}
use Rattle.rate_formula.specs.Usage.{ids_in}
use Rattle.localise.specs.Localised.{localised}
use Rattle.policy_check.specs.Checked.{CheckedPolicy}
use Rattle.policy_check.proofs.Keeping.{ids-view}
use Rattle.policy_check.proofs.checked.Checked.rates.Goals as goal

pub returns : goal.returns
returns c =
    c.self.invariant.rates
    ∙ (ap (localised c.self.inside.formula.terms) (sym (ids-view c.self.inside c.self.invariant))
    ∙ ap (λ (checked : CheckedPolicy). localised checked.policy.terms (ids_in checked.policy)) c.self.view_is)
