use Rattle.std.proofs.Common.{sym, ◌∙◌, ap}
use Rattle.rate_formula.specs.Usage.{ids_in}
use Rattle.policy_check.specs.Checked.{CheckedPolicy}
use Rattle.policy_check.proofs.Keeping.{ids-view}
use Rattle.policy_check.proofs.checked.Checked.ids.Goals as goal

pub returns : goal.returns
returns c =
    c.as_slice.ensures
    ∙ (sym (ids-view c.self.inside c.self.invariant)
    ∙ ap (λ (checked : CheckedPolicy). ids_in checked.policy) c.self.view_is)
