use Rattle.std.proofs.Common.{map, sym, ◌∙◌, ap}
use Rattle.policy_check.specs.Checked.{CheckedPolicy}
use Rattle.policy_check.proofs.Keeping.{preds-view}
use Rattle.policy_check.proofs.checked.Checked.preds.Goals as goal

pub returns : goal.returns
returns c =
    c.as_slice.ensures
    ∙ (sym (preds-view c.self.inside c.self.invariant)
    ∙ ap (λ (checked : CheckedPolicy). map (λ s. s.pred) checked.policy.statements) c.self.view_is)
