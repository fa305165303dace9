use Rattle.std.proofs.Common.{slice_get, sym, ◌∙◌, ap}
use Rattle.rate_formula.specs.Usage.{ids_in}
use Rattle.policy_check.specs.Checked.{CheckedPolicy}
use Rattle.policy_check.proofs.Keeping.{ids-view}
use Rattle.policy_check.proofs.checked.Checked.id.Goals as goal

pub returns : goal.returns
returns c =
    c.name_at.ensures
    ∙ (ap (λ l. slice_get l c.args.statement) (c.as_slice.ensures ∙ sym (ids-view c.self.inside c.self.invariant))
    ∙ ap (λ (checked : CheckedPolicy). slice_get (ids_in checked.policy) c.args.statement) c.self.view_is)
