use Rattle.std.proofs.Common.{length, slice_get, sym, ◌∙◌, ap, arith}
use Rattle.merlin_model.specs.Policies.{paths_of}
use Rattle.policy_check.specs.Checked.{CheckedPolicy}
use Rattle.policy_check.proofs.Keeping.{paths-view}
use Rattle.policy_check.proofs.checked.Checked.path.Goals as goal

pub path_at-requires : goal.path_at-requires
path_at-requires c =
    let many = ap length (c.as_slice.ensures ∙ sym (paths-view c.self.inside c.self.invariant)) ∙ ap (λ (checked : CheckedPolicy). length (paths_of checked.policy)) c.self.view_is in
    let asked = c.requires in
    omega (arith, many, asked)

pub returns : goal.returns
returns c =
    ap (λ (checked : CheckedPolicy). slice_get (paths_of checked.policy) c.args.statement) (sym c.self.view_is)
    ∙ (ap (λ l. slice_get l c.args.statement) (paths-view c.self.inside c.self.invariant ∙ sym c.as_slice.ensures)
    ∙ c.path_at.ensures)
