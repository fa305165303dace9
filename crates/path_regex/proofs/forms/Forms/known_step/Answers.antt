use Rattle.std.proofs.Common.{[], IfSome, ◌∙◌, subst, List, ℕ}
use Rattle.merlin_model.specs.declared.policy.Path.{Path}
use Rattle.path_regex.specs.Shared.{form_at, meanings, members_after, IsFormAt}
use Rattle.path_regex.proofs.Steps.{step-found}
use Rattle.path_regex.proofs.forms.Forms.known_step.Goals as goal

pub returns : goal.returns
returns c =
    subst (λ (forms : List Path). IfSome c.copied.result (λ (rest : ℕ). IsFormAt forms rest (members_after (form_at forms c.args.all) c.args.symbol))) c.self.view_is
    (step-found (meanings [] c.self.inside.nodes.keys) c.self.inside.steps.entries (record { all = c.args.all; loc = c.args.symbol.loc; fun = c.args.symbol.fun }) c.copied.result c.self.invariant.steps (c.copied.ensures ∙ c.get.ensures.value))
