use Rattle.std.proofs.Common.{[], IfSome, ◌≡◌, ◌∙◌, subst, List}
use Rattle.std.specs.declared.cmp.Ordering.{Ordering}
use Rattle.merlin_model.specs.declared.policy.Path.{Path}
use Rattle.path_regex.specs.Order.{order}
use Rattle.path_regex.specs.Shared.{form_at, meanings}
use Rattle.path_regex.proofs.Sharing.{known-found}
use Rattle.path_regex.proofs.forms.Forms.known_order.Goals as goal

pub returns : goal.returns
returns c =
    subst (λ (forms : List Path). IfSome c.copied.result (λ (o : Ordering). o ≡ order (form_at forms c.args.first) (form_at forms c.args.second))) c.self.view_is
    (known-found (meanings [] c.self.inside.nodes.keys) c.self.inside.orders.entries (c.args.first, c.args.second) c.copied.result c.self.invariant.orders (c.copied.ensures ∙ c.get.ensures.value))
