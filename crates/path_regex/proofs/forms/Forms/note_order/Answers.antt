use Rattle.std.proofs.Common.{sym, subst, List}
use Rattle.merlin_model.specs.declared.policy.Path.{Path}
use Rattle.path_regex.specs.Shared.{IsKnownOrder}
use Rattle.path_regex.proofs.Sharing.{noted}
use Rattle.path_regex.proofs.forms.Forms.note_order.Goals as goal

pub invariant_of-self-2 : goal.invariant_of-self-2
invariant_of-self-2 c =
    noted c.self.inside.nodes.keys c.self.inside.orders.entries c.insert.new.self.entries c.self.inside.steps.entries c.insert.result (c.args.first, c.args.second) c.args.found c.self.invariant
    (subst (λ (forms : List Path). IsKnownOrder forms ((c.args.first, c.args.second), c.args.found)) (sym c.self.view_is) (c.requires.first, c.requires.second, c.requires.found))
    c.insert.ensures.entries c.insert.ensures.err
