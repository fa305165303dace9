use Rattle.std.proofs.Common.{◌≡◌, List, get_or, sym, ◌∙◌, ap, subst}
use Rattle.delegation.specs.declared.rating.RatedPolicy.{RatedPolicy}
use Rattle.delegation.specs.NamedJoins.{rated_join}
use Rattle.delegation.specs.NamedTrees.{children_with}
use Rattle.delegation.proofs.Backwards.{leaf-step, join-step}
use Rattle.delegation.proofs.composing.compose_at.Goals as goal

pub returns-in_ok-joined-clause-step : goal.returns-in_ok-joined-clause-step
returns-in_ok-joined-clause-step c all are old =
    let same = c.as_slice-policies.ensures in
    let own : RatedPolicy = c.index-policies-place.result in
    c.set.ensures ∙ join-step c.args.nodes.now c.requires.tree all are c.args.place own c.in_ok-joined.joined c.args.rated.now c.requires.within c.requires.long (sym c.has_children.ensures ∙ c.if-has_children.true) old
    (subst (λ (l : List RatedPolicy). own ≡ get_or l c.args.place own) same c.index-policies-place.is)
    (c.in_ok-joined.ensures ∙ ap (λ (l : List RatedPolicy). rated_join own (children_with c.args.nodes.now l c.args.place)) same)

pub returns-else-has_children-clause-step : goal.returns-else-has_children-clause-step
returns-else-has_children-clause-step c all are old =
    leaf-step c.args.nodes.now c.requires.tree all are c.args.place c.args.rated.now c.requires.within (sym c.has_children.ensures ∙ c.if-has_children.false) old
