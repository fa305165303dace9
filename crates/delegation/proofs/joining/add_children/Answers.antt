use Rattle.std.proofs.Common.{◌++◌, List, [], ◌∷◌, cond, take, append_assoc, sym, ◌∙◌, ap}
use Rattle.std.specs.List.{flat_map}
use Rattle.delegation.specs.declared.rating.RatedStatement.{RatedStatement}
use Rattle.delegation.specs.NamedJoins.{statements_of_child}
use Rattle.delegation.specs.NamedTrees.{has_parent, children_with}
use Rattle.delegation.proofs.Steps.{joined-more}
use Rattle.delegation.proofs.joining.add_children.Goals as goal

pub loop-number-preserved : goal.loop-number-preserved
loop-number-preserved c =
    let n = c.index-nodes-number.result in
    let p = c.index-policies-number.result in
    let first = flat_map statements_of_child (children_with (take c.loop-number.number c.args.nodes.now) (take c.loop-number.number c.args.policies.now) c.args.place) in
    let more = flat_map statements_of_child (cond (has_parent c.args.place n) ((n, p) ∷ []) []) in
    c.in_ok-add_if_child.ensures ∙ ap (λ (l : List RatedStatement). l ++ more) c.loop-number.invariant ∙ append_assoc c.args.joined.now first more
    ∙ ap (λ (l : List RatedStatement). c.args.joined.now ++ l) (sym (joined-more c.args.place c.args.nodes.now c.args.policies.now c.loop-number.number n p c.loop-number-test.true c.requires c.index-nodes-number.is c.index-policies-number.is))
