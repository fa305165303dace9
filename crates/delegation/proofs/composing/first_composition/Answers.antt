use Rattle.std.proofs.Common.{◌≡◌, List, Some, map, get_or, slice_get, sym, ◌∙◌, ap}
use Rattle.std.proofs.lemmas.Result.{IfOk-weaker}
use Rattle.policy_expansion.specs.declared.policy.Policy.{Policy}
use Rattle.delegation.specs.declared.node.Node.{Node}
use Rattle.delegation.specs.NamedJoins.{rated_policy, written_policy}
use Rattle.delegation.specs.NamedTrees.{AreNamedCompositions}
use Rattle.delegation.proofs.Questions.{first-written, first-copied}
use Rattle.delegation.proofs.composing.first_composition.Goals as goal

pub returns-then-has_children : goal.returns-then-has_children
returns-then-has_children c =
    let first = c.index-composed-0.result in
    IfOk-weaker c.write.result (λ policy. policy ≡ written_policy first) (λ policy. (all : List Policy) → AreNamedCompositions c.args.nodes.now all → c.args.composed.now ≡ map rated_policy all → slice_get all 0 ≡ Some policy)
    (λ policy is all are e. first-written c.args.nodes.now c.requires.tree all are c.args.composed.now first c.requires.long e (sym c.has_children.ensures ∙ c.if-has_children.true) c.index-composed-0.is ∙ ap Some (sym is)) c.write.ensures

pub returns-else-has_children : goal.returns-else-has_children
returns-else-has_children c =
    let root : Node = c.index-nodes-0.result in
    IfOk-weaker c.copy_of_policy.result (λ policy. policy ≡ (get_or c.args.nodes.now 0 root).policy) (λ policy. (all : List Policy) → AreNamedCompositions c.args.nodes.now all → c.args.composed.now ≡ map rated_policy all → slice_get all 0 ≡ Some policy)
    (λ policy is all are e. first-copied c.args.nodes.now c.requires.tree all are root (sym c.has_children.ensures ∙ c.if-has_children.false) c.index-nodes-0.is ∙ ap Some (ap (λ (n : Node). n.policy) c.index-nodes-0.is ∙ sym is)) c.copy_of_policy.ensures
