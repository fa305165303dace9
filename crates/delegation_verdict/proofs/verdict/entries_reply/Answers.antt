use Rattle.std.proofs.Common.{List, sym, ◌∙◌, subst}
use Rattle.std.proofs.lemmas.List.{length-map}
use Rattle.delegation.specs.declared.node.Node.{Node}
use Rattle.delegation.specs.NamedTrees.{IsNamedTree}
use Rattle.delegation_verdict.specs.Nodes.{policy_texts}
use Rattle.delegation_verdict.proofs.NamedNodes.{named-tree}
use Rattle.delegation_verdict.proofs.verdict.entries_reply.Goals as goal

pub topology_reply-requires : goal.topology_reply-requires
topology_reply-requires c =
    let entries = c.args.entries.now in
    let texts = policy_texts c.args.policies.now in
    subst (λ (ns : List Node). IsNamedTree ns) (sym c.deref.ensures.value)
    (named-tree entries texts c.in-Ok.nodes.items c.requires.kept (length-map c.args.policies.now (λ text. text.items) ∙ c.requires.as_many) c.in-Ok.ensures.ok)
