use Rattle.std.proofs.Common.{map, option_map, ◌∙◌, ap, subst}
use Rattle.std.proofs.lemmas.Option.{slice_get-map}
use Rattle.policy_check.specs.Numbered.{numbered_policy}
use Rattle.delegation.specs.NamedTrees.{numbered_node}
use Rattle.delegation.proofs.Numbered.{numbered-compositions}
use Rattle.delegation.proofs.Acceptance.{tree-of, accepted-same, locally, node-stands}
use Rattle.delegation.proofs.laws.local_acceptance_of_a_tree.Goals as goal

pub returns-clause-accepted : goal.returns-clause-accepted
returns-clause-accepted c net nodes tree h compositions are k node stands =
    subst (λ (X : Type 0). X) (accepted-same net nodes tree compositions k node)
    (c.local_acceptance_suffices.ensures.accepted net (map (numbered_node net) nodes) (map (numbered_policy net) compositions) (tree-of net nodes tree h.sound h.apart) (numbered-compositions net nodes compositions are)
    (locally net nodes tree h.local) k (numbered_node net node) (node-stands net nodes tree k node stands))

pub returns-clause-refines : goal.returns-clause-refines
returns-clause-refines c net nodes composition tree h is root stands =
    c.local_acceptance_suffices.ensures.refines net (map (numbered_node net) nodes) (map (numbered_policy net) is.all) (tree-of net nodes tree h.sound h.apart) (numbered-compositions net nodes is.all is.are)
    (locally net nodes tree h.local) 0 (numbered_node net root) (numbered_policy net composition) (node-stands net nodes tree 0 root stands) (slice_get-map (numbered_policy net) is.all 0 ∙ ap (option_map (numbered_policy net)) is.stands)
