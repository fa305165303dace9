-- Whole trees: the first node's composition, and nodes that are accepted by themselves where all questions are answered yes.
use Rattle.std.proofs.Common.{◌≡◌, true, false, ◌<◌, List, length, map, get_or, Some, slice_get, sym, ◌∙◌, ap, arith}
use Rattle.std.specs.List.{list_any}
use Rattle.std.proofs.lemmas.Option.{slice_get_within}
use Rattle.merlin_model.specs.declared.policy.Symbol.{Symbol}
use Rattle.merlin_model.specs.Networks.{Network}
use Rattle.policy_expansion.specs.declared.policy.Policy.{Policy}
use Rattle.policy_check.specs.Checked.{CheckedPolicy}
use Rattle.delegation.specs.declared.node.Node.{Node}
use Rattle.delegation.specs.declared.rating.RatedPolicy.{RatedPolicy}
use Rattle.delegation.specs.NamedJoins.{rated_policy, written_policy}
use Rattle.delegation.specs.NamedTrees.{IsTreeNode, IsNamedTree, has_parent, AreNamedCompositions}
use Rattle.delegation.specs.TreeRules.{HasSoundSizes, HasSoundJoins, IsAcceptedTree, IsEachLocallyAccepted}
use Rattle.delegation.specs.JoinChecks.{AreJoinChecks}
use Rattle.delegation.proofs.Own.{all-at, stands-at, there}
use Rattle.delegation.proofs.Formed.{own-sound}
use Rattle.delegation.proofs.Judgement.{joins-keep}
use Rattle.delegation.proofs.Backwards.{root-leaf, root-join}

module _ (nodes : List Node) (tree : IsNamedTree nodes) (all : List Policy) (are : AreNamedCompositions nodes all) where
  -- a first node with children: what stands in its place is written
  pub first-written : (composed : List RatedPolicy) (first : RatedPolicy) → length composed ≡ length nodes → composed ≡ map rated_policy all → list_any (has_parent 0) nodes ≡ true → first ≡ get_or composed 0 first →
      slice_get all 0 ≡ Some (written_policy first)
  first-written composed first long e any is =
      let some = tree.some in
      let within : 0 < length composed = omega (arith, some, long) in
      by (there nodes 0 some) (ap (λ l. slice_get l 0) (sym e) ∙ stands-at composed 0 first within is)
    where
      by : (root : Node) × (slice_get nodes 0 ≡ Some root) → slice_get (map rated_policy all) 0 ≡ Some first → slice_get all 0 ≡ Some (written_policy first)
      by (root, at) stands = root-join nodes tree all are root first at any stands

  -- a leaf: its own policy is copied
  pub first-copied : (root : Node) → list_any (has_parent 0) nodes ≡ false → root ≡ get_or nodes 0 root → slice_get all 0 ≡ Some root.policy
  first-copied root none is = root-leaf nodes tree all are root (stands-at nodes 0 root tree.some is) none

-- where the joins of all nodes were checked, each keeps all rules
pub joins-sound : (net : Network) (symbols : List Symbol) (nodes : List Node) (joins : List CheckedPolicy) → HasSoundSizes net symbols nodes → AreJoinChecks net symbols nodes (length nodes) joins → HasSoundJoins net symbols nodes
joins-sound net symbols nodes joins sizes are = record {
  sizes = sizes;
  joined = λ k n e. joins-keep net symbols nodes (length nodes) joins are k n (slice_get_within nodes k n e) e;
}

pub locally-accepted : (net : Network) (symbols : List Symbol) (nodes : List Node) → IsNamedTree nodes → IsAcceptedTree net symbols nodes → IsEachLocallyAccepted net nodes
locally-accepted net symbols nodes tree h = record {
  sound = λ k n e. let is : IsTreeNode n = all-at IsTreeNode nodes k n tree.each e in own-sound net symbols n.policy is.expanded is.formed (h.few.joins.sizes.parts.scopes.own k n e);
  apart = h.few.joins.sizes.parts.apart;
  local = h.accepted;
}
