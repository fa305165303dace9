-- Delegation trees: what a caller hands in, and what the nodes of a tree say together.
use Rattle.std.specs.Prelude.{ℕ, suc, ◌≡◌, ◌≢◌, ◌≤◌, ◌<◌, ◌+◌, ◌++◌, ◌==◌, Bool, false, List, [], ◌∷◌, map, filter, length, take, drop, None, Some, slice_get}
use Rattle.std.specs.Option.{option_map_or}
use Rattle.std.specs.List.{AllByRecursion, enumerate_from, zip}
use Rattle.merlin_model.specs.declared.policy.Pred.{Pred}
use Rattle.merlin_model.specs.Networks.{Network, AreDifferent}
use Rattle.merlin_model.specs.Predicates.{IsPred}
use Rattle.policy_expansion.specs.declared.policy.Policy.{Policy}
use Rattle.policy_expansion.specs.Faults.{count_of_default}
use Rattle.policy_expansion.specs.Kept.{IsExpanded, IsWellFormed}
use Rattle.policy_check.specs.Numbered.{numbered_policy}
use Rattle.refinement_model.specs.Refinement.{Refines}
use Rattle.refinement_model.specs.Localised.{localised_form}
use Rattle.refinement_model.specs.Delegation.{DelegationNode, HasNoSlash, default_id}
use Rattle.delegation_text.specs.declared.limits.TheConstants.{MAX_TREE_NODES}
use Rattle.delegation.specs.declared.node.Node.{Node}
use Rattle.delegation.specs.NamedJoins.{named_join}

-- a node may stand in a tree: no name or id has a slash, no id is `default`, and values are in their ranges
pub record IsTreeNode (node : Node) : Type 0 where
  pub name : HasNoSlash node.name
  pub ids : AllByRecursion (λ s. HasNoSlash s.id × (s.id ≢ default_id)) node.policy.statements
  pub expanded : IsExpanded node.policy
  pub formed : IsWellFormed node.policy
  pub scope : IsPred node.scope

-- The node at a place: the first is under no other, and each other is under an earlier one.
pub record HasParent (k : ℕ) (node : Node) : Type 0 where
  pub parent : ℕ
  pub is_parent : node.parent ≡ Some parent
  pub earlier : parent < k

-- One node at least, each but the first under an earlier one, with names that differ.
pub record IsNamedTree (nodes : List Node) : Type 0 where
  pub some : 0 < length nodes
  pub few : length nodes ≤ MAX_TREE_NODES
  pub root : (node : Node) → slice_get nodes 0 ≡ Some node → node.parent ≡ None
  pub parents : (k : ℕ) (node : Node) → slice_get nodes (suc k) ≡ Some node → HasParent (suc k) node
  pub names : AreDifferent (map (λ n. n.name) nodes)
  pub each : AllByRecursion IsTreeNode nodes

abbrev pub has_parent : ℕ → Node → Bool
has_parent k node = option_map_or (λ parent. parent == k) node.parent false

-- the children of node k in their order, each with what a list with one element for each node has for it
abbrev pub children_with : {P : Type 0} → List Node → List P → ℕ → List (Node × P)
children_with nodes policies k = filter (λ child. has_parent k child.0) (zip nodes policies)

abbrev pub own_policies : List Node → List Policy
own_policies nodes = map (λ n. n.policy) nodes

-- the scopes of the children of node k
abbrev pub scopes_under : List Node → ℕ → List Pred
scopes_under nodes k = map (λ n. n.scope) (filter (has_parent k) nodes)

-- the numbers of the children of node k
abbrev pub numbers_under : List Node → ℕ → List ℕ
numbers_under nodes k = map (λ n. n.0) (filter (λ n. has_parent k n.1) (enumerate_from 0 nodes))

-- the composition of a node, from those of its children: a leaf's own policy, or else the join
abbrev pub composed_with : Policy → List (Node × Policy) → Policy
composed_with policy [] = policy
composed_with policy (child ∷ children) = named_join policy (child ∷ children)

-- these are the compositions of the nodes, one for each
pub record AreNamedCompositions (nodes : List Node) (compositions : List Policy) : Type 0 where
  pub as_many : length compositions ≡ length nodes
  pub each : (k : ℕ) (node : Node) → slice_get nodes k ≡ Some node →
      slice_get compositions k ≡ Some (composed_with node.policy (children_with nodes compositions k))

-- the nodes' own policies, and from node k on their compositions
abbrev pub composed_from : List Node → List Policy → ℕ → List Policy
composed_from nodes compositions k = take k (own_policies nodes) ++ drop k compositions

-- this is the composition of node k
pub record IsCompositionOf (nodes : List Node) (k : ℕ) (composition : Policy) : Type 0 where
  pub all : List Policy
  pub are : AreNamedCompositions nodes all
  pub stands : slice_get all k ≡ Some composition

-- how many statements a policy has, with its default
abbrev pub statement_count : Policy → ℕ
statement_count policy = length policy.statements + count_of_default policy.default_path

-- the join of a node with its children's own policies: what lies below them isn't looked at
abbrev pub own_join : List Node → ℕ → Node → Policy
own_join nodes k node = named_join node.policy (children_with nodes (own_policies nodes) k)

module _ (net : Network) (nodes : List Node) where
  -- the join with these policies for the children refines what the node was handed itself, in localised form
  abbrev pub IsAcceptedUnder : List Policy → ℕ → Node → Type 0
  IsAcceptedUnder policies k node =
      Refines net (localised_form (numbered_policy net node.policy)) (numbered_policy net (named_join node.policy (children_with nodes policies k)))

  -- every node is accepted, with the compositions of its children
  abbrev pub IsEachAccepted : Type 0
  IsEachAccepted =
      (compositions : List Policy) → AreNamedCompositions nodes compositions →
      (k : ℕ) (node : Node) → slice_get nodes k ≡ Some node → IsAcceptedUnder compositions k node

  -- a policy refines what the first node was handed itself, in localised form
  abbrev pub RefinesRoot : Policy → Type 0
  RefinesRoot composition =
      (root : Node) → slice_get nodes 0 ≡ Some root →
      Refines net (localised_form (numbered_policy net root.policy)) (numbered_policy net composition)

-- the same node over the numbers of a network
abbrev pub numbered_node : Network → Node → DelegationNode
numbered_node net node = record {
  name = node.name;
  parent = node.parent;
  scope = node.scope;
  policy = numbered_policy net node.policy;
}
