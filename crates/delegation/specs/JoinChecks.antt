-- The joins of the nodes of a tree with their children's own policies, as they are checked over a network.
use Rattle.std.specs.Prelude.{ℕ, ◌≡◌, ⊤, List, length, Some, slice_get}
use Rattle.merlin_model.specs.declared.policy.Symbol.{Symbol}
use Rattle.merlin_model.specs.Networks.{Network}
use Rattle.policy_check.specs.Checked.{CheckedPolicy, IsCheckOf}
use Rattle.delegation.specs.declared.node.Node.{Node}
use Rattle.delegation.specs.declared.fault.DelegationFault.{DelegationFault}
use Rattle.delegation.specs.declared.fault.DelegationFault.TheVariants.{Joined, OutOfMemory}
use Rattle.delegation.specs.NamedTrees.{own_join}
use Rattle.delegation.specs.TreeRules.{BreaksOnCheck}

module _ (net : Network) (symbols : List Symbol) (nodes : List Node) where
  -- the checks of the joins of the first nodes, so many
  pub record AreJoinChecks (count : ℕ) (joins : List CheckedPolicy) : Type 0 where
    pub as_many : length joins ≡ count
    pub each : (k : ℕ) (node : Node) (checked : CheckedPolicy) → slice_get nodes k ≡ Some node → slice_get joins k ≡ Some checked →
        IsCheckOf net symbols (own_join nodes k node) checked

  -- the join of this node does not fit the network
  abbrev pub RefusesJoin : ℕ → Node → DelegationFault → Type 0
  RefusesJoin k node (Joined place fault) = (place ≡ k) × BreaksOnCheck net symbols (own_join nodes k node) fault
  RefusesJoin k node OutOfMemory = ⊤
  RefusesJoin k node _ = ⊥
