-- What is asked of a node by itself, and what is answered: whether the join with its children's own policies refines its own in localised form.
use Rattle.std.specs.Prelude.{ℕ, ◌≡◌, ◌≢◌, ◌+◌, ⊤, List, Option, None, Some}
use Rattle.merlin_model.specs.declared.policy.Symbol.{Symbol}
use Rattle.merlin_model.specs.Networks.{Network}
use Rattle.merlin_model.specs.Policies.{Policy as NumberedPolicy}
use Rattle.predicate_split.specs.declared.fault.TheConstants.{MAX_CELLS}
use Rattle.policy_check.specs.Checked.{CheckedPolicy, HasAutomata}
use Rattle.policy_check.specs.Numbered.{numbered_policy}
use Rattle.policy_check.specs.Rules.{KeepsAllRules}
use Rattle.refinement_model.specs.Localised.{localised_form}
use Rattle.negotiator.specs.declared.fault.RefineFault.TheVariants as refine
use Rattle.negotiator.specs.CellCounts.{HasFewCellsTogether}
use Rattle.negotiator.specs.Refusals.{IsRefinement, RefusesRules}
use Rattle.delegation.specs.declared.fault.DelegationFault.{DelegationFault}
use Rattle.delegation.specs.declared.fault.DelegationFault.TheVariants.{Cells, OutOfMemory}
use Rattle.delegation.specs.declared.judging.NodeRefusal.{NodeRefusal}
use Rattle.delegation.specs.declared.node.Node.{Node}
use Rattle.delegation.specs.declared.rating.RatedPolicy.{RatedPolicy}
use Rattle.delegation.specs.Asking.{IsSoBefore}
use Rattle.delegation.specs.NamedJoins.{rated_policy}
use Rattle.delegation.specs.NamedTrees.{IsTreeNode}
use Rattle.delegation.specs.TreeRules.{IsFirstNot, HasFewCellsAt, IsLocallyAcceptedAt, IsRefusedAt}

-- the localised form of a node's own policy, over the numbers of the network
abbrev pub numbered_form : Network → Node → NumberedPolicy
numbered_form net node = localised_form (numbered_policy net node.policy)

module _ (net : Network) (symbols : List Symbol) where
  -- a node whose own policy keeps all rules, with its rates
  pub record IsRatedNode (node : Node) (own : RatedPolicy) : Type 0 where
    pub is_node : IsTreeNode node
    pub keeps : KeepsAllRules net symbols node.policy
    pub rated : own ≡ rated_policy node.policy

  -- the check of its localised form
  pub record IsFormOf (node : Node) (form : CheckedPolicy) : Type 0 where
    pub policy : form.policy ≡ numbered_form net node
    pub automata : HasAutomata symbols form

  -- The join of node k is this policy. It refines the node's form, or breaks a rule; in both cases their predicates have few cells.
  abbrev pub IsAnswerFor : ℕ → Node → NumberedPolicy → Option NodeRefusal → Type 0
  IsAnswerFor k node join None = IsRefinement net (numbered_form net node) join
  IsAnswerFor k node join (Some refusal) =
      (refusal.node ≡ k) × HasFewCellsTogether net (numbered_form net node) join
      × (refusal.fault ≢ refine.OutOfMemory) × RefusesRules net (numbered_form net node) join symbols refusal.fault

  -- The nodes before place k were asked: each has few cells, and this is the first rule that is broken, if one is.
  pub record AreAsked (nodes : List Node) (k : ℕ) (first : Option NodeRefusal) : Type 0 where
    pub cells : IsSoBefore nodes (HasFewCellsAt net symbols nodes) k
    pub accepted : first ≡ None → IsSoBefore nodes (IsLocallyAcceptedAt net symbols nodes) k
    pub refused : (refusal : NodeRefusal) → first ≡ Some refusal →
        IsFirstNot nodes (IsLocallyAcceptedAt net symbols nodes) (IsRefusedAt net symbols nodes refusal.fault) refusal.node

-- their predicates have too many cells
abbrev pub RefusesManyCells : Network → ℕ → Node → NumberedPolicy → DelegationFault → Type 0
RefusesManyCells net k node join (Cells place count) =
    (place ≡ k) × (¬ HasFewCellsTogether net (numbered_form net node) join) × (count ≡ MAX_CELLS + 1)
RefusesManyCells net k node join OutOfMemory = ⊤
RefusesManyCells net k node join _ = ⊥
