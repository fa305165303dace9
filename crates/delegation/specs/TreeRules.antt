-- What is asked of a delegation tree, one question over all nodes before the next, and which is answered no first.
use Rattle.std.specs.Prelude.{ℕ, ◌≡◌, ◌≢◌, ◌≤◌, ◌<◌, ◌+◌, ⊤, List, Some, slice_get}
use Rattle.merlin_model.specs.declared.policy.Symbol.{Symbol}
use Rattle.merlin_model.specs.Networks.{Network}
use Rattle.merlin_model.specs.Policies.{Policy as NumberedPolicy}
use Rattle.predicate_split.specs.declared.fault.TheConstants.{MAX_CLASSES, MAX_CELLS}
use Rattle.predicate_split.specs.declared.fault.SplitFault.TheVariants as split
use Rattle.predicate_split.specs.Refusals.{classes_in, RefusesClasses}
use Rattle.policy_expansion.specs.declared.limits.TheConstants.{MAX_STATEMENTS}
use Rattle.policy_expansion.specs.declared.policy.Policy.{Policy}
use Rattle.policy_check.specs.declared.fault.CheckFault.{CheckFault}
use Rattle.policy_check.specs.declared.fault.CheckFault.TheVariants as check
use Rattle.policy_check.specs.Checked.{IsSoundPolicy}
use Rattle.policy_check.specs.Numbered.{numbered_policy}
use Rattle.policy_check.specs.Rules.{KeepsAllRules, BreaksRule}
use Rattle.refinement_model.specs.Localised.{localised_form}
use Rattle.negotiator.specs.declared.fault.RefineFault.{RefineFault}
use Rattle.negotiator.specs.declared.fault.RefineFault.TheVariants as refine
use Rattle.negotiator.specs.CellCounts.{HasFewCellsTogether}
use Rattle.negotiator.specs.Refusals.{RefusesRules}
use Rattle.delegation.specs.declared.node.Node.{Node}
use Rattle.delegation.specs.declared.fault.DelegationFault.{DelegationFault}
use Rattle.delegation.specs.declared.fault.DelegationFault.TheVariants.{Own, Classes, ScopeOverlap, TooManyStatements, Joined, Cells, NotAccepted, OutOfMemory}
use Rattle.delegation.specs.NamedTrees.{IsCompositionOf, scopes_under, statement_count, own_policies, own_join, IsAcceptedUnder}
use Rattle.delegation.specs.SharedScopes.{HasApartScopes, IsLeastShared}

-- the policy is refused, and not for want of memory
abbrev pub BreaksOnCheck : Network → List Symbol → Policy → CheckFault → Type 0
BreaksOnCheck net symbols policy fault = (fault ≢ check.OutOfMemory) × BreaksRule net symbols policy fault

module _ (nodes : List Node) where
  -- the answer to a question is yes at each node
  abbrev pub IsSoAtEach : (ℕ → Node → Type 0) → Type 0
  IsSoAtEach IsSo = (k : ℕ) (node : Node) → slice_get nodes k ≡ Some node → IsSo k node

  -- at node k it is no, and at each node before it yes
  pub record IsFirstNot (IsSo IsNot : ℕ → Node → Type 0) (k : ℕ) : Type 0 where
    pub node : Node
    pub has : slice_get nodes k ≡ Some node
    pub is_not : IsNot k node
    pub before : (i : ℕ) (earlier : Node) → i < k → slice_get nodes i ≡ Some earlier → IsSo i earlier

  abbrev pub HasFewScopeClasses : ℕ → Node → Type 0
  HasFewScopeClasses k node = classes_in (scopes_under nodes k) ≤ MAX_CLASSES

  abbrev pub HasSmallComposition : ℕ → Node → Type 0
  HasSmallComposition k node = (composition : Policy) → IsCompositionOf nodes k composition → statement_count composition ≤ MAX_STATEMENTS

  -- a composition with more statements than a policy may have
  pub record HasLargeComposition (k : ℕ) (node : Node) : Type 0 where
    pub composition : Policy
    pub is_composition : IsCompositionOf nodes k composition
    pub large : MAX_STATEMENTS < statement_count composition

module _ (net : Network) (symbols : List Symbol) (nodes : List Node) where
  abbrev pub KeepsOwnRules : ℕ → Node → Type 0
  KeepsOwnRules k node = KeepsAllRules net symbols node.policy

  abbrev pub KeepsJoinedRules : ℕ → Node → Type 0
  KeepsJoinedRules k node = KeepsAllRules net symbols (own_join nodes k node)

  -- what a node was handed, in localised form, and what it does with its children's own policies
  abbrev pub handed_form : Node → NumberedPolicy
  handed_form node = localised_form (numbered_policy net node.policy)

  abbrev pub numbered_join : ℕ → Node → NumberedPolicy
  numbered_join k node = numbered_policy net (own_join nodes k node)

  abbrev pub HasFewCellsAt : ℕ → Node → Type 0
  HasFewCellsAt k node = HasFewCellsTogether net (handed_form node) (numbered_join k node)

  abbrev pub IsLocallyAcceptedAt : ℕ → Node → Type 0
  IsLocallyAcceptedAt k node = IsAcceptedUnder net nodes (own_policies nodes) k node

  -- the rules that the node's join breaks
  abbrev pub IsRefusedAt : RefineFault → ℕ → Node → Type 0
  IsRefusedAt fault k node = (fault ≢ refine.OutOfMemory) × RefusesRules net (handed_form node) (numbered_join k node) symbols fault

  -- What is so of a tree once the questions up to here are answered yes.

  pub record HasSoundScopes : Type 0 where
    pub own : IsSoAtEach nodes KeepsOwnRules
    pub classes : IsSoAtEach nodes (HasFewScopeClasses nodes)

  pub record HasSoundParts : Type 0 where
    pub scopes : HasSoundScopes
    pub apart : HasApartScopes nodes

  pub record HasSoundSizes : Type 0 where
    pub parts : HasSoundParts
    pub few : IsSoAtEach nodes (HasSmallComposition nodes)

  pub record HasSoundJoins : Type 0 where
    pub sizes : HasSoundSizes
    pub joined : IsSoAtEach nodes KeepsJoinedRules

  pub record HasFewCells : Type 0 where
    pub joins : HasSoundJoins
    pub cells : IsSoAtEach nodes HasFewCellsAt

  pub record IsAcceptedTree : Type 0 where
    pub few : HasFewCells
    pub accepted : IsSoAtEach nodes IsLocallyAcceptedAt

  -- The refusal names the first node at which the first question is answered no. Counts are one past their limits. Want of memory has no cause.
  abbrev pub BreaksTree : DelegationFault → Type 0
  BreaksTree (Own node fault) = IsFirstNot nodes KeepsOwnRules (λ k n. BreaksOnCheck net symbols n.policy fault) node
  BreaksTree (Classes node count) =
      IsSoAtEach nodes KeepsOwnRules
      × IsFirstNot nodes (HasFewScopeClasses nodes) (λ k n. RefusesClasses (scopes_under nodes k) (split.TooManyClasses count)) node
  BreaksTree (ScopeOverlap first second packet) = HasSoundScopes × IsLeastShared nodes first second packet
  BreaksTree (TooManyStatements node count) =
      HasSoundParts × IsFirstNot nodes (HasSmallComposition nodes) (HasLargeComposition nodes) node × (count ≡ MAX_STATEMENTS + 1)
  BreaksTree (Joined node fault) =
      HasSoundSizes × IsFirstNot nodes KeepsJoinedRules (λ k n. BreaksOnCheck net symbols (own_join nodes k n) fault) node
  BreaksTree (Cells node count) =
      HasSoundJoins × IsFirstNot nodes HasFewCellsAt (λ k n. ¬ HasFewCellsAt k n) node × (count ≡ MAX_CELLS + 1)
  BreaksTree (NotAccepted node fault) = HasFewCells × IsFirstNot nodes IsLocallyAcceptedAt (IsRefusedAt fault) node
  BreaksTree OutOfMemory = ⊤

-- Each node's own policy keeps to what is so of policies that were checked, no siblings share a packet, and each node is accepted by itself.
pub record IsEachLocallyAccepted (net : Network) (nodes : List Node) : Type 0 where
  pub sound : IsSoAtEach nodes (λ k n. IsSoundPolicy (numbered_policy net n.policy))
  pub apart : HasApartScopes nodes
  pub local : IsSoAtEach nodes (IsAcceptedUnder net nodes (own_policies nodes))
