-- What each reply means of the texts of a tree, of a topology, and of the policies that the tree names.
use Rattle.std.specs.Prelude.{ℕ, ◌≡◌, ◌≢◌, ◌+◌, List, length, sum_by, Some, slice_get}
use Rattle.merlin_model.specs.Networks.{Network}
use Rattle.merlin_model.specs.Packets.{Packet}
use Rattle.predicate_split.specs.declared.fault.TheConstants.{MAX_CLASSES, MAX_CELLS}
use Rattle.policy_expansion.specs.declared.limits.TheConstants.{MAX_STATEMENTS}
use Rattle.policy_expansion.specs.declared.policy.Policy.{Policy}
use Rattle.topology.specs.Symbols.{network_symbols}
use Rattle.topology_rules.specs.declared.fault.NetFault.{NetFault}
use Rattle.topology_rules.specs.declared.fault.NetFault.TheVariants as net_faults
use Rattle.topology_rules.specs.Faults.{IsTopology, Refuses as IsRefusedTopology}
use Rattle.negotiator.specs.declared.fault.RefineFault.{RefineFault}
use Rattle.refusal_text.specs.Wider.{IsWiderText}
use Rattle.delegation.specs.declared.node.Node.{Node}
use Rattle.delegation.specs.declared.fault.DelegationFault.{DelegationFault}
use Rattle.delegation.specs.declared.fault.DelegationFault.TheVariants as tree_faults
use Rattle.delegation.specs.NamedTrees.{IsCompositionOf, IsEachAccepted, RefinesRoot, statement_count}
use Rattle.delegation.specs.TreeRules.{BreaksTree, IsAcceptedTree}
use Rattle.delegation_text.specs.declared.fault.EntryFault.TheVariants as entry_faults
use Rattle.delegation_text.specs.Trees.{RefusesTreeText}
use Rattle.delegation_verdict.specs.declared.reply.DelegateReply.{DelegateReply}
use Rattle.delegation_verdict.specs.declared.reply.DelegateReply.TheVariants.{UnreadTree, UnreadScope, UnreadPolicy, UnreadTopology, WrongPolicy, TooManyClasses, SharedScopes, TooManyStatements, WrongJoin, TooManyCells, Wider, Accepted}
use Rattle.delegation_verdict.specs.Nodes.{AreTreeNodes, HasTreeEntries, HasScopeFault, HasPolicyFault, IsFirstUnread}

-- the node at this place has the name
pub record HasNameAt (nodes : List Node) (place : ℕ) (name : List ℕ) : Type 0 where
  pub node : Node
  pub stands : slice_get nodes place ≡ Some node
  pub is : name ≡ node.name

module _ (net : Network) (nodes : List Node) where
  -- the tree is refused so, at the node of this name
  pub record IsRefusedAtNode (name : List ℕ) (fault_at : ℕ → DelegationFault) : Type 0 where
    pub place : ℕ
    pub named : HasNameAt nodes place name
    pub breaks : BreaksTree net (network_symbols net) nodes (fault_at place)

  -- these nodes are the least pair of siblings whose scopes share a packet, and this is the least packet
  pub record HasSharedScopes (first second : List ℕ) (packet : Packet) : Type 0 where
    pub i : ℕ
    pub j : ℕ
    pub first_named : HasNameAt nodes i first
    pub second_named : HasNameAt nodes j second
    pub breaks : BreaksTree net (network_symbols net) nodes (tree_faults.ScopeOverlap i j packet)

  -- the node of this name is the first that is not accepted, and the rule that fails is called so
  pub record IsWiderNode (name text : List ℕ) : Type 0 where
    pub fault : RefineFault
    pub refused : IsRefusedAtNode name (λ place. tree_faults.NotAccepted place fault)
    pub told : IsWiderText net fault text

  -- Each node is accepted by itself. So each is accepted with all that lies below it, and the composition of the first, which has these
  -- statements with its default, refines what the first was handed.
  pub record IsWholeTree (count statements : ℕ) : Type 0 where
    pub count_is : count ≡ length nodes
    pub statements_are : statements ≡ sum_by (λ n. statement_count n.policy) nodes
    pub local : IsAcceptedTree net (network_symbols net) nodes
    pub accepted : IsEachAccepted net nodes
    pub size : (composition : Policy) → IsCompositionOf nodes 0 composition → statement_count composition ≡ statements
    pub refines : (composition : Policy) → IsCompositionOf nodes 0 composition → RefinesRoot net nodes composition

  -- What a reply to a tree over a network means. The others are replies to texts that are not read.
  abbrev pub IsJudged : DelegateReply → Type 0
  IsJudged (WrongPolicy name fault) = IsRefusedAtNode name (λ place. tree_faults.Own place fault)
  IsJudged (TooManyClasses name) = IsRefusedAtNode name (λ place. tree_faults.Classes place (MAX_CLASSES + 1))
  IsJudged (SharedScopes first second packet) = HasSharedScopes first second packet
  IsJudged (TooManyStatements name) = IsRefusedAtNode name (λ place. tree_faults.TooManyStatements place (MAX_STATEMENTS + 1))
  IsJudged (WrongJoin name fault) = IsRefusedAtNode name (λ place. tree_faults.Joined place fault)
  IsJudged (TooManyCells name) = IsRefusedAtNode name (λ place. tree_faults.Cells place (MAX_CELLS + 1))
  IsJudged (Wider name text) = IsWiderNode name text
  IsJudged (Accepted count statements) = IsWholeTree count statements
  IsJudged (UnreadTree fault) = ⊥
  IsJudged (UnreadScope name fault) = ⊥
  IsJudged (UnreadPolicy name fault) = ⊥
  IsJudged (UnreadTopology fault) = ⊥

-- what the texts stand for
pub record StandForTree (tree topology : List ℕ) (texts : List (List ℕ)) (net : Network) (nodes : List Node) : Type 0 where
  pub nodes_are : AreTreeNodes tree texts nodes
  pub network : IsTopology topology net

-- the texts stand for a tree over a network, and this is so of it
pub record HasJudgedTree (tree topology : List ℕ) (texts : List (List ℕ)) (Holds : Network → List Node → Type 0) : Type 0 where
  pub net : Network
  pub nodes : List Node
  pub stand : StandForTree tree topology texts net nodes
  pub holds : Holds net nodes

-- The texts of the tree and of the policies are read, and that of the topology is not. Want of memory is no cause here.
pub record HasTreeAlone (tree topology : List ℕ) (texts : List (List ℕ)) (fault : NetFault) : Type 0 where
  pub nodes : List Node
  pub nodes_are : AreTreeNodes tree texts nodes
  pub known : fault ≢ net_faults.OutOfMemory
  pub refused : IsRefusedTopology fault topology

-- The text of the tree is read first; then, node by node, the scope and the policy; then the topology. Then the tree is asked.
abbrev pub Delegates : List ℕ → List ℕ → List (List ℕ) → DelegateReply → Type 0
Delegates tree topology texts (UnreadTree fault) = (fault ≢ entry_faults.OutOfMemory) × RefusesTreeText tree fault
Delegates tree topology texts (UnreadScope name fault) =
    HasTreeEntries tree texts (λ pairs. IsFirstUnread pairs name (λ of. HasScopeFault of fault))
Delegates tree topology texts (UnreadPolicy name fault) =
    HasTreeEntries tree texts (λ pairs. IsFirstUnread pairs name (λ of. HasPolicyFault of fault))
Delegates tree topology texts (UnreadTopology fault) = HasTreeAlone tree topology texts fault
Delegates tree topology texts reply = HasJudgedTree tree topology texts (λ net nodes. IsJudged net nodes reply)
