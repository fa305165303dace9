-- Which nodes the entries of a tree stand for, with the texts of their policies, and the first that is not read.
use Rattle.std.specs.Prelude.{ℕ, ◌≡◌, ◌≢◌, ⊤, List, length, map, take, Some, MatchOption, slice_get}
use Rattle.std.specs.List.{AllZip, zip}
use Rattle.std.specs.declared.vec.Vec.{Vec}
use Rattle.std.specs.declared.alloc.Global.{Global}
use Rattle.merlin_model.specs.declared.policy.Pred.{Pred, Yes}
use Rattle.policy_parser.specs.declared.fault.PolicyFault.{PolicyFault}
use Rattle.policy_parser.specs.declared.fault.PolicyFault.TheVariants as faults
use Rattle.policy_parser.specs.Policies.{IsPolicyText, IsRefused}
use Rattle.policy_parser.specs.PredicateTexts.{IsPredicateText, IsRefusedPredicate}
use Rattle.delegation.specs.declared.node.Node.{Node}
use Rattle.delegation_text.specs.declared.entry.TreeEntry.{TreeEntry}
use Rattle.delegation_text.specs.Trees.{IsDelegationText}
use Rattle.delegation_verdict.specs.declared.nodes.NodeFault.{NodeFault}
use Rattle.delegation_verdict.specs.declared.nodes.NodeFault.TheVariants.{Scope, Policy, OutOfMemory}

abbrev pub policy_texts : List (Vec ℕ Global) → List (List ℕ)
policy_texts contents = map (λ text. text.items) contents

-- The scope of an entry is what its text stands for. The entry that is under no other has all packets.
abbrev pub IsScopeOf : TreeEntry → Pred → Type 0
IsScopeOf entry scope = MatchOption entry.parent (scope ≡ Yes) (λ _. IsPredicateText entry.scope scope)

-- why an entry has no scope
abbrev pub HasNoScope : TreeEntry → PolicyFault → Type 0
HasNoScope entry fault = MatchOption entry.parent ⊥ (λ _. IsRefusedPredicate fault entry.scope)

-- an entry and the text of its policy stand for the node
pub record IsNodeOf (of : TreeEntry × List ℕ) (node : Node) : Type 0 where
  pub name : node.name ≡ of.0.name
  pub parent : node.parent ≡ of.0.parent
  pub scope : IsScopeOf of.0 node.scope
  pub policy : IsPolicyText of.1 node.policy

-- Why they stand for none: the scope is asked before the policy. Want of memory is no cause.

pub record HasScopeFault (of : TreeEntry × List ℕ) (fault : PolicyFault) : Type 0 where
  pub known : fault ≢ faults.OutOfMemory
  pub refused : HasNoScope of.0 fault

pub record HasPolicyFault (of : TreeEntry × List ℕ) (fault : PolicyFault) : Type 0 where
  pub scope : Pred
  pub is_scope : IsScopeOf of.0 scope
  pub known : fault ≢ faults.OutOfMemory
  pub refused : IsRefused fault of.1

abbrev pub IsNodeFault : TreeEntry × List ℕ → NodeFault → Type 0
IsNodeFault of (Scope node fault) = (node ≡ of.0.name) × HasScopeFault of fault
IsNodeFault of (Policy node fault) = (node ≡ of.0.name) × HasPolicyFault of fault
IsNodeFault of OutOfMemory = ⊤

-- The first of the entries that stands for no node has this name, and this is so of it.
pub record IsFirstUnread (pairs : List (TreeEntry × List ℕ)) (name : List ℕ)
    (IsNot : TreeEntry × List ℕ → Type 0) : Type 0 where
  pub place : ℕ
  pub of : TreeEntry × List ℕ
  pub stands : slice_get pairs place ≡ Some of
  pub named : name ≡ of.0.name
  pub earlier : List Node
  pub before : AllZip IsNodeOf (take place pairs) earlier
  pub is_not : IsNot of

abbrev pub IsFirstNodeFault : List (TreeEntry × List ℕ) → NodeFault → Type 0
IsFirstNodeFault pairs (Scope node fault) = IsFirstUnread pairs node (λ of. HasScopeFault of fault)
IsFirstNodeFault pairs (Policy node fault) = IsFirstUnread pairs node (λ of. HasPolicyFault of fault)
IsFirstNodeFault pairs OutOfMemory = ⊤

-- The text of a tree has one entry for each of these texts of policies, and this is so of them.
pub record HasTreeEntries (tree : List ℕ) (texts : List (List ℕ))
    (Holds : List (TreeEntry × List ℕ) → Type 0) : Type 0 where
  pub entries : List TreeEntry
  pub read : IsDelegationText tree entries
  pub as_many : length texts ≡ length entries
  pub holds : Holds (zip entries texts)

-- the text of a tree and the texts of its policies stand for these nodes
abbrev pub AreTreeNodes : List ℕ → List (List ℕ) → List Node → Type 0
AreTreeNodes tree texts nodes = HasTreeEntries tree texts (λ pairs. AllZip IsNodeOf pairs nodes)
