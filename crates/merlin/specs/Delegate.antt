-- The command `delegate`.
use Rattle.std.specs.Prelude.{◌≡◌, ◌⊎◌, ◌++◌, ℕ, List, [], ◌∷◌, map, length, codes}
use Rattle.std.specs.String.{string_bytes}
use Rattle.merlin_base.specs.Outside.{KnownContents}
use Rattle.config_text.specs.Words.{line}
use Rattle.delegation_text.specs.declared.entry.TreeEntry.{TreeEntry}
use Rattle.delegation_text.specs.Trees.{IsDelegationText}
use Rattle.delegation_verdict.specs.declared.reply.DelegateReply.{DelegateReply}
use Rattle.delegation_verdict.specs.Lines.{delegate_text}
use Rattle.delegation_verdict.specs.Verdict.{Delegates}
use Rattle.merlin.specs.Reading.{AreContents}
use Rattle.merlin.specs.declared.reading.TheConstants.{TEXT_LIMIT}
use Rattle.merlin.specs.declared.delegate.Delegate.{Delegate}

-- Its words and its files.

pub record DelegateForm : Type 0 where
  pub tree : List ℕ
  pub topology : List ℕ

abbrev pub delegate_form : Delegate → DelegateForm
delegate_form words = record { tree = words.tree.now; topology = words.topology.now }

abbrev pub IsDelegateForm : List (List ℕ) → DelegateForm → Type 0
IsDelegateForm words form = words ≡ codes "delegate" ∷ form.tree ∷ form.topology ∷ []

-- the files that the words name
abbrev pub delegate_files : DelegateForm → List (List ℕ × ℕ)
delegate_files form = (form.tree, TEXT_LIMIT) ∷ (form.topology, TEXT_LIMIT) ∷ []

-- the files of the policies of nodes, in the order of these
abbrev pub policy_files : List TreeEntry → List (List ℕ × ℕ)
policy_files entries = map (λ entry. (string_bytes entry.policy, TEXT_LIMIT)) entries

-- a tree names the policies of its nodes, and a text that is no tree names none
abbrev pub TreeNames : List ℕ → List (List ℕ × ℕ) → Type 0
TreeNames tree more =
    ((entries : List TreeEntry) × IsDelegationText tree entries × (more ≡ policy_files entries))
    ⊎ (((entries : List TreeEntry) → ¬ IsDelegationText tree entries) × (more ≡ []))

-- the further files are those that the tree names
abbrev pub NamesPolicies : List (List ℕ) → List (List ℕ × ℕ) → Type 0
NamesPolicies contents more = (tree topology : List ℕ)
    × (contents ≡ tree ∷ topology ∷ []) × TreeNames tree more

-- How the policies are read.

-- these are the contents of the policies that the tree names
pub record ArePoliciesOf (known : KnownContents) (tree : List ℕ) (policies : List (List ℕ))
    : Type 0 where
  pub more : List (List ℕ × ℕ)
  pub named : TreeNames tree more
  pub are_contents : AreContents known more policies

-- the contents of the policies that the contents name were added to these
pub record HasAdded (known : KnownContents) (contents all : List (List ℕ)) : Type 0 where
  pub more : List (List ℕ × ℕ)
  pub policies : List (List ℕ)
  pub named : NamesPolicies contents more
  pub are_contents : AreContents known more policies
  pub whole : all ≡ contents ++ policies

-- a tree, a topology and a policy for each node, where the tree is one
pub record HasTextForEach (contents : List (List ℕ)) : Type 0 where
  pub tree : List ℕ
  pub topology : List ℕ
  pub policies : List (List ℕ)
  pub whole : contents ≡ tree ∷ topology ∷ policies
  pub each : (entries : List TreeEntry) → IsDelegationText tree entries → length policies ≡ length entries

-- What each reply means of the tree, the topology and the policies.

abbrev pub IsDelegateReply : List (List ℕ) → DelegateReply → Type 0
IsDelegateReply contents reply = (tree topology : List ℕ) × (policies : List (List ℕ))
    × (contents ≡ tree ∷ topology ∷ policies) × Delegates tree topology policies reply

-- Its lines.

abbrev pub delegate_lines : DelegateReply → List (List ℕ)
delegate_lines reply = line (delegate_text reply) ∷ []
