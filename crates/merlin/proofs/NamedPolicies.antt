-- Which files a tree names.
use Rattle.std.proofs.Common.{◌≡◌, ℕ, List, [], ◌∷◌, length, inl, inr, refl, sym, ◌∙◌, ap, subst}
use Rattle.std.specs.String.{string_bytes}
use Rattle.std.proofs.lemmas.List.{length-map}
use Rattle.delegation_text.specs.declared.entry.TreeEntry.{TreeEntry}
use Rattle.delegation_text.specs.Trees.{IsDelegationText, AreSameEntries}
use Rattle.delegation_text.proofs.OneTree.{entries-one}
use Rattle.merlin.specs.Delegate.{policy_files, TreeNames, NamesPolicies}
use Rattle.merlin.specs.declared.reading.TheConstants.{TEXT_LIMIT}

files_same : (xs ys : List TreeEntry) → AreSameEntries xs ys → policy_files xs ≡ policy_files ys
files_same [] [] same = refl
files_same [] (y ∷ ys) same = absurd same
files_same (x ∷ xs) [] same = absurd same
files_same (x ∷ xs) (y ∷ ys) same = λ i. (same.0.policy i, TEXT_LIMIT) ∷ files_same xs ys same.1 i

-- a text names one list of policies
policies_same : (tree : List ℕ) (entries other : List TreeEntry) → IsDelegationText tree entries → IsDelegationText tree other
    → policy_files entries ≡ policy_files other
policies_same tree entries other is is' = files_same entries other (entries-one tree entries other is is')

-- and so it has one number of nodes
pub as_many_nodes : (tree : List ℕ) (entries other : List TreeEntry) → IsDelegationText tree entries → IsDelegationText tree other
    → length entries ≡ length other
as_many_nodes tree entries other is is' =
    let file : TreeEntry → List ℕ × ℕ = λ (entry : TreeEntry). (string_bytes entry.policy, TEXT_LIMIT) in
    sym (length-map entries file) ∙ ap length (policies_same tree entries other is is') ∙ length-map other file

TreeNames-same : (tree : List ℕ) (more other : List (List ℕ × ℕ)) → TreeNames tree more → TreeNames tree other → more ≡ other
TreeNames-same tree more other (inl (entries, is, e)) (inl (entries', is', e')) = e ∙ policies_same tree entries entries' is is' ∙ sym e'
TreeNames-same tree more other (inl (entries, is, e)) (inr (none, e')) = absurd (none entries is)
TreeNames-same tree more other (inr (none, e)) (inl (entries, is, e')) = absurd (none entries is)
TreeNames-same tree more other (inr (none, e)) (inr (none', e')) = e ∙ sym e'

pub NamesPolicies-same : (contents : List (List ℕ)) (more other : List (List ℕ × ℕ)) → NamesPolicies contents more
    → NamesPolicies contents other → more ≡ other
NamesPolicies-same contents more other (tree, topology, two, names) (tree', topology', two', names') =
    let same : tree' ≡ tree = cc in
    TreeNames-same tree more other names (subst (λ t. TreeNames t other) same names')
