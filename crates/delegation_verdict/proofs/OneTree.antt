-- Texts stand for one tree over one network, or are refused, so that replies to the same texts have one status.
use Rattle.std.proofs.Common.{ℕ, zero, suc, ◌≡◌, ◌≢◌, inl, inr, List, [], ◌∷◌, length, sum_by, Option, None, Some, Ok, Err, slice_get, refl, sym, ◌∙◌, ap₂, subst}
use Rattle.std.specs.Prelude.{MatchOption}
use Rattle.std.specs.List.{AllZip, zip}
use Rattle.merlin_base.specs.declared.status.Status.TheVariants.{Refused, RefineNo}
use Rattle.merlin_model.specs.declared.policy.Pred.{Pred, Yes}
use Rattle.merlin_model.specs.Networks.{Network}
use Rattle.policy_parser.specs.declared.fault.PolicyFault.{PolicyFault}
use Rattle.policy_parser.specs.declared.fault.PolicyFault.TheVariants as faults
use Rattle.policy_parser.specs.Policies.{AreOneReading}
use Rattle.policy_parser.specs.PredicateTexts.{IsPredicateText, IsRefusedPredicate}
use Rattle.policy_parser.proofs.Once.{one_reading as one_policy}
use Rattle.policy_parser.proofs.PredicateOnce.{one_reading as one_scope}
use Rattle.topology.specs.Symbols.{network_symbols}
use Rattle.topology_rules.specs.declared.fault.NetFault.{NetFault}
use Rattle.topology_rules.specs.declared.fault.NetFault.TheVariants as net_faults
use Rattle.topology_rules.specs.Faults.{IsTopology, Refuses as IsRefusedTopology}
use Rattle.delegation.specs.declared.node.Node.{Node}
use Rattle.delegation.specs.NamedTrees.{statement_count}
use Rattle.delegation.specs.TreeRules.{HasFewCells, IsAcceptedTree, IsSoAtEach, IsLocallyAcceptedAt}
use Rattle.delegation_text.specs.declared.entry.TreeEntry.{TreeEntry}
use Rattle.delegation_text.specs.declared.fault.EntryFault.{EntryFault}
use Rattle.delegation_text.specs.declared.fault.EntryFault.TheVariants as entry_faults
use Rattle.delegation_text.specs.Trees.{IsDelegationText, RefusesTreeText, IsSameEntry, AreSameEntries}
use Rattle.delegation_verdict.specs.declared.reply.DelegateReply.{DelegateReply}
use Rattle.delegation_verdict.specs.declared.reply.DelegateReply.TheVariants.{UnreadTree, UnreadScope, UnreadPolicy, UnreadTopology, WrongPolicy, TooManyClasses, SharedScopes, TooManyStatements, WrongJoin, TooManyCells, Wider, Accepted}
use Rattle.delegation_verdict.specs.Lines.{delegate_status}
use Rattle.delegation_verdict.specs.Nodes.{IsScopeOf, HasNoScope, IsNodeOf, HasScopeFault, HasPolicyFault, IsFirstUnread}
use Rattle.delegation_verdict.specs.Verdict.{IsJudged, StandForTree, HasJudgedTree, Delegates}
use Rattle.delegation_verdict.proofs.Judged.{KnownRules, one-status, judged-accepted, judged-wider, judged-refused}

-- What is known of the texts of topologies and of trees, from the laws on them.
pub record KnownTexts : Type 0 where
  pub one_net : (bytes : List ℕ) (net other : Network) → IsTopology bytes net → IsTopology bytes other → net ≡ other
  pub net_apart : (bytes : List ℕ) (net : Network) (cause : NetFault) → IsTopology bytes net → IsRefusedTopology cause bytes → cause ≡ net_faults.OutOfMemory
  pub one_tree : (bytes : List ℕ) (entries other : List TreeEntry) → IsDelegationText bytes entries → IsDelegationText bytes other → AreSameEntries entries other
  pub tree_apart : (bytes : List ℕ) (entries : List TreeEntry) (cause : EntryFault) → IsDelegationText bytes entries → RefusesTreeText bytes cause → cause ≡ entry_faults.OutOfMemory

-- Readings of one text.

same-value : {X : Type 0} (a b : X) → AreOneReading (Ok a) (Ok b) → a ≡ b
same-value a b (inl e) = cc
same-value a b (inr (inl e)) = cc
same-value a b (inr (inr e)) = cc

value-or-fault : {X : Type 0} (a : X) (fault : PolicyFault) → fault ≢ faults.OutOfMemory → AreOneReading (Ok a) (Err fault) → ⊥
value-or-fault a fault known (inl e) = cc
value-or-fault a fault known (inr (inl e)) = let memory : fault ≡ faults.OutOfMemory = cc in known memory
value-or-fault a fault known (inr (inr e)) = cc

scope-one : (entry : TreeEntry) (a b : Pred) → IsScopeOf entry a → IsScopeOf entry b → a ≡ b
scope-one entry a b = by entry.parent
  where
    by : (o : Option ℕ) → MatchOption o (a ≡ Yes) (λ _. IsPredicateText entry.scope a) → MatchOption o (b ≡ Yes) (λ _. IsPredicateText entry.scope b) → a ≡ b
    by None h k = h ∙ sym k
    by (Some place) h k = same-value a b (one_scope entry.scope (Ok a) (Ok b) h k)

scope-apart : (entry : TreeEntry) (scope : Pred) (fault : PolicyFault) → fault ≢ faults.OutOfMemory → IsScopeOf entry scope → HasNoScope entry fault → ⊥
scope-apart entry scope fault known = by entry.parent
  where
    by : (o : Option ℕ) → MatchOption o (scope ≡ Yes) (λ _. IsPredicateText entry.scope scope) → MatchOption o ⊥ (λ _. IsRefusedPredicate fault entry.scope) → ⊥
    by None h k = k
    by (Some place) h k = value-or-fault scope fault known (one_scope entry.scope (Ok scope) (Err fault) h k)

node-one : (of : TreeEntry × List ℕ) (n m : Node) → IsNodeOf of n → IsNodeOf of m → n ≡ m
node-one of n m h k =
    let name : n.name ≡ m.name = h.name ∙ sym k.name in
    let parent : n.parent ≡ m.parent = h.parent ∙ sym k.parent in
    let scope : n.scope ≡ m.scope = scope-one of.0 n.scope m.scope h.scope k.scope in
    let policy : n.policy ≡ m.policy = same-value n.policy m.policy (one_policy of.1 (Ok n.policy) (Ok m.policy) h.policy k.policy) in
    λ i. record { name = name i; parent = parent i; scope = scope i; policy = policy i }

-- the same of another entry that is the same word for word
node-same : (e f : TreeEntry) (t : List ℕ) (n : Node) → IsSameEntry e f → IsNodeOf (e, t) n → IsNodeOf (f, t) n
node-same e f t n same is = record {
  name = is.name ∙ same.name;
  parent = is.parent ∙ same.parent;
  scope = subst (λ o. MatchOption o (n.scope ≡ Yes) (λ _. IsPredicateText f.scope n.scope)) same.parent
      (subst (λ s. MatchOption e.parent (n.scope ≡ Yes) (λ _. IsPredicateText s n.scope)) same.scope is.scope);
  policy = is.policy;
}

nodes-same : (es fs : List TreeEntry) (ts : List (List ℕ)) (ns : List Node) → AreSameEntries es fs → AllZip IsNodeOf (zip es ts) ns → AllZip IsNodeOf (zip fs ts) ns
nodes-same [] [] ts ns same h = h
nodes-same [] (f ∷ fs) ts ns same h = absurd same
nodes-same (e ∷ es) [] ts ns same h = absurd same
nodes-same (e ∷ es) (f ∷ fs) [] ns same h = h
nodes-same (e ∷ es) (f ∷ fs) (t ∷ ts) [] same h = h
nodes-same (e ∷ es) (f ∷ fs) (t ∷ ts) (n ∷ ns) same h = (node-same e f t n same.0 h.0, nodes-same es fs ts ns same.1 h.1)

zip-one : {A B : Type 0} (R : A → B → Type 0) → ((x : A) (y z : B) → R x y → R x z → y ≡ z) → (xs : List A) (ys zs : List B) → AllZip R xs ys → AllZip R xs zs → ys ≡ zs
zip-one R one [] [] [] p q = refl
zip-one R one [] [] (z ∷ zs) p q = absurd q
zip-one R one [] (y ∷ ys) zs p q = absurd p
zip-one R one (x ∷ xs) [] zs p q = absurd p
zip-one R one (x ∷ xs) (y ∷ ys) [] p q = absurd q
zip-one R one (x ∷ xs) (y ∷ ys) (z ∷ zs) p q = ap₂ (λ u us. u ∷ us) (one x y z p.0 q.0) (zip-one R one xs ys zs p.1 q.1)

-- what stands at a place has its partner
partner : {A B : Type 0} (R : A → B → Type 0) (xs : List A) (ys : List B) (k : ℕ) (x : A) → AllZip R xs ys → slice_get xs k ≡ Some x → (y : B) × R x y
partner {A} R [] ys k x all e = absurd (by e)
  where
    by : ◌≡◌ {A = Option A} None (Some x) → ⊥
    by e = cc
partner R (z ∷ xs) [] k x all e = absurd all
partner R (z ∷ xs) (y ∷ ys) zero x all e = let same : z ≡ x = cc in (y, subst (λ a. R a y) same all.0)
partner R (z ∷ xs) (y ∷ ys) (suc k) x all e = partner R xs ys k x all.1 e

not-unread : (pairs : List (TreeEntry × List ℕ)) (nodes : List Node) (name : List ℕ) (IsNot : TreeEntry × List ℕ → Type 0) → AllZip IsNodeOf pairs nodes →
    ((of : TreeEntry × List ℕ) (n : Node) → IsNodeOf of n → IsNot of → ⊥) → IsFirstUnread pairs name IsNot → ⊥
not-unread pairs nodes name IsNot all apart first = let p = partner IsNodeOf pairs nodes first.place first.of all first.stands in apart first.of p.0 p.1 first.is_not

no-scope-fault : (fault : PolicyFault) (of : TreeEntry × List ℕ) (n : Node) → IsNodeOf of n → HasScopeFault of fault → ⊥
no-scope-fault fault of n is h = scope-apart of.0 n.scope fault h.known is.scope h.refused

no-policy-fault : (fault : PolicyFault) (of : TreeEntry × List ℕ) (n : Node) → IsNodeOf of n → HasPolicyFault of fault → ⊥
no-policy-fault fault of n is h = value-or-fault n.policy fault h.known (one_policy of.1 (Ok n.policy) (Err fault) is.policy h.refused)

module _ (known : KnownTexts) (tree topology : List ℕ) (texts : List (List ℕ)) where
  -- Texts that stand for a tree over a network are read, and stand for no other.
  module _ (net : Network) (nodes : List Node) (stand : StandForTree tree topology texts net nodes) where
    -- the nodes are those of the entries, however they are read
    beside : (entries : List TreeEntry) → IsDelegationText tree entries → AllZip IsNodeOf (zip entries texts) nodes
    beside entries read = nodes-same stand.nodes_are.entries entries texts nodes (known.one_tree tree stand.nodes_are.entries entries stand.nodes_are.read read) stand.nodes_are.holds

    no-unread_tree : (fault : EntryFault) → Delegates tree topology texts (UnreadTree fault) → ⊥
    no-unread_tree fault h = h.0 (known.tree_apart tree stand.nodes_are.entries fault stand.nodes_are.read h.1)

    no-unread_scope : (name : List ℕ) (fault : PolicyFault) → Delegates tree topology texts (UnreadScope name fault) → ⊥
    no-unread_scope name fault h =
        not-unread (zip h.entries texts) nodes name (λ of. HasScopeFault of fault) (beside h.entries h.read) (no-scope-fault fault) h.holds

    no-unread_policy : (name : List ℕ) (fault : PolicyFault) → Delegates tree topology texts (UnreadPolicy name fault) → ⊥
    no-unread_policy name fault h =
        not-unread (zip h.entries texts) nodes name (λ of. HasPolicyFault of fault) (beside h.entries h.read) (no-policy-fault fault) h.holds

    no-unread_topology : (fault : NetFault) → Delegates tree topology texts (UnreadTopology fault) → ⊥
    no-unread_topology fault h = h.known (known.net_apart topology net fault stand.network h.refused)

    judged : (Holds : Network → List Node → Type 0) → HasJudgedTree tree topology texts Holds → Holds net nodes
    judged Holds h =
        let same_net : h.net ≡ net = known.one_net topology h.net net h.stand.network stand.network in
        let read = h.stand.nodes_are in
        let same_nodes : h.nodes ≡ nodes = zip-one IsNodeOf node-one (zip read.entries texts) h.nodes nodes read.holds (beside read.entries read.read) in
        subst (λ n. Holds n nodes) same_net (subst (λ ns. Holds h.net ns) same_nodes h.holds)

    pub is-judged : (reply : DelegateReply) → Delegates tree topology texts reply → IsJudged net nodes reply
    is-judged (UnreadTree fault) h = absurd (no-unread_tree fault h)
    is-judged (UnreadScope name fault) h = absurd (no-unread_scope name fault h)
    is-judged (UnreadPolicy name fault) h = absurd (no-unread_policy name fault h)
    is-judged (UnreadTopology fault) h = absurd (no-unread_topology fault h)
    is-judged (WrongPolicy name fault) h = judged (λ n ns. IsJudged n ns (WrongPolicy name fault)) h
    is-judged (TooManyClasses name) h = judged (λ n ns. IsJudged n ns (TooManyClasses name)) h
    is-judged (SharedScopes one other packet) h = judged (λ n ns. IsJudged n ns (SharedScopes one other packet)) h
    is-judged (TooManyStatements name) h = judged (λ n ns. IsJudged n ns (TooManyStatements name)) h
    is-judged (WrongJoin name fault) h = judged (λ n ns. IsJudged n ns (WrongJoin name fault)) h
    is-judged (TooManyCells name) h = judged (λ n ns. IsJudged n ns (TooManyCells name)) h
    is-judged (Wider name text) h = judged (λ n ns. IsJudged n ns (Wider name text)) h
    is-judged (Accepted count statements) h = judged (λ n ns. IsJudged n ns (Accepted count statements)) h

  -- The texts are refused before the tree is asked, or stand for a tree over a network.
  data Outcome (reply : DelegateReply) : Type 0 where
    unread : ((net : Network) (nodes : List Node) → StandForTree tree topology texts net nodes → ⊥) → delegate_status reply ≡ Refused → Outcome reply
    standing : (net : Network) (nodes : List Node) → StandForTree tree topology texts net nodes → Outcome reply

  outcome : (reply : DelegateReply) → Delegates tree topology texts reply → Outcome reply
  outcome (UnreadTree fault) h = unread (λ net nodes stand. no-unread_tree net nodes stand fault h) refl
  outcome (UnreadScope name fault) h = unread (λ net nodes stand. no-unread_scope net nodes stand name fault h) refl
  outcome (UnreadPolicy name fault) h = unread (λ net nodes stand. no-unread_policy net nodes stand name fault h) refl
  outcome (UnreadTopology fault) h = unread (λ net nodes stand. no-unread_topology net nodes stand fault h) refl
  outcome (WrongPolicy name fault) h = standing h.net h.nodes h.stand
  outcome (TooManyClasses name) h = standing h.net h.nodes h.stand
  outcome (SharedScopes one other packet) h = standing h.net h.nodes h.stand
  outcome (TooManyStatements name) h = standing h.net h.nodes h.stand
  outcome (WrongJoin name fault) h = standing h.net h.nodes h.stand
  outcome (TooManyCells name) h = standing h.net h.nodes h.stand
  outcome (Wider name text) h = standing h.net h.nodes h.stand
  outcome (Accepted count statements) h = standing h.net h.nodes h.stand

  module _ (rules_known : KnownRules) where
    one-outcome : (r s : DelegateReply) → Delegates tree topology texts r → Delegates tree topology texts s → Outcome r → Outcome s → delegate_status s ≡ delegate_status r
    one-outcome r s h k (unread none e) (unread never f) = f ∙ sym e
    one-outcome r s h k (unread none e) (standing net nodes stand) = absurd (none net nodes stand)
    one-outcome r s h k (standing net nodes stand) (unread never f) = absurd (never net nodes stand)
    one-outcome r s h k (standing net nodes stand) (standing other others also) = one-status rules_known net nodes r s (is-judged net nodes stand r h) (is-judged net nodes stand s k)

    pub Delegates-one : (r s : DelegateReply) → Delegates tree topology texts r → Delegates tree topology texts s → delegate_status s ≡ delegate_status r
    Delegates-one r s h k = one-outcome r s h k (outcome r h) (outcome s k)

    module _ (net : Network) (nodes : List Node) (reply : DelegateReply) (stand : StandForTree tree topology texts net nodes) where
      pub Delegates-accepted : IsAcceptedTree net (network_symbols net) nodes → Delegates tree topology texts reply
          → reply ≡ Accepted (length nodes) (sum_by (λ n. statement_count n.policy) nodes)
      Delegates-accepted a h = judged-accepted rules_known net nodes a reply (is-judged net nodes stand reply h)

      pub Delegates-wider : HasFewCells net (network_symbols net) nodes → (IsSoAtEach nodes (IsLocallyAcceptedAt net (network_symbols net) nodes) → ⊥)
          → Delegates tree topology texts reply → delegate_status reply ≡ RefineNo
      Delegates-wider few not h = judged-wider rules_known net nodes few not reply (is-judged net nodes stand reply h)

      pub Delegates-refused : (HasFewCells net (network_symbols net) nodes → ⊥) → Delegates tree topology texts reply → delegate_status reply ≡ Refused
      Delegates-refused many h = judged-refused rules_known net nodes many reply (is-judged net nodes stand reply h)
