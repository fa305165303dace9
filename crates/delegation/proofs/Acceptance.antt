-- From nodes that are accepted by themselves to nodes that are accepted with the compositions of their children.
use Rattle.std.proofs.Common.{◌≡◌, ◌≢◌, ℕ, zero, suc, ◌<◌, ◌==◌, Bool, true, false, cond, List, [], ◌∷◌, length, map, Option, None, Some, IsSome, option_map, unwrap_or, slice_get, refl, sym, ◌∙◌, ap, subst, arith}
use Rattle.std.specs.Option.{option_map_or}
use Rattle.std.specs.List.{AllByRecursion}
use Rattle.std.proofs.lemmas.Bool.{eqb-true}
use Rattle.std.proofs.lemmas.Option.{slice_get-map}
use Rattle.merlin_model.specs.Packets.{Packet, IsPacket}
use Rattle.merlin_model.specs.Predicates.{holds}
use Rattle.merlin_model.specs.Networks.{Network, AreDifferent, Pairwise}
use Rattle.merlin_model.specs.Policies.{match_of, paths_of}
use Rattle.policy_expansion.specs.declared.policy.Policy.{Policy}
use Rattle.policy_check.specs.Numbered.{numbered_statement, numbered_policy}
use Rattle.policy_check.specs.Checked.{IsSoundPolicy}
use Rattle.refinement_model.specs.Refinement.{Refines}
use Rattle.refinement_model.specs.Localised.{localised_form}
use Rattle.refinement_model.specs.Delegation.{Child, DelegationNode, HasNoSlash, IsPlain, HaveDisjointScopes, IsDelegationTree, children_of, join, default_id, IsLocallyAccepted, IsAcceptedWith}
use Rattle.delegation.specs.declared.node.Node.{Node}
use Rattle.delegation.specs.NamedTrees.{IsTreeNode, IsNamedTree, HasParent, has_parent, children_with, own_policies, numbered_node, IsAcceptedUnder}
use Rattle.delegation.specs.SharedScopes.{HasApartScopes}
use Rattle.delegation.proofs.Own.{all-at}
use Rattle.delegation.proofs.Numbered.{numbered_child, numbered-children, numbered-join, node-at}

pub None-Some : {X : Type 0} {a : X} → None ≡ Some a → ⊥
None-Some e = cc

-- what holds at each place holds of each element, and of what is made of each
pub each-mapped : {X Y : Type 0} (f : X → Y) (P : Y → Type 0) (xs : List X) → ((k : ℕ) (x : X) → slice_get xs k ≡ Some x → P (f x)) → AllByRecursion P (map f xs)
each-mapped f P [] h = tt
each-mapped f P (x ∷ xs) h = (h 0 x refl, each-mapped f P xs (λ k y e. h (suc k) y e))

pub mapped-all : {X Y : Type 0} (f : X → Y) (P : Y → Type 0) (Q : X → Type 0) → ((x : X) → Q x → P (f x)) → (xs : List X) → AllByRecursion Q xs → AllByRecursion P (map f xs)
mapped-all f P Q g [] h = tt
mapped-all f P Q g (x ∷ xs) h = (g x h.0, mapped-all f P Q g xs h.1)

pub map-twice : {X Y Z : Type 0} (f : X → Y) (g : Y → Z) (h : X → Z) → ((x : X) → g (f x) ≡ h x) → (xs : List X) → map g (map f xs) ≡ map h xs
map-twice f g h e [] = refl
map-twice f g h e (x ∷ xs) = ap (λ y. y ∷ map g (map f xs)) (e x) ∙ ap (λ l. h x ∷ l) (map-twice f g h e xs)

stands-within : {X : Type 0} (xs : List X) (k : ℕ) → k < length xs → IsSome (slice_get xs k)
stands-within [] k l = let no : ⊥ = omega arith in absurd no
stands-within (x ∷ xs) zero l = refl
stands-within (x ∷ xs) (suc k) l = stands-within xs k (omega arith)

module _ (net : Network) where
  pub plain-of : (node : Node) → IsTreeNode node → IsSoundPolicy (numbered_policy net node.policy) → IsPlain (numbered_policy net node.policy)
  plain-of node h sound = record {
    ids = record {
      different = subst AreDifferent (sym (map-twice (numbered_statement net) (λ s. s.id) (λ s. s.id) (λ s. refl) node.policy.statements)) h.expanded.ids;
      no_default = mapped-all (numbered_statement net) (λ s. s.id ≢ default_id) (λ s. HasNoSlash s.id × (s.id ≢ default_id)) (λ s q. q.1) node.policy.statements h.ids;
    };
    no_slash = mapped-all (numbered_statement net) (λ s. HasNoSlash s.id) (λ s. HasNoSlash s.id × (s.id ≢ default_id)) (λ s q. q.0) node.policy.statements h.ids;
    total = λ p pk. stands-within (paths_of (numbered_policy net node.policy)) (match_of (numbered_policy net node.policy) p) (sound.total p pk);
  }

  parent-is : (k : ℕ) (n : Node) → has_parent k n ≡ true → n.parent ≡ Some k
  parent-is k n e = by n.parent refl e
    where
      by : (o : Option ℕ) → n.parent ≡ o → option_map_or (λ parent. parent == k) o false ≡ true → n.parent ≡ Some k
      by None f g = let no : ⊥ = cc in absurd no
      by (Some p) f g = f ∙ ap Some (eqb-true p k g)

  -- a fact of each two children of a node
  module _ (k : ℕ) (Q : Node → Node → Type 0) (R : Child → Child → Type 0) (to : (x y : Node) (p q : Policy) → Q x y → R (numbered_child net (x, p)) (numbered_child net (y, q))) where
    with-first : (x : Node) (p : Policy) (ns : List Node) (ps : List Policy) → ((b : ℕ) (y : Node) → slice_get ns b ≡ Some y → has_parent k y ≡ true → Q x y) →
        AllByRecursion (R (numbered_child net (x, p))) (map (numbered_child net) (children_with ns ps k))
    with-first x p [] ps h = tt
    with-first x p (n ∷ ns) [] h = tt
    with-first x p (n ∷ ns) (q ∷ ps) h = by (has_parent k n) refl (with-first x p ns ps (λ b y e f. h (suc b) y e f))
      where
        by : (b : Bool) → has_parent k n ≡ b → AllByRecursion (R (numbered_child net (x, p))) (map (numbered_child net) (children_with ns ps k)) →
            AllByRecursion (R (numbered_child net (x, p))) (map (numbered_child net) (cond b ((n, q) ∷ children_with ns ps k) (children_with ns ps k)))
        by true e r = (to x n p q (h 0 n refl e), r)
        by false e r = r

    each-two : (ns : List Node) (ps : List Policy) → ((a b : ℕ) (x y : Node) → a < b → slice_get ns a ≡ Some x → slice_get ns b ≡ Some y → has_parent k x ≡ true → has_parent k y ≡ true → Q x y) →
        Pairwise R (map (numbered_child net) (children_with ns ps k))
    each-two [] ps h = tt
    each-two (n ∷ ns) [] h = tt
    each-two (n ∷ ns) (q ∷ ps) h = by (has_parent k n) refl (each-two ns ps (λ a b x y l e f g i. h (suc a) (suc b) x y (omega arith) e f g i))
      where
        by : (b : Bool) → has_parent k n ≡ b → Pairwise R (map (numbered_child net) (children_with ns ps k)) → Pairwise R (map (numbered_child net) (cond b ((n, q) ∷ children_with ns ps k) (children_with ns ps k)))
        by true e r = (with-first n q ns ps (λ b y f g. h 0 (suc b) n y (omega arith) refl f e g), r)
        by false e r = r

  module _ (nodes : List Node) (tree : IsNamedTree nodes) where
    own-same : map (λ n. n.policy) (map (numbered_node net) nodes) ≡ map (numbered_policy net) (own_policies nodes)
    own-same = map-twice (numbered_node net) (λ n. n.policy) (λ n. numbered_policy net n.policy) (λ n. refl) nodes
        ∙ sym (map-twice (λ n. n.policy) (numbered_policy net) (λ n. numbered_policy net n.policy) (λ n. refl) nodes)

    pub own-children : (k : ℕ) → children_of (map (numbered_node net) nodes) (map (λ n. n.policy) (map (numbered_node net) nodes)) k ≡ map (numbered_child net) (children_with nodes (own_policies nodes) k)
    own-children k = ap (λ ps. children_of (map (numbered_node net) nodes) ps k) own-same ∙ numbered-children net k nodes (own_policies nodes)

    pub tree-of : ((k : ℕ) (n : Node) → slice_get nodes k ≡ Some n → IsSoundPolicy (numbered_policy net n.policy)) → HasApartScopes nodes → IsDelegationTree (map (numbered_node net) nodes)
    tree-of sound apart = record {
      parents = λ k parent m e f. parents k parent m e f;
      names = subst AreDifferent (sym (map-twice (numbered_node net) (λ n. n.name) (λ n. n.name) (λ n. refl) nodes)) tree.names;
      no_slash = mapped-all (numbered_node net) (λ n. HasNoSlash n.name) IsTreeNode (λ n h. h.name) nodes tree.each;
      policies = each-mapped (numbered_node net) (λ n. IsPlain n.policy) nodes (λ k n e. plain-of n (all-at IsTreeNode nodes k n tree.each e) (sound k n e));
      scopes = λ k. subst HaveDisjointScopes (sym (own-children k)) (each-two k (λ x y. (p : Packet) → IsPacket p → holds x.scope p ≡ true → holds y.scope p ≡ true → ⊥)
          (λ c d. (p : Packet) → IsPacket p → holds c.scope p ≡ true → holds d.scope p ≡ true → ⊥) (λ x y p q h. h) nodes (own_policies nodes)
          (λ a b x y l e f g i p pk u v. apart a b p pk (record {
            before = l;
            first = x;
            second = y;
            has_first = e;
            has_second = f;
            parent = k;
            of_first = parent-is k x g;
            of_second = parent-is k y i;
            holds_first = u;
            holds_second = v;
          })));
    }
      where
        at : (k parent : ℕ) (n : Node) → slice_get nodes k ≡ Some n → n.parent ≡ Some parent → parent < k
        at zero parent n e f = absurd (None-Some (sym (tree.root n e) ∙ f))
        at (suc k) parent n e f = let h : HasParent (suc k) n = tree.parents k n e in let same : h.parent ≡ parent = ap (λ o. unwrap_or o parent) (sym h.is_parent ∙ f) in let lt = h.earlier in omega arith

        parents : (k parent : ℕ) (m : DelegationNode) → slice_get (map (numbered_node net) nodes) k ≡ Some m → m.parent ≡ Some parent → parent < k
        parents k parent m e f = by (node-at net nodes k m e)
          where
            by : (n : Node) × (slice_get nodes k ≡ Some n) × (m ≡ numbered_node net n) → parent < k
            by (n, g, i) = at k parent n g (ap (λ (d : DelegationNode). d.parent) (sym i) ∙ f)

    -- a node is accepted over numbers as it is over names
    pub accepted-same : (ps : List Policy) (k : ℕ) (n : Node) →
        Refines net (localised_form (numbered_policy net n.policy)) (join (numbered_policy net n.policy) (children_of (map (numbered_node net) nodes) (map (numbered_policy net) ps) k)) ≡ IsAcceptedUnder net nodes ps k n
    accepted-same ps k n = ap (Refines net (localised_form (numbered_policy net n.policy)))
        (ap (join (numbered_policy net n.policy)) (numbered-children net k nodes ps) ∙ sym (numbered-join net n.policy (children_with nodes ps k)))

    pub locally : ((k : ℕ) (n : Node) → slice_get nodes k ≡ Some n → IsAcceptedUnder net nodes (own_policies nodes) k n) →
        (k : ℕ) (m : DelegationNode) → slice_get (map (numbered_node net) nodes) k ≡ Some m → IsLocallyAccepted net (map (numbered_node net) nodes) k m
    locally local k m e = by (node-at net nodes k m e)
      where
        by : (n : Node) × (slice_get nodes k ≡ Some n) × (m ≡ numbered_node net n) → IsLocallyAccepted net (map (numbered_node net) nodes) k m
        by (n, f, g) = subst (IsLocallyAccepted net (map (numbered_node net) nodes) k) (sym g)
            (subst (λ ps. IsAcceptedWith net (map (numbered_node net) nodes) ps k (numbered_node net n)) (sym own-same) (subst (λ (X : Type 0). X) (sym (accepted-same (own_policies nodes) k n)) (local k n f)))

    pub node-stands : (k : ℕ) (n : Node) → slice_get nodes k ≡ Some n → slice_get (map (numbered_node net) nodes) k ≡ Some (numbered_node net n)
    node-stands k n e = slice_get-map (numbered_node net) nodes k ∙ ap (option_map (numbered_node net)) e
