-- One step of composing a tree from its last node to its first.
use Rattle.std.proofs.Common.{◌≡◌, ◌==◌, ℕ, zero, suc, ◌+◌, ◌<◌, ◌||◌, Bool, true, false, cond, List, [], ◌∷◌, ◌++◌, length, map, take, drop, set, get_or, Some, option_map, unwrap_or, slice_get, refl, sym, ◌∙◌, ap, ap₂, arith}
use Rattle.std.specs.Option.{option_map_or}
use Rattle.std.specs.List.{list_any}
use Rattle.std.proofs.lemmas.Bool.{ne_eqb}
use Rattle.std.proofs.lemmas.List.{length-map}
use Rattle.std.proofs.lemmas.Option.{slice_get-map}
use Rattle.policy_expansion.specs.declared.policy.Policy.{Policy}
use Rattle.delegation.specs.declared.node.Node.{Node}
use Rattle.delegation.specs.declared.rating.RatedPolicy.{RatedPolicy}
use Rattle.delegation.specs.NamedJoins.{rated_policy, written_policy, rated_join, rated_child, named_join}
use Rattle.delegation.specs.NamedTrees.{IsTreeNode, IsNamedTree, HasParent, has_parent, children_with, own_policies, composed_with, AreNamedCompositions, composed_from}
use Rattle.delegation.proofs.Own.{all-at, stands-at}
use Rattle.delegation.proofs.Compositions.{passed}
use Rattle.delegation.proofs.Written.{written-rates}
use Rattle.delegation.proofs.Ids.{joined-different}

some-at : {X : Type 0} (xs : List X) (k : ℕ) → k < length xs → (x : X) × (slice_get xs k ≡ Some x)
some-at [] k l = let no : ⊥ = omega arith in absurd no
some-at (x ∷ xs) zero l = (x, refl)
some-at (x ∷ xs) (suc k) l = some-at xs k (omega arith)

Some-same : {X : Type 0} {a b : X} → Some a ≡ Some b → a ≡ b
Some-same {X} {a} {b} e = ap (λ o. unwrap_or o a) e

-- A list of which a front is of one list and the rest of another.

all-taken : {X : Type 0} (xs ys : List X) → length ys ≡ length xs → take (length xs) xs ++ drop (length xs) ys ≡ xs
all-taken [] [] e = refl
all-taken [] (y ∷ ys) e = let no : ⊥ = omega arith in absurd no
all-taken (x ∷ xs) [] e = let no : ⊥ = omega arith in absurd no
all-taken (x ∷ xs) (y ∷ ys) e = ap (λ l. x ∷ l) (all-taken xs ys (omega arith))

last-taken : {X : Type 0} (xs rest : List X) (k : ℕ) → k < length xs → slice_get (take (suc k) xs ++ rest) k ≡ slice_get xs k
last-taken [] rest k l = let no : ⊥ = omega arith in absurd no
last-taken (x ∷ xs) rest zero l = refl
last-taken (x ∷ xs) rest (suc k) l = last-taken xs rest k (omega arith)

-- one more of the second list
one-put : {X Y : Type 0} (f : X → Y) (xs ys : List X) (k : ℕ) (y : X) → k < length xs → slice_get ys k ≡ Some y → set (map f (take (suc k) xs ++ drop (suc k) ys)) k (f y) ≡ map f (take k xs ++ drop k ys)
one-put f [] ys k y l e = let no : ⊥ = omega arith in absurd no
one-put f (x ∷ xs) [] k y l e = let no : ⊥ = cc in absurd no
one-put f (x ∷ xs) (z ∷ ys) zero y l e = ap (λ v. f v ∷ map f ys) (sym (Some-same e))
one-put f (x ∷ xs) (z ∷ ys) (suc k) y l e = ap (λ l. f x ∷ l) (one-put f xs ys k y (omega arith) e)

one-same : {X : Type 0} (xs ys : List X) (k : ℕ) (x : X) → slice_get xs k ≡ Some x → slice_get ys k ≡ Some x → take (suc k) xs ++ drop (suc k) ys ≡ take k xs ++ drop k ys
one-same [] ys k x e f = let no : ⊥ = cc in absurd no
one-same (y ∷ xs) [] k x e f = let no : ⊥ = cc in absurd no
one-same (y ∷ xs) (z ∷ ys) zero x e f = ap (λ v. v ∷ ys) (Some-same e ∙ sym (Some-same f))
one-same (y ∷ xs) (z ∷ ys) (suc k) x e f = ap (λ l. y ∷ l) (one-same xs ys k x e f)

-- The children of a node, which stand behind it.

children-mapped : (k : ℕ) (nodes : List Node) (ps : List Policy) → children_with nodes (map rated_policy ps) k ≡ map rated_child (children_with nodes ps k)
children-mapped k [] ps = refl
children-mapped k (n ∷ nodes) [] = refl
children-mapped k (n ∷ nodes) (p ∷ ps) = by (has_parent k n) (children-mapped k nodes ps)
  where
    by : (b : Bool) → children_with nodes (map rated_policy ps) k ≡ map rated_child (children_with nodes ps k) →
        cond b ((n, rated_policy p) ∷ children_with nodes (map rated_policy ps) k) (children_with nodes (map rated_policy ps) k) ≡ map rated_child (cond b ((n, p) ∷ children_with nodes ps k) (children_with nodes ps k))
    by true ih = ap (λ l. (n, rated_policy p) ∷ l) ih
    by false ih = ih

children-behind : (k t : ℕ) (nodes : List Node) (os ps : List Policy) → length os ≡ length nodes → length ps ≡ length nodes → ((j : ℕ) (n : Node) → j < t → slice_get nodes j ≡ Some n → has_parent k n ≡ false) →
    children_with nodes (map rated_policy (take t os ++ drop t ps)) k ≡ map rated_child (children_with nodes ps k)
children-behind k zero nodes os ps l m h = children-mapped k nodes ps
children-behind k (suc t) [] os ps l m h = refl
children-behind k (suc t) (n ∷ nodes) [] ps l m h = let no : ⊥ = omega arith in absurd no
children-behind k (suc t) (n ∷ nodes) (o ∷ os) [] l m h = let no : ⊥ = omega arith in absurd no
children-behind k (suc t) (n ∷ nodes) (o ∷ os) (p ∷ ps) l m h =
    let none = h 0 n (omega arith) refl in
    passed k n (rated_policy o) nodes (map rated_policy (take t os ++ drop t ps)) none ∙ children-behind k t nodes os ps (omega arith) (omega arith) (λ j x b e. h (suc j) x (omega arith) e) ∙ ap (map rated_child) (sym (passed k n p nodes ps none))

-- whether there are any
no-children : (k : ℕ) (nodes : List Node) (ps : List Policy) → list_any (has_parent k) nodes ≡ false → children_with nodes ps k ≡ []
no-children k [] ps e = refl
no-children k (n ∷ nodes) [] e = refl
no-children k (n ∷ nodes) (p ∷ ps) e = by (has_parent k n) e (no-children k nodes ps)
  where
    by : (b : Bool) → (b || list_any (has_parent k) nodes) ≡ false → (list_any (has_parent k) nodes ≡ false → children_with nodes ps k ≡ []) → cond b ((n, p) ∷ children_with nodes ps k) (children_with nodes ps k) ≡ []
    by true f ih = let no : ⊥ = cc in absurd no
    by false f ih = ih f

is-join : (policy : Policy) (k : ℕ) (nodes : List Node) (ps : List Policy) → length ps ≡ length nodes → list_any (has_parent k) nodes ≡ true → composed_with policy (children_with nodes ps k) ≡ named_join policy (children_with nodes ps k)
is-join policy k [] ps l e = let no : ⊥ = cc in absurd no
is-join policy k (n ∷ nodes) [] l e = let no : ⊥ = omega arith in absurd no
is-join policy k (n ∷ nodes) (p ∷ ps) l e = by (has_parent k n) e (is-join policy k nodes ps (omega arith))
  where
    by : (b : Bool) → (b || list_any (has_parent k) nodes) ≡ true → (list_any (has_parent k) nodes ≡ true → composed_with policy (children_with nodes ps k) ≡ named_join policy (children_with nodes ps k)) →
        composed_with policy (cond b ((n, p) ∷ children_with nodes ps k) (children_with nodes ps k)) ≡ named_join policy (cond b ((n, p) ∷ children_with nodes ps k) (children_with nodes ps k))
    by true f ih = refl
    by false f ih = ih f

-- the list before the first step
pub none-composed : (nodes : List Node) (ps : List Policy) → AreNamedCompositions nodes ps → (k : ℕ) → k ≡ length nodes → map (λ n. rated_policy n.policy) nodes ≡ map rated_policy (composed_from nodes ps k)
none-composed nodes ps are k e = twice nodes ∙ ap (map rated_policy) (sym (ap (λ j. take j (own_policies nodes) ++ drop j ps) (e ∙ sym long) ∙ all-taken (own_policies nodes) ps (are.as_many ∙ sym long)))
  where
    long : length (own_policies nodes) ≡ length nodes
    long = length-map nodes (λ n. n.policy)

    twice : (ns : List Node) → map (λ n. rated_policy n.policy) ns ≡ map rated_policy (map (λ n. n.policy) ns)
    twice [] = refl
    twice (n ∷ ns) = ap (λ l. rated_policy n.policy ∷ l) (twice ns)

module _ (nodes : List Node) (tree : IsNamedTree nodes) (ps : List Policy) (are : AreNamedCompositions nodes ps) where
  own-long : length (own_policies nodes) ≡ length nodes
  own-long = length-map nodes (λ n. n.policy)

  own-stands : (k : ℕ) (node : Node) → slice_get nodes k ≡ Some node → slice_get (own_policies nodes) k ≡ Some node.policy
  own-stands k node e = slice_get-map (λ (n : Node). n.policy) nodes k ∙ ap (option_map (λ (n : Node). n.policy)) e

  -- no child stands before its parent
  behind : (k j : ℕ) (n : Node) → j < suc k → slice_get nodes j ≡ Some n → has_parent k n ≡ false
  behind k zero n b e = ap (λ o. option_map_or (λ p. p == k) o false) (tree.root n e)
  behind k (suc j) n b e =
      let h : HasParent (suc j) n = tree.parents j n e in
      let lt = h.earlier in
      ap (λ o. option_map_or (λ p. p == k) o false) h.is_parent ∙ ne_eqb h.parent k (λ same. omega arith)

  -- what the composition of a node with children is, with its rates
  joined-rates : (k : ℕ) (node : Node) → slice_get nodes k ≡ Some node → list_any (has_parent k) nodes ≡ true →
      rated_policy (composed_with node.policy (children_with nodes ps k)) ≡ rated_join (rated_policy node.policy) (map rated_child (children_with nodes ps k))
  joined-rates k node e any =
      ap rated_policy (is-join node.policy k nodes ps are.as_many any)
      ∙ written-rates (rated_join (rated_policy node.policy) (map rated_child (children_with nodes ps k))) (joined-different nodes tree ps are k node (all-at IsTreeNode nodes k node tree.each e))

  -- a leaf's own policy is its composition
  pub leaf-step : (k : ℕ) (rated : List RatedPolicy) → k < length nodes → list_any (has_parent k) nodes ≡ false → rated ≡ map rated_policy (composed_from nodes ps (k + 1)) → rated ≡ map rated_policy (composed_from nodes ps k)
  leaf-step k rated l none old = by (some-at nodes k l)
    where
      by : (n : Node) × (slice_get nodes k ≡ Some n) → rated ≡ map rated_policy (composed_from nodes ps k)
      by (n, e) =
          old ∙ ap (λ j. map rated_policy (composed_from nodes ps j)) (let z : k + 1 ≡ suc k = omega arith in z)
          ∙ ap (map rated_policy) (one-same (own_policies nodes) ps k n.policy (own-stands k n e) (are.each k n e ∙ ap (λ cs. Some (composed_with n.policy cs)) (no-children k nodes ps none)))

  -- the join is put in the place of a node with children
  pub join-step : (k : ℕ) (own joined : RatedPolicy) (rated : List RatedPolicy) → k < length nodes → length rated ≡ length nodes → list_any (has_parent k) nodes ≡ true → rated ≡ map rated_policy (composed_from nodes ps (k + 1)) →
      own ≡ get_or rated k own → joined ≡ rated_join own (children_with nodes rated k) → set rated k joined ≡ map rated_policy (composed_from nodes ps k)
  join-step k own joined rated l many any old is made = by (some-at nodes k l)
    where
      start : List Policy
      start = take (suc k) (own_policies nodes) ++ drop (suc k) ps

      whole : rated ≡ map rated_policy (take (suc k) (own_policies nodes) ++ drop (suc k) ps)
      whole = old ∙ ap (λ j. map rated_policy (composed_from nodes ps j)) (let z : k + 1 ≡ suc k = omega arith in z)

      by : (n : Node) × (slice_get nodes k ≡ Some n) → set rated k joined ≡ map rated_policy (composed_from nodes ps k)
      by (n, e) =
          let within : k < length (own_policies nodes) = let long = own-long in omega arith in
          let own-is : own ≡ rated_policy n.policy = Some-same (sym (stands-at rated k own (omega arith) is) ∙ ap (λ r. slice_get r k) whole ∙ slice_get-map rated_policy (take (suc k) (own_policies nodes) ++ drop (suc k) ps) k
          ∙ ap (option_map rated_policy) (last-taken (own_policies nodes) (drop (suc k) ps) k within ∙ own-stands k n e)) in
          let below : children_with nodes rated k ≡ map rated_child (children_with nodes ps k) = ap (λ r. children_with nodes r k) whole ∙ children-behind k (suc k) nodes (own_policies nodes) ps own-long are.as_many (behind k) in
          let joined-is : joined ≡ rated_policy (composed_with n.policy (children_with nodes ps k)) = made ∙ ap₂ rated_join own-is below ∙ sym (joined-rates k n e any) in
          ap₂ (λ r j. set r k j) whole joined-is ∙ one-put rated_policy (own_policies nodes) ps k (composed_with n.policy (children_with nodes ps k)) within (are.each k n e)

  -- The first node.

  pub root-leaf : (root : Node) → slice_get nodes 0 ≡ Some root → list_any (has_parent 0) nodes ≡ false → slice_get ps 0 ≡ Some root.policy
  root-leaf root e none = are.each 0 root e ∙ ap (λ cs. Some (composed_with root.policy cs)) (no-children 0 nodes ps none)

  pub root-join : (root : Node) (first : RatedPolicy) → slice_get nodes 0 ≡ Some root → list_any (has_parent 0) nodes ≡ true → slice_get (map rated_policy ps) 0 ≡ Some first → slice_get ps 0 ≡ Some (written_policy first)
  root-join root first e any stands =
      let composition = composed_with root.policy (children_with nodes ps 0) in
      let first-is : first ≡ rated_policy composition = Some-same (sym stands ∙ slice_get-map rated_policy ps 0 ∙ ap (option_map rated_policy) (are.each 0 root e)) in
      are.each 0 root e ∙ ap Some (is-join root.policy 0 nodes ps are.as_many any ∙ ap written_policy (sym (joined-rates 0 root e any) ∙ sym first-is))
