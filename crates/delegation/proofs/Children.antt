-- The children of a node in their order: which number and which scope stand at a place among them.
use Rattle.std.proofs.Common.{◌≡◌, ℕ, zero, suc, ◌+◌, ◌<◌, ◌==◌, ◌⊎◌, inl, inr, Bool, true, false, cond, List, [], ◌∷◌, ◌++◌, length, map, filter, take, get_or, append-nil, Option, None, Some, slice_get, refl, sym, ◌∙◌, ap, arith}
use Rattle.std.specs.Option.{option_map_or}
use Rattle.std.specs.List.{AllByRecursion, enumerate_from}
use Rattle.std.proofs.lemmas.Bool.{eqb-true, eq-eqb, cases_order}
use Rattle.std.proofs.lemmas.Option.{same_Some}
use Rattle.merlin_model.specs.declared.policy.Pred.{Pred}
use Rattle.merlin_model.specs.Predicates.{IsPred}
use Rattle.delegation.specs.declared.node.Node.{Node}
use Rattle.delegation.specs.NamedTrees.{IsTreeNode, has_parent, scopes_under, numbers_under}
use Rattle.delegation.proofs.Steps.{numbers-more}

-- the scopes of the children are well formed where the nodes are
pub scopes-formed : (place : ℕ) (nodes : List Node) → AllByRecursion IsTreeNode nodes → AllByRecursion IsPred (scopes_under nodes place)
scopes-formed place [] h = tt
scopes-formed place (n ∷ nodes) h = by (has_parent place n) (scopes-formed place nodes h.1)
  where
    by : (b : Bool) → AllByRecursion IsPred (scopes_under nodes place) → AllByRecursion IsPred (map (λ n. n.scope) (cond b (n ∷ filter (has_parent place) nodes) (filter (has_parent place) nodes)))
    by true rest = (h.0.scope, rest)
    by false rest = rest

-- one more node that is a child
pub numbers-step : (place : ℕ) (nodes : List Node) (k : ℕ) (n : Node) (old new : List ℕ) → k < length nodes → n ≡ get_or nodes k n → has_parent place n ≡ true → old ≡ numbers_under (take k nodes) place → new ≡ old ++ k ∷ [] → new ≡ numbers_under (take (k + 1) nodes) place
numbers-step place nodes k n old new l e is are pushed =
    pushed ∙ ap (λ (xs : List ℕ). xs ++ k ∷ []) are
    ∙ sym (numbers-more place nodes k n l e ∙ ap (λ b. numbers_under (take k nodes) place ++ cond b (k ∷ []) []) is)

-- one more node that is none
pub numbers-stay : (place : ℕ) (nodes : List Node) (k : ℕ) (n : Node) (old : List ℕ) → k < length nodes → n ≡ get_or nodes k n → has_parent place n ≡ false → old ≡ numbers_under (take k nodes) place → old ≡ numbers_under (take (k + 1) nodes) place
numbers-stay place nodes k n old l e is are =
    are ∙ sym (numbers-more place nodes k n l e ∙ ap (λ b. numbers_under (take k nodes) place ++ cond b (k ∷ []) []) is ∙ append-nil (numbers_under (take k nodes) place))

module _ (place : ℕ) where
  parent-of : (n : Node) → has_parent place n ≡ true → n.parent ≡ Some place
  parent-of n h = by n.parent h
    where
      by : (o : Option ℕ) → option_map_or (λ p. p == place) o false ≡ true → o ≡ Some place
      by None e = let no : ⊥ = cc in absurd no
      by (Some q) e = ap Some (eqb-true q place e)

  child-of : (n : Node) → n.parent ≡ Some place → has_parent place n ≡ true
  child-of n e = ap (λ o. option_map_or (λ p. p == place) o false) e ∙ eq-eqb place place refl

  -- the numbers of the children among nodes that are numbered from i on
  abbrev pub children-from : ℕ → List Node → List ℕ
  children-from i nodes = map (λ n. n.0) (filter (λ n. has_parent place n.1) (enumerate_from i nodes))

  -- there are as many numbers as scopes
  pub numbers-many : (i : ℕ) (nodes : List Node) → length (children-from i nodes) ≡ length (scopes_under nodes place)
  numbers-many i [] = refl
  numbers-many i (n ∷ nodes) = by (has_parent place n) (numbers-many (i + 1) nodes)
    where
      by : (b : Bool) → length (children-from (i + 1) nodes) ≡ length (scopes_under nodes place) →
          length (map (λ (m : ℕ × Node). m.0) (cond b ((i, n) ∷ filter (λ n. has_parent place n.1) (enumerate_from (i + 1) nodes)) (filter (λ n. has_parent place n.1) (enumerate_from (i + 1) nodes))))
          ≡ length (map (λ n. n.scope) (cond b (n ∷ filter (has_parent place) nodes) (filter (has_parent place) nodes)))
      by true ih = ap suc ih
      by false ih = ih

  -- the child with this number stands at place p among the scopes
  pub record IsChildAt (i : ℕ) (nodes : List Node) (scopes : List Pred) (p number : ℕ) : Type 0 where
    pub at : ℕ
    pub node : Node
    pub numbered : number ≡ i + at
    pub stands : slice_get nodes at ≡ Some node
    pub under : node.parent ≡ Some place
    pub scope : slice_get scopes p ≡ Some node.scope

  pub child-at : (i : ℕ) (nodes : List Node) (p number : ℕ) → slice_get (children-from i nodes) p ≡ Some number → IsChildAt i nodes (scopes_under nodes place) p number
  child-at i [] p number e = let no : ⊥ = cc in absurd no
  child-at i (n ∷ nodes) p number e = by (has_parent place n) refl p e (λ q f. child-at (i + 1) nodes q number f)
    where
      further : (scopes more : List Pred) (q p : ℕ) → slice_get more p ≡ slice_get scopes q → IsChildAt (i + 1) nodes scopes q number → IsChildAt i (n ∷ nodes) more p number
      further scopes more q p same h = record {
        at = suc h.at;
        node = h.node;
        numbered = (let e = h.numbered in omega arith);
        stands = h.stands;
        under = h.under;
        scope = same ∙ h.scope;
      }

      by : (b : Bool) → has_parent place n ≡ b → (p : ℕ) → slice_get (map (λ (m : ℕ × Node). m.0) (cond b ((i, n) ∷ filter (λ n. has_parent place n.1) (enumerate_from (i + 1) nodes)) (filter (λ n. has_parent place n.1) (enumerate_from (i + 1) nodes)))) p ≡ Some number →
          ((q : ℕ) → slice_get (children-from (i + 1) nodes) q ≡ Some number → IsChildAt (i + 1) nodes (scopes_under nodes place) q number) →
          IsChildAt i (n ∷ nodes) (map (λ n. n.scope) (cond b (n ∷ filter (has_parent place) nodes) (filter (has_parent place) nodes))) p number
      by true is zero f ih = record {
        at = 0;
        node = n;
        numbered = (let same : i ≡ number = same_Some i number f in omega arith);
        stands = refl;
        under = parent-of n is;
        scope = refl;
      }
      by true is (suc p) f ih = further (scopes_under nodes place) (n.scope ∷ scopes_under nodes place) p (suc p) refl (ih p f)
      by false is p f ih = further (scopes_under nodes place) (scopes_under nodes place) p p refl (ih p f)

  -- the number and the scope stand at one place
  pub record HasPlaceAmong (numbers : List ℕ) (scopes : List Pred) (number : ℕ) (scope : Pred) : Type 0 where
    pub at : ℕ
    pub number_at : slice_get numbers at ≡ Some number
    pub scope_at : slice_get scopes at ≡ Some scope

  -- each child has a place
  pub place-of : (i : ℕ) (nodes : List Node) (j : ℕ) (node : Node) (number : ℕ) → slice_get nodes j ≡ Some node → node.parent ≡ Some place → number ≡ i + j → HasPlaceAmong (children-from i nodes) (scopes_under nodes place) number node.scope
  place-of i [] j node number e u is = let no : ⊥ = cc in absurd no
  place-of i (n ∷ nodes) zero node number e u is = by (has_parent place n) (child-of n (ap (λ (m : Node). m.parent) same ∙ u))
    where
      same : n ≡ node
      same = same_Some n node e

      by : (b : Bool) → b ≡ true → HasPlaceAmong (map (λ (m : ℕ × Node). m.0) (cond b ((i, n) ∷ filter (λ n. has_parent place n.1) (enumerate_from (i + 1) nodes)) (filter (λ n. has_parent place n.1) (enumerate_from (i + 1) nodes))))
          (map (λ n. n.scope) (cond b (n ∷ filter (has_parent place) nodes) (filter (has_parent place) nodes))) number node.scope
      by true f = record { at = 0; number_at = (let z : i ≡ number = omega arith in ap Some z); scope_at = ap (λ (m : Node). Some m.scope) same }
      by false f = let no : ⊥ = cc in absurd no
  place-of i (n ∷ nodes) (suc j) node number e u is = by (has_parent place n) (place-of (i + 1) nodes j node number e u (omega arith))
    where
      by : (b : Bool) → HasPlaceAmong (children-from (i + 1) nodes) (scopes_under nodes place) number node.scope →
          HasPlaceAmong (map (λ (m : ℕ × Node). m.0) (cond b ((i, n) ∷ filter (λ n. has_parent place n.1) (enumerate_from (i + 1) nodes)) (filter (λ n. has_parent place n.1) (enumerate_from (i + 1) nodes))))
          (map (λ n. n.scope) (cond b (n ∷ filter (has_parent place) nodes) (filter (has_parent place) nodes))) number node.scope
      by true h = record { at = suc h.at; number_at = h.number_at; scope_at = h.scope_at }
      by false h = h

  -- a later place has a greater number
  pub ascending : (i : ℕ) (nodes : List Node) (p q a b : ℕ) → p < q → slice_get (children-from i nodes) p ≡ Some a → slice_get (children-from i nodes) q ≡ Some b → a < b
  ascending i [] p q a b l e f = let no : ⊥ = cc in absurd no
  ascending i (n ∷ nodes) p q a b l e f = by (has_parent place n) p q l e f (λ p q l e f. ascending (i + 1) nodes p q a b l e f)
    where
      by : (t : Bool) (p q : ℕ) → p < q →
          slice_get (map (λ (m : ℕ × Node). m.0) (cond t ((i, n) ∷ filter (λ n. has_parent place n.1) (enumerate_from (i + 1) nodes)) (filter (λ n. has_parent place n.1) (enumerate_from (i + 1) nodes)))) p ≡ Some a →
          slice_get (map (λ (m : ℕ × Node). m.0) (cond t ((i, n) ∷ filter (λ n. has_parent place n.1) (enumerate_from (i + 1) nodes)) (filter (λ n. has_parent place n.1) (enumerate_from (i + 1) nodes)))) q ≡ Some b →
          ((p q : ℕ) → p < q → slice_get (children-from (i + 1) nodes) p ≡ Some a → slice_get (children-from (i + 1) nodes) q ≡ Some b → a < b) → a < b
      by true p zero l e f ih = let no : ⊥ = omega arith in absurd no
      by true zero (suc q) l e f ih =
          let same : i ≡ a = same_Some i a e in
          let above = (child-at (i + 1) nodes q b f).numbered in
          omega arith
      by true (suc p) (suc q) l e f ih = ih p q (omega arith) e f
      by false p q l e f ih = ih p q l e f

  -- the same of two places, the other way round
  pub places-ascend : (nodes : List Node) (p q a b : ℕ) → a < b → slice_get (children-from 0 nodes) p ≡ Some a → slice_get (children-from 0 nodes) q ≡ Some b → p < q
  places-ascend nodes p q a b l e f = by (cases_order p q)
    where
      by : (p ≡ q) ⊎ ((p < q) ⊎ (q < p)) → p < q
      by (inl same) = let is : a ≡ b = same_Some a b (sym e ∙ ap (slice_get (children-from 0 nodes)) same ∙ f) in let no : ⊥ = omega arith in absurd no
      by (inr (inl lt)) = lt
      by (inr (inr gt)) = let less = ascending 0 nodes q p b a gt f e in let no : ⊥ = omega arith in absurd no
