-- Each tree has compositions, and the first node's has all statements of the tree.
use Rattle.std.proofs.Common.{◌≡◌, ◌≢◌, ℕ, zero, suc, ◌+◌, ◌≤◌, ◌<◌, ◌==◌, ◌⊎◌, inl, inr, nat_lt, Bool, true, false, cond, List, [], ◌∷◌, ◌++◌, length, map, Option, None, Some, unwrap_or, slice_get, refl, sym, ◌∙◌, ap, arith, sum_by}
use Rattle.std.specs.Option.{option_map_or, option_map, option_to_list}
use Rattle.std.specs.List.{flat_map}
use Rattle.std.proofs.lemmas.List.{length-append, length-map}
use Rattle.std.proofs.lemmas.List.Sums.{sum_by-cons}
use Rattle.std.proofs.lemmas.Bool.{cases_lt, cases_eq, lt-ltb, le-ltb, eq-eqb, ne_eqb}
use Rattle.policy_grammar.specs.declared.written.RawPath.{RawPath}
use Rattle.policy_expansion.specs.declared.policy.Policy.{Policy}
use Rattle.policy_expansion.specs.Faults.{count_of_default}
use Rattle.delegation.specs.declared.node.Node.{Node}
use Rattle.delegation.specs.declared.rating.RatedStatement.{RatedStatement}
use Rattle.delegation.specs.NamedJoins.{rated_statement, rated_policy, default_as_statement, statements_and_default, statement_in_scope, statements_of_child, statement_elsewhere, rated_child, named_join}
use Rattle.delegation.specs.NamedTrees.{IsNamedTree, HasParent, has_parent, children_with, composed_with, AreNamedCompositions, statement_count}
use Rattle.delegation.specs.TreeRules.{IsSoAtEach, IsFirstNot, HasSmallComposition, HasLargeComposition}
use Rattle.policy_expansion.specs.declared.limits.TheConstants.{MAX_STATEMENTS}

-- How many statements a join has.

long-map : {X Y : Type 0} (f : X → Y) (xs : List X) → length (map f xs) ≡ length xs
long-map f xs = length-map xs f

abbrev weight : Node × Policy → ℕ
weight c = statement_count c.1

child-count : (c : Node × Policy) → length (statements_of_child (rated_child c)) ≡ weight c
child-count c =
    long-map (statement_in_scope c.0) (statements_and_default (rated_policy c.1))
    ∙ length-append (rated_policy c.1).statements (option_to_list (option_map (default_as_statement (rated_policy c.1)) c.1.default_path))
    ∙ ap (λ n. n + length (option_to_list (option_map (default_as_statement (rated_policy c.1)) c.1.default_path))) (long-map (rated_statement c.1.formula.terms) c.1.statements)
    ∙ ap (λ n. length c.1.statements + n) (by c.1.default_path)
  where
    by : (o : Option RawPath) → length (option_to_list (option_map (default_as_statement (rated_policy c.1)) o)) ≡ count_of_default o
    by None = refl
    by (Some path) = refl

children-count : (cs : List (Node × Policy)) → length (flat_map statements_of_child (map rated_child cs)) ≡ sum_by weight cs
children-count [] = refl
children-count (c ∷ cs) =
    let a = length-append (statements_of_child (rated_child c)) (flat_map statements_of_child (map rated_child cs)) in
    let b = child-count c in
    let d = children-count cs in
    let e = sum_by-cons weight c cs in
    omega arith

pub join-count : (raw : Policy) (cs : List (Node × Policy)) → statement_count (named_join raw cs) ≡ statement_count raw + sum_by weight cs
join-count raw cs =
    let scopes = map (λ c. c.0.scope) (map rated_child cs) in
    let a = long-map (λ (r : RatedStatement). r.statement) (flat_map statements_of_child (map rated_child cs) ++ map (statement_elsewhere scopes) (rated_policy raw).statements) in
    let b = length-append (flat_map statements_of_child (map rated_child cs)) (map (statement_elsewhere scopes) (rated_policy raw).statements) in
    let d = children-count cs in
    let e = long-map (statement_elsewhere scopes) (rated_policy raw).statements in
    let f = long-map (rated_statement raw.formula.terms) raw.statements in
    omega arith

pub composed-count : (raw : Policy) (cs : List (Node × Policy)) → statement_count (composed_with raw cs) ≡ statement_count raw + sum_by weight cs
composed-count raw [] = omega arith
composed-count raw (c ∷ cs) = join-count raw (c ∷ cs)

-- the node is under none from place t on
pub is_top : ℕ → Node → Bool
is_top t n = option_map_or (λ p. nat_lt p t) n.parent true

-- what the policies of such nodes weigh
pub tops : ℕ → List Node → List Policy → ℕ
tops t [] ps = 0
tops t (n ∷ ns) [] = 0
tops t (n ∷ ns) (p ∷ ps) = cond (is_top t n) (statement_count p) 0 + tops t ns ps

one-more : (i m : ℕ) (n : Node) → cond (is_top (suc i) n) m 0 ≡ cond (is_top i n) m 0 + cond (has_parent i n) m 0
unfolding is_top
one-more i m n = by n.parent
  where
    by : (o : Option ℕ) → cond (option_map_or (λ p. nat_lt p (suc i)) o true) m 0 ≡ cond (option_map_or (λ p. nat_lt p i) o true) m 0 + cond (option_map_or (λ p. p == i) o false) m 0
    by None = omega arith
    by (Some p) = at (cases_lt p i)
      where
        three : (a b d : Bool) → nat_lt p (suc i) ≡ a → nat_lt p i ≡ b → (p == i) ≡ d → cond a m 0 ≡ cond b m 0 + cond d m 0 → cond (nat_lt p (suc i)) m 0 ≡ cond (nat_lt p i) m 0 + cond (p == i) m 0
        three a b d e f g h = ap (λ x. cond x m 0) e ∙ h ∙ sym (let u = ap (λ (x : Bool). cond {A = ℕ} x m 0) f in let v = ap (λ (x : Bool). cond {A = ℕ} x m 0) g in omega arith)

        at : (p < i) ⊎ (i ≤ p) → cond (nat_lt p (suc i)) m 0 ≡ cond (nat_lt p i) m 0 + cond (p == i) m 0
        at (inl lt) = three true true false (lt-ltb p (suc i) (omega arith)) (lt-ltb p i lt) (ne_eqb p i (λ e. omega arith)) (omega arith)
        at (inr le) = more (cases_eq p i)
          where
            more : (p ≡ i) ⊎ (p ≡ i → ⊥) → cond (nat_lt p (suc i)) m 0 ≡ cond (nat_lt p i) m 0 + cond (p == i) m 0
            more (inl e) = three true false true (lt-ltb p (suc i) (omega arith)) (le-ltb p i le) (eq-eqb p i e) (omega arith)
            more (inr ne) = three false false false (le-ltb p (suc i) (let q : p ≢ i = ne in omega arith)) (le-ltb p i le) (ne_eqb p i ne) (omega arith)

pub under-cons : (i : ℕ) (n : Node) (p : Policy) (ns : List Node) (ps : List Policy) → sum_by weight (children_with (n ∷ ns) (p ∷ ps) i) ≡ cond (has_parent i n) (statement_count p) 0 + sum_by weight (children_with ns ps i)
under-cons i n p ns ps = by (has_parent i n)
  where
    by : (b : Bool) → sum_by weight (cond b ((n, p) ∷ children_with ns ps i) (children_with ns ps i)) ≡ cond b (statement_count p) 0 + sum_by weight (children_with ns ps i)
    by true = sum_by-cons weight (n, p) (children_with ns ps i)
    by false = omega arith

tops-more : (i : ℕ) (ns : List Node) (ps : List Policy) → tops (suc i) ns ps ≡ tops i ns ps + sum_by weight (children_with ns ps i)
unfolding tops
tops-more i [] ps = refl
tops-more i (n ∷ ns) [] = refl
tops-more i (n ∷ ns) (p ∷ ps) =
    let a = one-more i (statement_count p) n in
    let b = tops-more i ns ps in
    let d = under-cons i n p ns ps in
    omega arith

abbrev pub own_weight : List Node → ℕ
own_weight ns = sum_by (λ n. statement_count n.policy) ns

-- The nodes from place i on, whose children stand behind them.
pub record AreFrom (i : ℕ) (ns : List Node) (ps : List Policy) : Type 0 where
  pub as_many : length ps ≡ length ns
  pub later : (j k : ℕ) (n : Node) → slice_get ns j ≡ Some n → i + j ≤ k → has_parent k n ≡ false
  pub each : (j : ℕ) (n : Node) → slice_get ns j ≡ Some n → slice_get ps j ≡ Some (composed_with n.policy (children_with ns ps (i + j)))

pub passed : {P : Type 0} (k : ℕ) (n : Node) (p : P) (ns : List Node) (ps : List P) → has_parent k n ≡ false → children_with (n ∷ ns) (p ∷ ps) k ≡ children_with ns ps k
passed k n p ns ps e = ap (λ b. cond b ((n, p) ∷ children_with ns ps k) (children_with ns ps k)) e

pub rest-from : (i : ℕ) (n : Node) (p : Policy) (ns : List Node) (ps : List Policy) → AreFrom i (n ∷ ns) (p ∷ ps) → AreFrom (suc i) ns ps
rest-from i n p ns ps are = record {
  as_many = let e = are.as_many in omega arith;
  later = λ j k m e l. are.later (suc j) k m e (omega arith);
  each = λ j m e.
      let same : i + suc j ≡ suc i + j = omega arith in
      are.each (suc j) m e ∙ ap (λ cs. Some (composed_with m.policy cs)) (passed (i + suc j) n p ns ps (are.later 0 (i + suc j) n refl (omega arith)) ∙ ap (children_with ns ps) same);
}

pub first-from : (i : ℕ) (n : Node) (p : Policy) (ns : List Node) (ps : List Policy) → AreFrom i (n ∷ ns) (p ∷ ps) → p ≡ composed_with n.policy (children_with ns ps i)
first-from i n p ns ps are =
    let at : i + 0 ≡ i = omega arith in
    ap (λ o. unwrap_or o p) (are.each 0 n refl) ∙ ap (composed_with n.policy) (ap (children_with (n ∷ ns) (p ∷ ps)) at ∙ passed i n p ns ps (are.later 0 i n refl (omega arith)))

-- what the tops weigh is what all nodes weigh by themselves
pub tops-all : (i : ℕ) (ns : List Node) (ps : List Policy) → AreFrom i ns ps → tops i ns ps ≡ own_weight ns
unfolding tops is_top
tops-all i [] ps are = refl
tops-all i (n ∷ ns) [] are = let e = are.as_many in let no : ⊥ = omega arith in absurd no
tops-all i (n ∷ ns) (p ∷ ps) are =
    let rest = tops-all (suc i) ns ps (rest-from i n p ns ps are) in
    let more = tops-more i ns ps in
    let count = ap statement_count (first-from i n p ns ps are) ∙ composed-count n.policy (children_with ns ps i) in
    let top : cond (is_top i n) (statement_count p) 0 ≡ statement_count p = ap (λ (b : Bool). cond {A = ℕ} b (statement_count p) 0) (top-of i n (λ k l. are.later 0 k n refl (omega arith))) in
    let all = sum_by-cons (λ (n : Node). statement_count n.policy) n ns in
    omega arith
  where
    top-of : (i : ℕ) (n : Node) → ((k : ℕ) → i ≤ k → has_parent k n ≡ false) → is_top i n ≡ true
    top-of i n h = by n.parent refl
      where
        by : (o : Option ℕ) → n.parent ≡ o → option_map_or (λ p. nat_lt p i) n.parent true ≡ true
        by None e = ap (λ o. option_map_or (λ p. nat_lt p i) o true) e
        by (Some q) e = ap (λ o. option_map_or (λ p. nat_lt p i) o true) e ∙ at (cases_lt q i)
          where
            at : (q < i) ⊎ (i ≤ q) → nat_lt q i ≡ true
            at (inl lt) = lt-ltb q i lt
            at (inr le) = let f = h q le in let g : has_parent q n ≡ true = ap (λ o. option_map_or (λ p. p == q) o false) e ∙ eq-eqb q q refl in let no : ⊥ = cc in absurd no

-- There are compositions: the last node's first.

pub from : ℕ → List Node → List Policy
from i [] = []
from i (n ∷ ns) = composed_with n.policy (children_with ns (from (suc i) ns) i) ∷ from (suc i) ns

from-long : (i : ℕ) (ns : List Node) → length (from i ns) ≡ length ns
unfolding from
from-long i [] = refl
from-long i (n ∷ ns) = ap suc (from-long (suc i) ns)

from-are : (i : ℕ) (ns : List Node) → ((j k : ℕ) (n : Node) → slice_get ns j ≡ Some n → i + j ≤ k → has_parent k n ≡ false) → AreFrom i ns (from i ns)
unfolding from
from-are i [] later = record { as_many = refl; later = later; each = λ j n e. let no : ⊥ = cc in absurd no }
from-are i (n ∷ ns) later = record { as_many = from-long i (n ∷ ns); later = later; each = each (from-are (suc i) ns (λ j k m e l. later (suc j) k m e (omega arith))) }
  where
    each : AreFrom (suc i) ns (from (suc i) ns) → (j : ℕ) (m : Node) → slice_get (n ∷ ns) j ≡ Some m → slice_get (from i (n ∷ ns)) j ≡ Some (composed_with m.policy (children_with (n ∷ ns) (from i (n ∷ ns)) (i + j)))
    each rest zero m e =
        let same : n ≡ m = ap (λ o. unwrap_or o n) e in
        let at : i + 0 ≡ i = omega arith in
        ap (λ (x : Node). Some (composed_with x.policy (children_with ns (from (suc i) ns) i))) same
        ∙ ap (λ cs. Some (composed_with m.policy cs)) (sym (ap (children_with (n ∷ ns) (from i (n ∷ ns))) at ∙ passed i n (composed_with n.policy (children_with ns (from (suc i) ns) i)) ns (from (suc i) ns) (later 0 i n refl (omega arith))))
    each rest (suc j) m e =
        let same : i + suc j ≡ suc i + j = omega arith in
        rest.each j m e
        ∙ ap (λ cs. Some (composed_with m.policy cs)) (sym (passed (i + suc j) n (composed_with n.policy (children_with ns (from (suc i) ns) i)) ns (from (suc i) ns) (later 0 (i + suc j) n refl (omega arith)) ∙ ap (children_with ns (from (suc i) ns)) same))

module _ (nodes : List Node) (tree : IsNamedTree nodes) where
  not-under : (j k : ℕ) (n : Node) → slice_get nodes j ≡ Some n → 0 + j ≤ k → has_parent k n ≡ false
  not-under zero k n e l = ap (λ o. option_map_or (λ p. p == k) o false) (tree.root n e)
  not-under (suc j) k n e l =
      let h : HasParent (suc j) n = tree.parents j n e in
      let lt = h.earlier in
      ap (λ o. option_map_or (λ p. p == k) o false) h.is_parent ∙ ne_eqb h.parent k (λ same. omega arith)

  pub compositions-are : AreNamedCompositions nodes (from 0 nodes)
  compositions-are = record {
    as_many = (from-are 0 nodes not-under).as_many;
    each = λ k n e. (from-are 0 nodes not-under).each k n e ∙ ap (λ j. Some (composed_with n.policy (children_with nodes (from 0 nodes) j))) (let z : 0 + k ≡ k = omega arith in z);
  }

  pub whole-from : (ps : List Policy) → AreNamedCompositions nodes ps → AreFrom 0 nodes ps
  whole-from ps are = record {
    as_many = are.as_many;
    later = not-under;
    each = λ k n e. are.each k n e ∙ ap (λ j. Some (composed_with n.policy (children_with nodes ps j))) (let z : k ≡ 0 + k = omega arith in z);
  }

-- A node of those from a place on has no more statements than they have by themselves.
pub each-within : (i : ℕ) (ns : List Node) (ps : List Policy) → AreFrom i ns ps → (j : ℕ) (p : Policy) → slice_get ps j ≡ Some p → statement_count p ≤ own_weight ns
unfolding tops
each-within i [] [] are j p e = let no : ⊥ = cc in absurd no
each-within i [] (q ∷ ps) are j p e = let f = are.as_many in let no : ⊥ = omega arith in absurd no
each-within i (n ∷ ns) [] are j p e = let no : ⊥ = cc in absurd no
each-within i (n ∷ ns) (q ∷ ps) are zero p e =
    let same : q ≡ p = ap (λ o. unwrap_or o q) e in
    let rest = tops-all (suc i) ns ps (rest-from i n q ns ps are) in
    let more = tops-more i ns ps in
    let count = ap statement_count (sym same ∙ first-from i n q ns ps are) ∙ composed-count n.policy (children_with ns ps i) in
    let all = sum_by-cons (λ (n : Node). statement_count n.policy) n ns in
    omega arith
each-within i (n ∷ ns) (q ∷ ps) are (suc j) p e =
    let rest = each-within (suc i) ns ps (rest-from i n q ns ps are) j p e in
    let all = sum_by-cons (λ (n : Node). statement_count n.policy) n ns in
    omega arith

no-tops : (ns : List Node) (ps : List Policy) → ((j : ℕ) (n : Node) → slice_get ns j ≡ Some n → (q : ℕ) × (n.parent ≡ Some q)) → tops 0 ns ps ≡ 0
unfolding tops is_top
no-tops [] ps h = refl
no-tops (n ∷ ns) [] h = refl
no-tops (n ∷ ns) (p ∷ ps) h = by (h 0 n refl) (no-tops ns ps (λ j m e. h (suc j) m e))
  where
    by : (q : ℕ) × (n.parent ≡ Some q) → tops 0 ns ps ≡ 0 → cond (is_top 0 n) (statement_count p) 0 + tops 0 ns ps ≡ 0
    by (q, e) r =
        let not : is_top 0 n ≡ false = ap (λ o. option_map_or (λ p. nat_lt p 0) o true) e ∙ le-ltb q 0 (omega arith) in
        let none : cond (is_top 0 n) (statement_count p) 0 ≡ 0 = ap (λ (b : Bool). cond {A = ℕ} b (statement_count p) 0) not in
        omega arith

-- the first node has the statements of all
pub root-count : (nodes : List Node) → IsNamedTree nodes → (ps : List Policy) (p : Policy) → AreNamedCompositions nodes ps → slice_get ps 0 ≡ Some p → statement_count p ≡ own_weight nodes
unfolding tops is_top
root-count [] tree ps p are e = let l = tree.some in let no : ⊥ = omega arith in absurd no
root-count (n ∷ ns) tree [] p are e = let no : ⊥ = cc in absurd no
root-count (n ∷ ns) tree (q ∷ ps) p are e =
    let same : q ≡ p = ap (λ o. unwrap_or o q) e in
    let all = tops-all 0 (n ∷ ns) (q ∷ ps) (whole-from (n ∷ ns) tree (q ∷ ps) are) in
    let none = no-tops ns ps (λ j m f. let h : HasParent (suc j) m = tree.parents j m f in (h.parent, h.is_parent)) in
    let top : is_top 0 n ≡ true = ap (λ o. option_map_or (λ p. nat_lt p 0) o true) (tree.root n refl) in
    let first : cond (is_top 0 n) (statement_count q) 0 ≡ statement_count q = ap (λ (b : Bool). cond {A = ℕ} b (statement_count q) 0) top in
    let count = ap statement_count same in
    omega arith

first-node : (nodes : List Node) → 0 < length nodes → (n : Node) × (slice_get nodes 0 ≡ Some n)
first-node [] l = let no : ⊥ = omega arith in absurd no
first-node (n ∷ nodes) l = (n, refl)

-- The sum of all decides.
pub small-each : (nodes : List Node) → IsNamedTree nodes → own_weight nodes ≤ MAX_STATEMENTS → IsSoAtEach nodes (HasSmallComposition nodes)
small-each nodes tree l k node e composition is = let h = each-within 0 nodes is.all (whole-from nodes tree is.all is.are) k composition is.stands in omega arith

pub large-first : (nodes : List Node) → IsNamedTree nodes → MAX_STATEMENTS < own_weight nodes → IsFirstNot nodes (HasSmallComposition nodes) (HasLargeComposition nodes) 0
large-first nodes tree l = by (first-node nodes tree.some)
  where
    by : (n : Node) × (slice_get nodes 0 ≡ Some n) → IsFirstNot nodes (HasSmallComposition nodes) (HasLargeComposition nodes) 0
    by (n, e) = record {
      node = n;
      has = e;
      is_not = record {
        composition = composed_with n.policy (children_with nodes (from 0 nodes) 0);
        is_composition = record { all = from 0 nodes; are = compositions-are nodes tree; stands = (compositions-are nodes tree).each 0 n e };
        large = (let c = root-count nodes tree (from 0 nodes) (composed_with n.policy (children_with nodes (from 0 nodes) 0)) (compositions-are nodes tree) ((compositions-are nodes tree).each 0 n e) in omega arith);
      };
      before = λ i m lt f. let no : ⊥ = omega arith in absurd no;
    }
