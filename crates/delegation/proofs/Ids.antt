-- The ids of a composition differ, and none of them is `default`.
use Rattle.std.proofs.Common.{◌≡◌, ◌≢◌, ℕ, suc, ◌⊎◌, inl, inr, Bool, true, false, cond, List, [], ◌∷◌, ◌++◌, map, Option, None, Some, option_map, refl, sym, ◌∙◌, ap, ap₂, subst, arith}
use Rattle.std.specs.Option.{option_to_list}
use Rattle.std.specs.List.{AllByRecursion, flat_map}
use Rattle.std.proofs.lemmas.List.{map-append}
use Rattle.merlin_model.specs.declared.policy.Pred.{Pred}
use Rattle.merlin_model.specs.declared.policy.Term.{Term}
use Rattle.merlin_model.specs.Networks.{AreDifferent}
use Rattle.merlin_model.proofs.Members.{In, all_in, in_append, in_map, in_flat_map, map_in}
use Rattle.policy_grammar.specs.declared.written.RawPath.{RawPath}
use Rattle.policy_expansion.specs.declared.policy.Statement.{Statement}
use Rattle.policy_expansion.specs.declared.policy.Policy.{Policy}
use Rattle.refinement_model.specs.Delegation.{slash, joined_id, default_id, HasNoSlash}
use Rattle.delegation.specs.declared.node.Node.{Node}
use Rattle.delegation.specs.declared.rating.RatedStatement.{RatedStatement}
use Rattle.delegation.specs.NamedJoins.{rated_statement, rated_policy, default_as_statement, statements_and_default, statement_in_scope, statements_of_child, statement_elsewhere, rated_join, rated_child, named_join}
use Rattle.delegation.specs.NamedTrees.{IsTreeNode, IsNamedTree, has_parent, children_with, composed_with, AreNamedCompositions}
use Rattle.delegation.proofs.Compositions.{AreFrom, rest-from, first-from, whole-from}

-- Different things, by cases.

all-differ : {X : Type 0} (x : X) (xs : List X) → (In x xs → ⊥) → AllByRecursion (λ y. x ≢ y) xs
all-differ x [] h = tt
all-differ x (y ∷ xs) h = (λ e. h (inl e), all-differ x xs (λ i. h (inr i)))

differ-in : {X : Type 0} (x : X) (xs : List X) → AllByRecursion (λ y. x ≢ y) xs → In x xs → ⊥
differ-in x [] h i = i
differ-in x (y ∷ xs) h (inl e) = h.0 e
differ-in x (y ∷ xs) h (inr i) = differ-in x xs h.1 i

different-append : {X : Type 0} (xs ys : List X) → AreDifferent xs → AreDifferent ys → ((x : X) → In x xs → In x ys → ⊥) → AreDifferent (xs ++ ys)
different-append [] ys d e apart = e
different-append (x ∷ xs) ys d e apart = (all-differ x (xs ++ ys) (λ i. by (in_append xs ys x i)), different-append xs ys d.1 e (λ z i j. apart z (inr i) j))
  where
    by : In x xs ⊎ In x ys → ⊥
    by (inl i) = differ-in x xs d.0 i
    by (inr i) = apart x (inl refl) i

different-map : {X Y : Type 0} (f : X → Y) → ((a b : X) → f a ≡ f b → a ≡ b) → (xs : List X) → AreDifferent xs → AreDifferent (map f xs)
different-map f inj [] d = tt
different-map f inj (x ∷ xs) d = (all-differ (f x) (map f xs) (λ i. let m = in_map f xs (f x) i in differ-in x xs d.0 (subst (λ y. In y xs) (sym (inj x m.0 m.2)) m.1)), different-map f inj xs d.1)

-- CHILD/ID tells the child and the id.

cons-same : (a b : ℕ) (xs ys : List ℕ) → a ∷ xs ≡ b ∷ ys → (a ≡ b) × (xs ≡ ys)
cons-same a b xs ys e = (ap head e, ap tail e)
  where
    head : List ℕ → ℕ
    head [] = a
    head (x ∷ xs) = x

    tail : List ℕ → List ℕ
    tail [] = xs
    tail (x ∷ xs) = xs

joined-same : (a b i j : List ℕ) → HasNoSlash a → HasNoSlash b → joined_id a i ≡ joined_id b j → (a ≡ b) × (i ≡ j)
joined-same [] [] i j h k e = (refl, (cons-same slash slash i j e).1)
joined-same [] (y ∷ b) i j h k e = absurd (k.0 (sym (cons-same slash y i (joined_id b j) e).0))
joined-same (x ∷ a) [] i j h k e = absurd (h.0 (cons-same x slash (joined_id a i) j e).0)
joined-same (x ∷ a) (y ∷ b) i j h k e =
    let c = cons-same x y (joined_id a i) (joined_id b j) e in
    let r = joined-same a b i j h.1 k.1 c.1 in
    (ap₂ (λ z zs. z ∷ zs) c.0 r.0, r.1)

joined-slash : (a i : List ℕ) → HasNoSlash (joined_id a i) → ⊥
joined-slash [] i h = h.0 refl
joined-slash (x ∷ a) i h = joined-slash a i h.1

default-no_slash : HasNoSlash default_id
default-no_slash = ((λ e. let no : ⊥ = omega (arith, e) in absurd no), ((λ e. let no : ⊥ = omega (arith, e) in absurd no), ((λ e. let no : ⊥ = omega (arith, e) in absurd no), ((λ e. let no : ⊥ = omega (arith, e) in absurd no), ((λ e. let no : ⊥ = omega (arith, e) in absurd no), ((λ e. let no : ⊥ = omega (arith, e) in absurd no), ((λ e. let no : ⊥ = omega (arith, e) in absurd no), tt)))))))

-- The ids of a join.

abbrev listed : List RatedStatement → List (List ℕ)
listed rs = map (λ r. r.statement.id) rs

abbrev ids_of : Policy → List (List ℕ)
ids_of policy = map (λ s. s.id) policy.statements

-- what is so of the ids of a composition
pub record HasNamedIds (policy : Policy) : Type 0 where
  pub different : AreDifferent (ids_of policy)
  pub no_default : In default_id (ids_of policy) → ⊥

-- of a child, with its default
abbrev ids_of_all : Policy → List (List ℕ)
ids_of_all policy = listed (statements_and_default (rated_policy policy))

abbrev ids_in_join : Node × Policy → List (List ℕ)
ids_in_join c = map (joined_id c.0.name) (ids_of_all c.1)

listed-rated : (terms : List Term) (ss : List Statement) → listed (map (rated_statement terms) ss) ≡ map (λ s. s.id) ss
listed-rated terms [] = refl
listed-rated terms (s ∷ ss) = ap (λ l. s.id ∷ l) (listed-rated terms ss)

listed-in_scope : (child : Node) (rs : List RatedStatement) → listed (map (statement_in_scope child) rs) ≡ map (joined_id child.name) (listed rs)
listed-in_scope child [] = refl
listed-in_scope child (r ∷ rs) = ap (λ l. joined_id child.name r.statement.id ∷ l) (listed-in_scope child rs)

listed-elsewhere : (scopes : List Pred) (rs : List RatedStatement) → listed (map (statement_elsewhere scopes) rs) ≡ listed rs
listed-elsewhere scopes [] = refl
listed-elsewhere scopes (r ∷ rs) = ap (λ l. r.statement.id ∷ l) (listed-elsewhere scopes rs)

listed-children : (cs : List (Node × Policy)) → listed (flat_map statements_of_child (map rated_child cs)) ≡ flat_map ids_in_join cs
listed-children [] = refl
listed-children (c ∷ cs) = map-append (λ (r : RatedStatement). r.statement.id) (statements_of_child (rated_child c)) (flat_map statements_of_child (map rated_child cs)) ∙ ap₂ (λ a b. a ++ b) (listed-in_scope c.0 (statements_and_default (rated_policy c.1))) (listed-children cs)

pub joined-ids : (policy : Policy) (cs : List (Node × Policy)) → listed (rated_join (rated_policy policy) (map rated_child cs)).statements ≡ ids_of (named_join policy cs)
joined-ids policy cs = by (rated_join (rated_policy policy) (map rated_child cs)).statements
  where
    by : (rs : List RatedStatement) → listed rs ≡ map (λ s. s.id) (map (λ r. r.statement) rs)
    by [] = refl
    by (r ∷ rs) = ap (λ l. r.statement.id ∷ l) (by rs)

join-list : (policy : Policy) (cs : List (Node × Policy)) → ids_of (named_join policy cs) ≡ flat_map ids_in_join cs ++ ids_of policy
join-list policy cs =
    let scopes = map (λ c. c.0.scope) (map rated_child cs) in
    sym (joined-ids policy cs) ∙ map-append (λ (r : RatedStatement). r.statement.id) (flat_map statements_of_child (map rated_child cs)) (map (statement_elsewhere scopes) (rated_policy policy).statements)
    ∙ ap₂ (λ a b. a ++ b) (listed-children cs) (listed-elsewhere scopes (rated_policy policy).statements ∙ listed-rated policy.formula.terms policy.statements)

all-different : (policy : Policy) → HasNamedIds policy → AreDifferent (ids_of_all policy)
all-different policy h = by policy.default_path
  where
    last : Option RawPath → List RatedStatement
    last o = option_to_list (option_map (default_as_statement (rated_policy policy)) o)

    list : (o : Option RawPath) → listed ((rated_policy policy).statements ++ option_to_list (option_map (default_as_statement (rated_policy policy)) o)) ≡ ids_of policy ++ listed (option_to_list (option_map (default_as_statement (rated_policy policy)) o))
    list o = map-append (λ (r : RatedStatement). r.statement.id) (rated_policy policy).statements (option_to_list (option_map (default_as_statement (rated_policy policy)) o))
        ∙ ap (λ l. l ++ listed (option_to_list (option_map (default_as_statement (rated_policy policy)) o))) (listed-rated policy.formula.terms policy.statements)

    alone : (x : List ℕ) → In x (ids_of policy) → In x (default_id ∷ []) → ⊥
    alone x i (inl e) = h.no_default (subst (λ y. In y (ids_of policy)) e i)
    alone x i (inr j) = j

    by : (o : Option RawPath) → AreDifferent (listed ((rated_policy policy).statements ++ option_to_list (option_map (default_as_statement (rated_policy policy)) o)))
    by None = subst AreDifferent (sym (list None)) (different-append (ids_of policy) [] h.different tt (λ x i j. j))
    by (Some path) = subst AreDifferent (sym (list (Some path))) (different-append (ids_of policy) (default_id ∷ []) h.different (tt, tt) alone)

-- what is so of the children of a node
abbrev IsNamedChild : Node × Policy → Type 0
IsNamedChild c = HasNoSlash c.0.name × HasNamedIds c.1

-- an id in the join tells its child
of-child : (cs : List (Node × Policy)) (x : List ℕ) → In x (flat_map ids_in_join cs) → (c : Node × Policy) × In c cs × (i : List ℕ) × (x ≡ joined_id c.0.name i)
of-child cs x h =
    let m = in_flat_map ids_in_join cs x h in
    let n = in_map (joined_id m.0.0.name) (ids_of_all m.0.1) x m.2 in
    (m.0, m.1, n.0, n.2)

children-different : (cs : List (Node × Policy)) → AreDifferent (map (λ c. c.0.name) cs) → AllByRecursion IsNamedChild cs → AreDifferent (flat_map ids_in_join cs)
children-different [] names each = tt
children-different (c ∷ cs) names each = different-append (ids_in_join c) (flat_map ids_in_join cs)
    (different-map (joined_id c.0.name) (λ a b e. (joined-same c.0.name c.0.name a b each.0.0 each.0.0 e).1) (ids_of_all c.1) (all-different c.1 each.0.1))
    (children-different cs names.1 each.1) apart
  where
    apart : (x : List ℕ) → In x (ids_in_join c) → In x (flat_map ids_in_join cs) → ⊥
    apart x i j =
        let a = in_map (joined_id c.0.name) (ids_of_all c.1) x i in
        let b = of-child cs x j in
        let same : c.0.name ≡ b.0.0.name = (joined-same c.0.name b.0.0.name a.0 b.2 each.0.0 (all_in IsNamedChild cs b.0 each.1 b.1).0 (sym a.2 ∙ b.3)).0 in
        differ-in c.0.name (map (λ c. c.0.name) cs) names.0 (subst (λ n. In n (map (λ c. c.0.name) cs)) (sym same) (map_in (λ (c : Node × Policy). c.0.name) cs b.0 b.1))

module _ (policy : Policy) (own : HasNamedIds policy) (plain : AllByRecursion (λ s. HasNoSlash s.id) policy.statements) where
  own-plain : (ss : List Statement) → AllByRecursion (λ s. HasNoSlash s.id) ss → (x : List ℕ) → In x (map (λ s. s.id) ss) → HasNoSlash x
  own-plain [] h x i = absurd i
  own-plain (s ∷ ss) h x (inl e) = subst HasNoSlash (sym e) h.0
  own-plain (s ∷ ss) h x (inr i) = own-plain ss h.1 x i

  join-ids : (cs : List (Node × Policy)) → AreDifferent (map (λ c. c.0.name) cs) → AllByRecursion IsNamedChild cs → HasNamedIds (named_join policy cs)
  join-ids cs names each = record {
    different = subst AreDifferent (sym (join-list policy cs)) (different-append (flat_map ids_in_join cs) (ids_of policy) (children-different cs names each) own.different
        (λ x i j. let m = of-child cs x i in joined-slash m.0.0.name m.2 (subst HasNoSlash m.3 (own-plain policy.statements plain x j))));
    no_default = λ i. by (in_append (flat_map ids_in_join cs) (ids_of policy) default_id (subst (In default_id) (join-list policy cs) i));
  }
    where
      by : In default_id (flat_map ids_in_join cs) ⊎ In default_id (ids_of policy) → ⊥
      by (inl i) = let m = of-child cs default_id i in joined-slash m.0.0.name m.2 (subst HasNoSlash m.3 default-no_slash)
      by (inr i) = own.no_default i

  composed-ids : (cs : List (Node × Policy)) → AreDifferent (map (λ c. c.0.name) cs) → AllByRecursion IsNamedChild cs → HasNamedIds (composed_with policy cs)
  composed-ids [] names each = own
  composed-ids (c ∷ cs) names each = join-ids (c ∷ cs) names each

-- The ids of the nodes of a tree.

node-ids : (node : Node) → IsTreeNode node → HasNamedIds node.policy
node-ids node h = record { different = h.expanded.ids; no_default = none node.policy.statements h.ids }
  where
    none : (ss : List Statement) → AllByRecursion (λ s. HasNoSlash s.id × (s.id ≢ default_id)) ss → In default_id (map (λ s. s.id) ss) → ⊥
    none [] h i = i
    none (s ∷ ss) h (inl e) = h.0.1 (sym e)
    none (s ∷ ss) h (inr i) = none ss h.1 i

node-plain : (ss : List Statement) → AllByRecursion (λ s. HasNoSlash s.id × (s.id ≢ default_id)) ss → AllByRecursion (λ s. HasNoSlash s.id) ss
node-plain [] h = tt
node-plain (s ∷ ss) h = (h.0.0, node-plain ss h.1)

children-named : (k : ℕ) (ns : List Node) (ps : List Policy) → AllByRecursion IsTreeNode ns → AllByRecursion HasNamedIds ps → AllByRecursion IsNamedChild (children_with ns ps k)
children-named k [] ps h i = tt
children-named k (n ∷ ns) [] h i = tt
children-named k (n ∷ ns) (p ∷ ps) h i = by (has_parent k n) (children-named k ns ps h.1 i.1)
  where
    by : (b : Bool) → AllByRecursion IsNamedChild (children_with ns ps k) → AllByRecursion IsNamedChild (cond b ((n, p) ∷ children_with ns ps k) (children_with ns ps k))
    by true r = ((h.0.name, i.0), r)
    by false r = r

children-names : (k : ℕ) (ns : List Node) (ps : List Policy) → AreDifferent (map (λ n. n.name) ns) → AreDifferent (map (λ c. c.0.name) (children_with ns ps k))
children-names k [] ps d = tt
children-names k (n ∷ ns) [] d = tt
children-names k (n ∷ ns) (p ∷ ps) d = by (has_parent k n) (children-names k ns ps d.1)
  where
    others : (ms : List Node) (qs : List Policy) → AllByRecursion (λ m. n.name ≢ m) (map (λ m. m.name) ms) → AllByRecursion (λ m. n.name ≢ m) (map (λ c. c.0.name) (children_with ms qs k))
    others [] qs h = tt
    others (m ∷ ms) [] h = tt
    others (m ∷ ms) (q ∷ qs) h = at (has_parent k m) (others ms qs h.1)
      where
        at : (b : Bool) → AllByRecursion (λ x. n.name ≢ x) (map (λ c. c.0.name) (children_with ms qs k)) → AllByRecursion (λ x. n.name ≢ x) (map (λ (c : Node × Policy). c.0.name) (cond b ((m, q) ∷ children_with ms qs k) (children_with ms qs k)))
        at true r = (h.0, r)
        at false r = r

    by : (b : Bool) → AreDifferent (map (λ c. c.0.name) (children_with ns ps k)) → AreDifferent (map (λ (c : Node × Policy). c.0.name) (cond b ((n, p) ∷ children_with ns ps k) (children_with ns ps k)))
    by true r = (others ns ps d.0, r)
    by false r = r

ids-from : (i : ℕ) (ns : List Node) (ps : List Policy) → AreFrom i ns ps → AllByRecursion IsTreeNode ns → AreDifferent (map (λ n. n.name) ns) → AllByRecursion HasNamedIds ps
ids-from i [] [] are each names = tt
ids-from i [] (p ∷ ps) are each names = let e = are.as_many in let no : ⊥ = omega arith in absurd no
ids-from i (n ∷ ns) [] are each names = tt
ids-from i (n ∷ ns) (p ∷ ps) are each names =
    let rest = ids-from (suc i) ns ps (rest-from i n p ns ps are) each.1 names.1 in (
      subst HasNamedIds (sym (first-from i n p ns ps are))
          (composed-ids n.policy (node-ids n each.0) (node-plain n.policy.statements each.0.ids) (children_with ns ps i) (children-names i ns ps names.1) (children-named i ns ps each.1 rest)),
      rest,
    )

-- what is joined at a node of a tree
pub joined-different : (nodes : List Node) → IsNamedTree nodes → (ps : List Policy) → AreNamedCompositions nodes ps → (k : ℕ) (node : Node) → IsTreeNode node →
    AreDifferent (map (λ r. r.statement.id) (rated_join (rated_policy node.policy) (map rated_child (children_with nodes ps k))).statements)
joined-different nodes tree ps are k node is =
    let children = children_with nodes ps k in
    let joined = join-ids node.policy (node-ids node is) (node-plain node.policy.statements is.ids) children (children-names k nodes ps tree.names) (children-named k nodes ps tree.each (ids-from 0 nodes ps (whole-from nodes tree ps are) tree.each tree.names)) in
    subst AreDifferent (sym (joined-ids node.policy children)) joined.different
