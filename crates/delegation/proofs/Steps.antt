-- One step of a loop over the nodes of a tree, or over the statements of a policy.
use Rattle.std.proofs.Common.{◌≡◌, ℕ, zero, suc, ◌+◌, ◌<◌, Bool, true, false, cond, List, [], ◌∷◌, ◌++◌, length, map, filter, take, get_or, None, refl, sym, ◌∙◌, ap, ap₂, arith}
use Rattle.std.specs.List.{enumerate_from, flat_map}
use Rattle.std.proofs.lemmas.List.{take_more, map-append}
use Rattle.std.proofs.lemmas.Grind.{flat_map-append}
use Rattle.merlin_model.specs.declared.policy.Term.{Term}
use Rattle.policy_expansion.specs.declared.policy.Statement.{Statement}
use Rattle.policy_expansion.specs.declared.policy.Policy.{Policy}
use Rattle.policy_check.specs.Rules.{listed_ids}
use Rattle.localise.specs.declared.localising.Rates.{Rates}
use Rattle.localise.specs.Localised.{max_for, min_for, localised}
use Rattle.delegation.specs.declared.node.Node.{Node}
use Rattle.delegation.specs.declared.rating.RatedStatement.{RatedStatement}
use Rattle.delegation.specs.declared.rating.RatedPolicy.{RatedPolicy}
use Rattle.delegation.specs.NamedJoins.{rated_statement, statements_of_child, statement_elsewhere, rated_join}
use Rattle.delegation.specs.NamedTrees.{has_parent, children_with, numbers_under, scopes_under}

-- what stands at a place in a list that is made of another
at-place : {X Y Z : Type 0} (f : X → Y) (g : Y → Z) (xs : List X) (k : ℕ) (x : X) (d : Z) → k < length xs → x ≡ get_or xs k x → get_or (map g (map f xs)) k d ≡ g (f x)
at-place f g [] k x d l e = let no : ⊥ = omega arith in absurd no
at-place f g (y ∷ xs) zero x d l e = ap (λ z. g (f z)) (sym e)
at-place f g (y ∷ xs) (suc k) x d l e = at-place f g xs k x d (omega arith) e

-- the rates of the statement at a place
pub rates-at : (terms : List Term) (ss : List Statement) (k : ℕ) (s : Statement) → k < length ss → s ≡ get_or ss k s →
    record { statement = s; cap = get_or (map (max_for terms) (map (λ s. s.id) ss)) k None; guarantee = get_or (map (min_for terms) (map (λ s. s.id) ss)) k 0 } ≡ rated_statement terms s
rates-at terms ss k s l e = ap₂ (λ cap guarantee. record { statement = s; cap = cap; guarantee = guarantee }) (at-place (λ s. s.id) (max_for terms) ss k s None l e) (at-place (λ s. s.id) (min_for terms) ss k s 0 l e)

-- one more node: it is one more child, or not
pub children-more : {P : Type 0} (place : ℕ) (nodes : List Node) (ps : List P) (k : ℕ) (n : Node) (p : P) → k < length nodes → k < length ps → n ≡ get_or nodes k n → p ≡ get_or ps k p →
    children_with (take (suc k) nodes) (take (suc k) ps) place ≡ children_with (take k nodes) (take k ps) place ++ cond (has_parent place n) ((n, p) ∷ []) []
children-more place [] ps k n p l m e f = let no : ⊥ = omega arith in absurd no
children-more place (x ∷ nodes) [] k n p l m e f = let no : ⊥ = omega arith in absurd no
children-more place (x ∷ nodes) (y ∷ ps) zero n p l m e f = ap₂ (λ a b. cond (has_parent place a) ((a, b) ∷ []) []) (sym e) (sym f)
children-more {P} place (x ∷ nodes) (y ∷ ps) (suc k) n p l m e f = by (has_parent place x) (children-more place nodes ps k n p (omega arith) (omega arith) e f)
  where
    by : (b : Bool) → children_with (take (suc k) nodes) (take (suc k) ps) place ≡ children_with (take k nodes) (take k ps) place ++ cond (has_parent place n) ((n, p) ∷ []) [] →
        cond b ((x, y) ∷ children_with (take (suc k) nodes) (take (suc k) ps) place) (children_with (take (suc k) nodes) (take (suc k) ps) place)
        ≡ cond b ((x, y) ∷ children_with (take k nodes) (take k ps) place) (children_with (take k nodes) (take k ps) place) ++ cond (has_parent place n) ((n, p) ∷ []) []
    by true ih = ap (λ l. (x, y) ∷ l) ih
    by false ih = ih

numbers-from : ℕ → ℕ → List Node → List ℕ
numbers-from place i nodes = map (λ n. n.0) (filter (λ n. has_parent place n.1) (enumerate_from i nodes))

numbers-more-from : (place i : ℕ) (nodes : List Node) (k : ℕ) (n : Node) → k < length nodes → n ≡ get_or nodes k n →
    numbers-from place i (take (suc k) nodes) ≡ numbers-from place i (take k nodes) ++ cond (has_parent place n) ((i + k) ∷ []) []
unfolding numbers-from
numbers-more-from place i [] k n l e = let no : ⊥ = omega arith in absurd no
numbers-more-from place i (x ∷ nodes) zero n l e = ap (λ (m : Node). map (λ (m : ℕ × Node). m.0) (cond (has_parent place m) ((i, x) ∷ []) [])) (sym e) ∙ by (has_parent place n)
  where
    by : (b : Bool) → map (λ (m : ℕ × Node). m.0) (cond b ((i, x) ∷ []) []) ≡ cond b ((i + 0) ∷ []) []
    by true = let z : i ≡ i + 0 = omega arith in ap (λ j. j ∷ []) z
    by false = refl
numbers-more-from place i (x ∷ nodes) (suc k) n l e = by (has_parent place x) (numbers-more-from place (i + 1) nodes k n (omega arith) e)
  where
    same : cond (has_parent place n) (((i + 1) + k) ∷ []) [] ≡ cond (has_parent place n) ((i + suc k) ∷ []) []
    same = ap (λ j. cond (has_parent place n) (j ∷ []) []) (let z : (i + 1) + k ≡ i + suc k = omega arith in z)

    by : (b : Bool) → map (λ (m : ℕ × Node). m.0) (filter (λ n. has_parent place n.1) (enumerate_from (i + 1) (take (suc k) nodes))) ≡ map (λ (m : ℕ × Node). m.0) (filter (λ n. has_parent place n.1) (enumerate_from (i + 1) (take k nodes))) ++ cond (has_parent place n) (((i + 1) + k) ∷ []) [] →
        map (λ (m : ℕ × Node). m.0) (cond b ((i, x) ∷ filter (λ n. has_parent place n.1) (enumerate_from (i + 1) (take (suc k) nodes))) (filter (λ n. has_parent place n.1) (enumerate_from (i + 1) (take (suc k) nodes))))
        ≡ map (λ (m : ℕ × Node). m.0) (cond b ((i, x) ∷ filter (λ n. has_parent place n.1) (enumerate_from (i + 1) (take k nodes))) (filter (λ n. has_parent place n.1) (enumerate_from (i + 1) (take k nodes)))) ++ cond (has_parent place n) ((i + suc k) ∷ []) []
    by true ih = ap (λ l. i ∷ l) (ih ∙ ap (λ l. map (λ (m : ℕ × Node). m.0) (filter (λ n. has_parent place n.1) (enumerate_from (i + 1) (take k nodes))) ++ l) same)
    by false ih = ih ∙ ap (λ l. map (λ (m : ℕ × Node). m.0) (filter (λ n. has_parent place n.1) (enumerate_from (i + 1) (take k nodes))) ++ l) same

pub numbers-more : (place : ℕ) (nodes : List Node) (k : ℕ) (n : Node) → k < length nodes → n ≡ get_or nodes k n →
    numbers_under (take (k + 1) nodes) place ≡ numbers_under (take k nodes) place ++ cond (has_parent place n) (k ∷ []) []
unfolding numbers-from
numbers-more place nodes k n l e =
    ap (λ m. numbers_under (take m nodes) place) (let z : k + 1 ≡ suc k = omega arith in z) ∙ numbers-more-from place 0 nodes k n l e
    ∙ ap (λ j. numbers_under (take k nodes) place ++ cond (has_parent place n) (j ∷ []) []) (let z : 0 + k ≡ k = omega arith in z)

pub joined-more : (place : ℕ) (nodes : List Node) (ps : List RatedPolicy) (k : ℕ) (n : Node) (p : RatedPolicy) → k < length nodes → length ps ≡ length nodes → n ≡ get_or nodes k n → p ≡ get_or ps k p →
    flat_map statements_of_child (children_with (take (k + 1) nodes) (take (k + 1) ps) place)
    ≡ flat_map statements_of_child (children_with (take k nodes) (take k ps) place) ++ flat_map statements_of_child (cond (has_parent place n) ((n, p) ∷ []) [])
joined-more place nodes ps k n p l m e f =
    ap (λ j. flat_map statements_of_child (children_with (take j nodes) (take j ps) place)) (let z : k + 1 ≡ suc k = omega arith in z)
    ∙ ap (flat_map statements_of_child) (children-more place nodes ps k n p l (omega arith) e f) ∙ flat_map-append statements_of_child (children_with (take k nodes) (take k ps) place) (cond (has_parent place n) ((n, p) ∷ []) [])

-- the scopes of the children, however they are listed
pub scopes-same : {P : Type 0} (place : ℕ) (nodes : List Node) (ps : List P) → length ps ≡ length nodes → map (λ c. c.0.scope) (children_with nodes ps place) ≡ scopes_under nodes place
scopes-same place [] ps l = refl
scopes-same place (n ∷ nodes) [] l = let no : ⊥ = omega arith in absurd no
scopes-same {P} place (n ∷ nodes) (p ∷ ps) l = by (has_parent place n) (scopes-same place nodes ps (omega arith))
  where
    by : (b : Bool) → map (λ (c : Node × P). c.0.scope) (children_with nodes ps place) ≡ scopes_under nodes place →
        map (λ (c : Node × P). c.0.scope) (cond b ((n, p) ∷ children_with nodes ps place) (children_with nodes ps place)) ≡ map (λ n. n.scope) (cond b (n ∷ filter (has_parent place) nodes) (filter (has_parent place) nodes))
    by true ih = ap (λ l. n.scope ∷ l) ih
    by false ih = ih

-- the join, with the scopes as they are listed
pub join-same : (place : ℕ) (nodes : List Node) (ps : List RatedPolicy) (own : RatedPolicy) → length ps ≡ length nodes →
    flat_map statements_of_child (children_with nodes ps place) ++ map (statement_elsewhere (scopes_under nodes place)) own.statements ≡ (rated_join own (children_with nodes ps place)).statements
join-same place nodes ps own l = ap (λ scopes. flat_map statements_of_child (children_with nodes ps place) ++ map (statement_elsewhere scopes) own.statements) (sym (scopes-same place nodes ps l))

-- one more statement with its rates
pub rated-more : (policy : Policy) (rates : Rates) (k : ℕ) (s : Statement) (x : RatedStatement) (old new : List RatedStatement) → rates ≡ localised policy.formula.terms (listed_ids policy) → k < length policy.statements → s ≡ get_or policy.statements k s →
    x ≡ record { statement = s; cap = get_or rates.max k None; guarantee = get_or rates.min k 0 } → old ≡ map (rated_statement policy.formula.terms) (take k policy.statements) → new ≡ old ++ x ∷ [] →
    new ≡ map (rated_statement policy.formula.terms) (take (k + 1) policy.statements)
rated-more policy rates k s x old new r l e f o n =
    n ∙ ap₂ (λ (a : List RatedStatement) (y : RatedStatement). a ++ y ∷ []) o
    (f ∙ ap (λ (q : Rates). record { statement = s; cap = get_or q.max k None; guarantee = get_or q.min k 0 }) r ∙ rates-at policy.formula.terms policy.statements k s l e)
    ∙ sym (ap (map (rated_statement policy.formula.terms)) (take_more policy.statements k s l) ∙ map-append (rated_statement policy.formula.terms) (take k policy.statements) (get_or policy.statements k s ∷ [])
    ∙ ap (λ z. map (rated_statement policy.formula.terms) (take k policy.statements) ++ rated_statement policy.formula.terms z ∷ []) (sym e))
