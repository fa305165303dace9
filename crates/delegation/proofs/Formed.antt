-- Joins and localised forms are policies that may be checked: few statements, ids that differ, and values in their ranges.
use Rattle.std.proofs.Common.{◌≡◌, ◌≢◌, ◌≤◌, ℕ, suc, nat_lt, Bool, true, false, cond, List, [], ◌∷◌, map, Option, None, Some, option_map, unwrap_or, slice_get, sum_by, refl, sym, ◌∙◌, ap, subst, arith}
use Rattle.std.specs.List.{AllByRecursion, flat_map}
use Rattle.std.specs.Option.{option_map_or, option_to_list}
use Rattle.std.proofs.lemmas.Option.{slice_get-map}
use Rattle.merlin_model.specs.declared.limits.TheConstants.{MAX_RATE}
use Rattle.merlin_model.specs.declared.policy.Bound.{Bound}
use Rattle.merlin_model.specs.declared.policy.Bound.TheVariants.{Max, Min}
use Rattle.merlin_model.specs.declared.policy.Pred.{Not, AnyOf}
use Rattle.merlin_model.specs.declared.policy.Symbol.{Symbol}
use Rattle.merlin_model.specs.Networks.{Network, AreDifferent}
use Rattle.merlin_model.specs.Policies.{Policy as NumberedPolicy}
use Rattle.merlin_model.specs.Predicates.{IsPred}
use Rattle.merlin_model.specs.Rates.{least_of, greatest_of, max_shares, min_shares, max_of, min_of}
use Rattle.merlin_model.proofs.Members.{all_both}
use Rattle.predicate_split.proofs.Starting.{all_formed, none_formed}
use Rattle.localise.specs.Localised.{max_for, min_for}
use Rattle.localise.proofs.Keeping.{room}
use Rattle.policy_grammar.specs.declared.written.RawPath.{RawPath}
use Rattle.policy_expansion.specs.declared.limits.TheConstants.{MAX_STATEMENTS}
use Rattle.policy_expansion.specs.declared.policy.Statement.{Statement}
use Rattle.policy_expansion.specs.declared.policy.Policy.{Policy}
use Rattle.policy_expansion.specs.Kept.{IsTerm, IsExpanded, IsWellFormed}
use Rattle.policy_check.specs.Numbered.{numbered_statement, numbered_policy}
use Rattle.policy_check.specs.Rules.{KeepsAllRules}
use Rattle.policy_check.specs.Checked.{IsSoundPolicy}
use Rattle.policy_check.proofs.Small.{small-caps, small-guarantees}
use Rattle.policy_check.proofs.Sound.{sound}
use Rattle.refinement_model.specs.Localised.{localised_term}
use Rattle.refinement_model.specs.Delegation.{Child, HasNoSlash, HasIds, IsPlain, HasStatementForEach, HaveDisjointScopes, AreChildren}
use Rattle.refinement_model.proofs.Names.{join-has_ids}
use Rattle.delegation.specs.declared.node.Node.{Node}
use Rattle.delegation.specs.declared.rating.RatedStatement.{RatedStatement}
use Rattle.delegation.specs.declared.rating.RatedPolicy.{RatedPolicy}
use Rattle.delegation.specs.NamedJoins.{rated_statement, rated_policy, rate_terms, written_policy, default_as_statement, statements_and_default, statement_in_scope, statements_of_child, statement_elsewhere, rated_join, rated_child}
use Rattle.delegation.specs.NamedTrees.{IsTreeNode, IsNamedTree, has_parent, children_with, own_policies, own_join, statement_count, composed_with}
use Rattle.delegation.specs.TreeRules.{KeepsOwnRules, IsSoAtEach, HasSoundSizes}
use Rattle.delegation.proofs.Own.{all-at}
use Rattle.delegation.proofs.Numbered.{numbered_child, numbered-join}
use Rattle.delegation.proofs.Compositions.{from, compositions-are, composed-count, join-count, under-cons}
use Rattle.delegation.proofs.Acceptance.{None-Some, each-mapped, mapped-all, map-twice, plain-of, own-children, tree-of}

-- a statement with a well-formed predicate and rates within their limit
pub record IsInRange (r : RatedStatement) : Type 0 where
  pub pred : IsPred r.statement.pred
  pub cap : (cap : ℕ) → r.cap ≡ Some cap → cap ≤ MAX_RATE
  pub guarantee : r.guarantee ≤ MAX_RATE

abbrev AreInRange : List RatedStatement → Type 0
AreInRange rs = AllByRecursion IsInRange rs

-- What is written.

term-formed : (bound : Bound) (id : List ℕ) (rate : ℕ) → rate ≤ MAX_RATE → IsTerm (localised_term bound id rate)
term-formed bound id rate small = ((λ e. some id e), (tt, tt), small)
  where
    some : (id : List ℕ) → id ∷ [] ≡ [] → ⊥
    some id e = cc

terms-formed : (r : RatedStatement) → IsInRange r → AllByRecursion IsTerm (rate_terms r)
terms-formed r h = all_both IsTerm (option_to_list (option_map (localised_term Max r.statement.id) r.cap)) (cond (nat_lt 0 r.guarantee) (localised_term Min r.statement.id r.guarantee ∷ []) []) (caps r.cap refl) (guarantees (nat_lt 0 r.guarantee))
  where
    caps : (o : Option ℕ) → r.cap ≡ o → AllByRecursion IsTerm (option_to_list (option_map (localised_term Max r.statement.id) o))
    caps None e = tt
    caps (Some cap) e = (term-formed Max r.statement.id cap (h.cap cap e), tt)

    guarantees : (b : Bool) → AllByRecursion IsTerm (cond b (localised_term Min r.statement.id r.guarantee ∷ []) [])
    guarantees true = (term-formed Min r.statement.id r.guarantee h.guarantee, tt)
    guarantees false = tt

pub flat-all : {X Y : Type 0} (g : X → List Y) (P : Y → Type 0) (xs : List X) → AllByRecursion (λ x. AllByRecursion P (g x)) xs → AllByRecursion P (flat_map g xs)
flat-all g P [] h = tt
flat-all g P (x ∷ xs) h = all_both P (g x) (flat_map g xs) h.0 (flat-all g P xs h.1)

each-of : {X : Type 0} (P Q : X → Type 0) → ((x : X) → P x → Q x) → (xs : List X) → AllByRecursion P xs → AllByRecursion Q xs
each-of P Q f [] h = tt
each-of P Q f (x ∷ xs) h = (f x h.0, each-of P Q f xs h.1)

pub written-formed : (rated : RatedPolicy) → AreInRange rated.statements → IsWellFormed (written_policy rated)
written-formed rated h = record {
  preds = mapped-all (λ (r : RatedStatement). r.statement) (λ s. IsPred s.pred) IsInRange (λ r i. i.pred) rated.statements h;
  terms = flat-all rate_terms IsTerm rated.statements (each-of IsInRange (λ r. AllByRecursion IsTerm (rate_terms r)) terms-formed rated.statements h);
}

-- A policy that keeps all rules, with its localised rates.
module _ (net : Network) where
  pub own-sound : (symbols : List Symbol) (raw : Policy) → IsExpanded raw → IsWellFormed raw → KeepsAllRules net symbols raw → IsSoundPolicy (numbered_policy net raw)
  own-sound symbols raw expanded formed keeps = sound net raw expanded formed keeps.rated.covering.apart.preds.apart keeps.rated.covering.total keeps.rated.rates room

  pub most-at : (raw : Policy) (i : ℕ) (s : Statement) → slice_get raw.statements i ≡ Some s → max_of (numbered_policy net raw) i ≡ max_for raw.formula.terms s.id
  most-at raw i s e = ap (λ o. option_map_or (λ s. least_of (max_shares s.id raw.formula.terms)) o None) (slice_get-map (numbered_statement net) raw.statements i ∙ ap (option_map (numbered_statement net)) e)

  pub least-at : (raw : Policy) (i : ℕ) (s : Statement) → slice_get raw.statements i ≡ Some s → min_of (numbered_policy net raw) i ≡ min_for raw.formula.terms s.id
  least-at raw i s e = ap (λ o. option_map_or (λ s. greatest_of (min_shares s.id raw.formula.terms)) o 0) (slice_get-map (numbered_statement net) raw.statements i ∙ ap (option_map (numbered_statement net)) e)

  pub own-in-range : (raw : Policy) → IsWellFormed raw → IsSoundPolicy (numbered_policy net raw) → AreInRange (rated_policy raw).statements
  own-in-range raw formed is = each-mapped (rated_statement raw.formula.terms) IsInRange raw.statements (λ i s e. record {
    pred = all-at (λ s. IsPred s.pred) raw.statements i s formed.preds e;
    cap = λ cap f. small-caps (numbered_policy net raw) i cap is (most-at raw i s e ∙ f);
    guarantee = subst (λ n. n ≤ MAX_RATE) (least-at raw i s e) (small-guarantees (numbered_policy net raw) i is);
  })

-- Joins.

default-in-range : (policy : RatedPolicy) → AreInRange policy.statements → AreInRange (statements_and_default policy)
default-in-range policy h = all_both IsInRange policy.statements (option_to_list (option_map (default_as_statement policy) policy.default_path)) h (by policy.default_path)
  where
    by : (o : Option RawPath) → AreInRange (option_to_list (option_map (default_as_statement policy) o))
    by None = tt
    by (Some path) = (
      record {
        pred = none_formed (map (λ r. r.statement.pred) policy.statements) (mapped-all (λ (r : RatedStatement). r.statement.pred) IsPred IsInRange (λ r i. i.pred) policy.statements h);
        cap = λ cap e. absurd (None-Some e);
        guarantee = omega arith;
      },
      tt,
    )

abbrev IsChildInRange : Node × RatedPolicy → Type 0
IsChildInRange c = IsPred c.0.scope × AreInRange c.1.statements

child-in-range : (c : Node × RatedPolicy) → IsChildInRange c → AreInRange (statements_of_child c)
child-in-range c h = mapped-all (statement_in_scope c.0) IsInRange IsInRange (λ r i. record {
  pred = all_formed (c.0.scope ∷ r.statement.pred ∷ []) (h.0, (i.pred, tt));
  cap = i.cap;
  guarantee = i.guarantee;
}) (statements_and_default c.1) (default-in-range c.1 h.1)

join-in-range : (own : RatedPolicy) (cs : List (Node × RatedPolicy)) → AreInRange own.statements → AllByRecursion IsChildInRange cs → AreInRange (rated_join own cs).statements
join-in-range own cs h all =
    let scopes = map (λ (c : Node × RatedPolicy). c.0.scope) cs in
    let none : IsPred (Not (AnyOf scopes)) = none_formed scopes (mapped-all (λ (c : Node × RatedPolicy). c.0.scope) IsPred IsChildInRange (λ c i. i.0) cs all) in
    all_both IsInRange (flat_map statements_of_child cs) (map (statement_elsewhere scopes) own.statements)
    (flat-all statements_of_child IsInRange cs (each-of IsChildInRange (λ c. AreInRange (statements_of_child c)) child-in-range cs all))
    (mapped-all (statement_elsewhere scopes) IsInRange IsInRange (λ r i. record { pred = all_formed (r.statement.pred ∷ Not (AnyOf scopes) ∷ []) (i.pred, (none, tt)); cap = i.cap; guarantee = i.guarantee }) own.statements h)

-- what holds of each node holds of each child with its own policy
children-all : (k : ℕ) (P : Node × Policy → Type 0) (nodes : List Node) → AllByRecursion (λ n. P (n, n.policy)) nodes → AllByRecursion P (children_with nodes (own_policies nodes) k)
children-all k P [] h = tt
children-all k P (n ∷ nodes) h = by (has_parent k n) (children-all k P nodes h.1)
  where
    by : (b : Bool) → AllByRecursion P (children_with nodes (own_policies nodes) k) →
        AllByRecursion P (cond b ((n, n.policy) ∷ children_with nodes (own_policies nodes) k) (children_with nodes (own_policies nodes) k))
    by true r = (h.0, r)
    by false r = r

-- the children with their rates
pub children-rated : (k : ℕ) (nodes : List Node) → children_with nodes (map (λ n. rated_policy n.policy) nodes) k ≡ map rated_child (children_with nodes (own_policies nodes) k)
children-rated k [] = refl
children-rated k (n ∷ nodes) = by (has_parent k n) (children-rated k nodes)
  where
    by : (b : Bool) → children_with nodes (map (λ n. rated_policy n.policy) nodes) k ≡ map rated_child (children_with nodes (own_policies nodes) k) →
        cond b ((n, rated_policy n.policy) ∷ children_with nodes (map (λ n. rated_policy n.policy) nodes) k) (children_with nodes (map (λ n. rated_policy n.policy) nodes) k)
        ≡ map rated_child (cond b ((n, n.policy) ∷ children_with nodes (own_policies nodes) k) (children_with nodes (own_policies nodes) k))
    by true ih = ap (λ l. (n, rated_policy n.policy) ∷ l) ih
    by false ih = ih

children-names : (net : Network) (k : ℕ) (nodes : List Node) → AreDifferent (map (λ n. n.name) nodes) → AreDifferent (map (λ c. c.name) (map (numbered_child net) (children_with nodes (own_policies nodes) k)))
children-names net k [] d = tt
children-names net k (n ∷ nodes) d = by (has_parent k n) (children-names net k nodes d.1)
  where
    names : List (Node × Policy) → List (List ℕ)
    names cs = map (λ (c : Child). c.name) (map (numbered_child net) cs)

    unlike : (ns : List Node) → AllByRecursion (λ m. n.name ≢ m) (map (λ n. n.name) ns) → AllByRecursion (λ m. n.name ≢ m) (map (λ c. c.name) (map (numbered_child net) (children_with ns (own_policies ns) k)))
    unlike [] h = tt
    unlike (m ∷ ns) h = at (has_parent k m) (unlike ns h.1)
      where
        at : (b : Bool) → AllByRecursion (λ x. n.name ≢ x) (map (λ c. c.name) (map (numbered_child net) (children_with ns (own_policies ns) k))) →
            AllByRecursion (λ x. n.name ≢ x) (map (λ c. c.name) (map (numbered_child net) (cond b ((m, m.policy) ∷ children_with ns (own_policies ns) k) (children_with ns (own_policies ns) k))))
        at true r = (h.0, r)
        at false r = r

    by : (b : Bool) → AreDifferent (map (λ c. c.name) (map (numbered_child net) (children_with nodes (own_policies nodes) k))) →
        AreDifferent (map (λ c. c.name) (map (numbered_child net) (cond b ((n, n.policy) ∷ children_with nodes (own_policies nodes) k) (children_with nodes (own_policies nodes) k))))
    by true r = (unlike nodes d.0, r)
    by false r = r

-- The children have no more statements in their own policies than in their compositions.
under-least : (k : ℕ) (ns : List Node) (ps : List Policy) → ((j : ℕ) (n : Node) → slice_get ns j ≡ Some n → (p : Policy) × (slice_get ps j ≡ Some p) × (statement_count n.policy ≤ statement_count p)) →
    sum_by (λ c. statement_count c.1) (children_with ns (own_policies ns) k) ≤ sum_by (λ c. statement_count c.1) (children_with ns ps k)
under-least k [] ps h = omega arith
under-least k (n ∷ ns) [] h = let q = h 0 n refl in absurd (None-Some q.1)
under-least k (n ∷ ns) (p ∷ ps) h =
    let q = h 0 n refl in
    let first : statement_count n.policy ≤ statement_count p = subst (λ (m : Policy). statement_count n.policy ≤ statement_count m) (sym (ap (λ o. unwrap_or o p) q.1)) q.2 in
    let a = under-cons k n n.policy ns (own_policies ns) in
    let b = under-cons k n p ns ps in
    let rest = under-least k ns ps (λ j m e. h (suc j) m e) in
    let here = by (has_parent k n) (statement_count n.policy) (statement_count p) first in
    omega (arith, a, b, rest, here)
  where
    by : (b : Bool) (x y : ℕ) → x ≤ y → cond b x 0 ≤ cond b y 0
    by true x y l = l
    by false x y l = omega arith

module _ (net : Network) (symbols : List Symbol) (nodes : List Node) (tree : IsNamedTree nodes) where
  node-at : (k : ℕ) (n : Node) → slice_get nodes k ≡ Some n → IsTreeNode n
  node-at k n e = all-at IsTreeNode nodes k n tree.each e

  sound-at : IsSoAtEach nodes (KeepsOwnRules net symbols nodes) → (k : ℕ) (n : Node) → slice_get nodes k ≡ Some n → IsSoundPolicy (numbered_policy net n.policy)
  sound-at own k n e = own-sound net symbols n.policy (node-at k n e).expanded (node-at k n e).formed (own k n e)

  -- what is shown at each place holds of all
  all-from : (P : Node → Type 0) (ns : List Node) → ((k : ℕ) (n : Node) → slice_get ns k ≡ Some n → P n) → AllByRecursion P ns
  all-from P [] h = tt
  all-from P (n ∷ ns) h = (h 0 n refl, all-from P ns (λ k m e. h (suc k) m e))

  module _ (is : HasSoundSizes net symbols nodes) where
    own : IsSoAtEach nodes (KeepsOwnRules net symbols nodes)
    own = is.parts.scopes.own

    plain-at : (k : ℕ) (n : Node) → slice_get nodes k ≡ Some n → IsPlain (numbered_policy net n.policy)
    plain-at k n e = plain-of net n (node-at k n e) (sound-at own k n e)

    are-children : (k : ℕ) → AreChildren (map (numbered_child net) (children_with nodes (own_policies nodes) k))
    are-children k = record {
      names = children-names net k nodes tree.names;
      no_slash = mapped-all (numbered_child net) (λ c. HasNoSlash c.name) (λ c. HasNoSlash c.0.name) (λ c h. h) cs (children-all k (λ c. HasNoSlash c.0.name) nodes (all-from (λ n. HasNoSlash n.name) nodes (λ j n e. (node-at j n e).name)));
      ids = mapped-all (numbered_child net) (λ c. HasIds c.policy) (λ c. IsPlain (numbered_policy net c.1)) (λ c h. h.ids) cs plain;
      total = mapped-all (numbered_child net) (λ c. HasStatementForEach c.policy) (λ c. IsPlain (numbered_policy net c.1)) (λ c h. h.total) cs plain;
      apart = subst HaveDisjointScopes (own-children net nodes tree k) ((tree-of net nodes tree (sound-at own) is.parts.apart).scopes k);
    }
      where
        cs : List (Node × Policy)
        cs = children_with nodes (own_policies nodes) k

        plain : AllByRecursion (λ c. IsPlain (numbered_policy net c.1)) cs
        plain = children-all k (λ c. IsPlain (numbered_policy net c.1)) nodes (all-from (λ n. IsPlain (numbered_policy net n.policy)) nodes plain-at)

    module _ (k : ℕ) (n : Node) (e : slice_get nodes k ≡ Some n) where
      join-few : statement_count (own_join nodes k n) ≤ MAX_STATEMENTS
      join-few =
          let all = from 0 nodes in
          let are = compositions-are nodes tree in
          let cs = children_with nodes all k in
          let small = is.few k n e (composed_with n.policy cs) (record { all = all; are = are; stands = are.each k n e }) in
          let whole = composed-count n.policy cs in
          let own = join-count n.policy (children_with nodes (own_policies nodes) k) in
          let under = under-least k nodes all (λ j m f. (composed_with m.policy (children_with nodes all j), are.each j m f, more m (children_with nodes all j))) in
          omega (arith, small, whole, own, under)
        where
          more : (m : Node) (cs : List (Node × Policy)) → statement_count m.policy ≤ statement_count (composed_with m.policy cs)
          more m cs = let count = composed-count m.policy cs in omega (arith, count)

      join-ids : AreDifferent (map (λ s. s.id) (own_join nodes k n).statements)
      join-ids = subst AreDifferent (map-twice (numbered_statement net) (λ s. s.id) (λ s. s.id) (λ s. refl) (own_join nodes k n).statements)
          (subst (λ (p : NumberedPolicy). AreDifferent (map (λ s. s.id) p.statements)) (sym (numbered-join net n.policy (children_with nodes (own_policies nodes) k)))
          (join-has_ids (numbered_policy net n.policy) (map (numbered_child net) (children_with nodes (own_policies nodes) k)) (plain-at k n e) (are-children k)).different)

      pub join-expanded : IsExpanded (own_join nodes k n)
      join-expanded = record { few = join-few; ids = join-ids }

      pub join-formed : IsWellFormed (own_join nodes k n)
      join-formed = written-formed (rated_join (rated_policy n.policy) (map rated_child (children_with nodes (own_policies nodes) k)))
          (join-in-range (rated_policy n.policy) (map rated_child (children_with nodes (own_policies nodes) k)) (own-in-range net n.policy (node-at k n e).formed (sound-at own k n e))
          (mapped-all rated_child IsChildInRange (λ c. IsChildInRange (rated_child c)) (λ c h. h) (children_with nodes (own_policies nodes) k)
          (children-all k (λ c. IsChildInRange (rated_child c)) nodes (all-from (λ m. IsChildInRange (m, rated_policy m.policy)) nodes (λ j m f. ((node-at j m f).scope, own-in-range net m.policy (node-at j m f).formed (sound-at own j m f)))))))
