-- The nodes that the entries of a tree stand for are a tree whose policies may be checked.
use Rattle.std.proofs.Common.{ℕ, zero, suc, ◌≡◌, ◌≤◌, ◌<◌, List, [], ◌∷◌, length, map, Option, None, Some, Ok, slice_get, refl, sym, ◌∙◌, ap, ap₂, subst, arith}
use Rattle.std.specs.Prelude.{MatchOption}
use Rattle.std.specs.List.{AllByRecursion, AllZip, zip}
use Rattle.merlin_base.specs.Lexemes.{IsName}
use Rattle.merlin_model.specs.declared.policy.Pred.{Pred, Yes}
use Rattle.merlin_model.specs.Networks.{AreDifferent}
use Rattle.merlin_model.specs.Predicates.{IsPred}
use Rattle.refinement_model.specs.Delegation.{HasNoSlash}
use Rattle.policy_parser.specs.PredicateTexts.{IsPredicateText}
use Rattle.policy_parser.proofs.Formed.{parsed_formed}
use Rattle.policy_parser.proofs.PredicateOnce.{formed}
use Rattle.delegation_text.specs.declared.limits.TheConstants.{MAX_TREE_NODES}
use Rattle.delegation.specs.declared.node.Node.{Node}
use Rattle.delegation.specs.NamedTrees.{IsTreeNode, IsNamedTree}
use Rattle.delegation_text.specs.declared.entry.TreeEntry.{TreeEntry}
use Rattle.delegation_text.specs.Trees.{AreKeptEntries}
use Rattle.delegation_verdict.specs.Nodes.{IsScopeOf, IsNodeOf}
use Rattle.delegation_verdict.proofs.ParsedIds.{identifier-no_slash, parsed-ids}

scope-formed : (entry : TreeEntry) (scope : Pred) → IsScopeOf entry scope → IsPred scope
scope-formed entry scope = by entry.parent
  where
    by : (o : Option ℕ) → MatchOption o (scope ≡ Yes) (λ _. IsPredicateText entry.scope scope) → IsPred scope
    by None e = subst IsPred (sym e) tt
    by (Some k) h = formed entry.scope (Ok scope) h

node-formed : (of : TreeEntry × List ℕ) (node : Node) → IsName of.0.name → IsNodeOf of node → IsTreeNode node
node-formed of node name is =
    let parsed = parsed_formed of.1 node.policy is.policy in
    record {
      name = subst HasNoSlash (sym is.name) (identifier-no_slash of.0.name name.identifier);
      ids = parsed-ids of.1 node.policy is.policy;
      expanded = parsed.expanded;
      formed = parsed.formed;
      scope = scope-formed of.0 node.scope is.scope;
    }

-- Nodes beside the entries and texts that stand for them.

too-short : {X : Type 0} (x : TreeEntry) (xs : List TreeEntry) → length (let texts : List (List ℕ) = [] in texts) ≡ length (x ∷ xs) → X
too-short x xs e = let no : ⊥ = omega (arith, e) in absurd no

pub names-same : (es : List TreeEntry) (ts : List (List ℕ)) (ns : List Node) → length ts ≡ length es → AllZip IsNodeOf (zip es ts) ns →
    map (λ n. n.name) ns ≡ map (λ e. e.name) es
names-same [] ts [] long h = refl
names-same [] ts (n ∷ ns) long h = absurd h
names-same (e ∷ es) [] ns long h = too-short e es long
names-same (e ∷ es) (t ∷ ts) [] long h = absurd h
names-same (e ∷ es) (t ∷ ts) (n ∷ ns) long h = ap₂ (λ x xs. x ∷ xs) h.0.name (names-same es ts ns (omega (arith, long)) h.1)

pub as-many-nodes : (es : List TreeEntry) (ts : List (List ℕ)) (ns : List Node) → length ts ≡ length es → AllZip IsNodeOf (zip es ts) ns → length ns ≡ length es
as-many-nodes [] ts [] long h = refl
as-many-nodes [] ts (n ∷ ns) long h = absurd h
as-many-nodes (e ∷ es) [] ns long h = too-short e es long
as-many-nodes (e ∷ es) (t ∷ ts) [] long h = absurd h
as-many-nodes (e ∷ es) (t ∷ ts) (n ∷ ns) long h = ap suc (as-many-nodes es ts ns (omega (arith, long)) h.1)

-- what stands for the node at a place
record IsOfEntry (es : List TreeEntry) (k : ℕ) (node : Node) : Type 0 where
  entry : TreeEntry
  text : List ℕ
  stands : slice_get es k ≡ Some entry
  is : IsNodeOf (entry, text) node

no-place : {X : Type 0} (k : ℕ) (n : Node) → slice_get [] k ≡ Some n → X
no-place k n e = let no : None ≡ Some n = e in absurd (by no)
  where
    by : ◌≡◌ {A = Option Node} None (Some n) → ⊥
    by e = cc

entry-of : (es : List TreeEntry) (ts : List (List ℕ)) (ns : List Node) → AllZip IsNodeOf (zip es ts) ns → (k : ℕ) (n : Node) → slice_get ns k ≡ Some n → IsOfEntry es k n
entry-of [] ts [] h k n has = no-place k n has
entry-of [] ts (m ∷ ns) h k n has = absurd h
entry-of (e ∷ es) [] [] h k n has = no-place k n has
entry-of (e ∷ es) [] (m ∷ ns) h k n has = absurd h
entry-of (e ∷ es) (t ∷ ts) [] h k n has = absurd h
entry-of (e ∷ es) (t ∷ ts) (m ∷ ns) h zero n has =
    let same : m ≡ n = cc in
    record { entry = e; text = t; stands = refl; is = subst (IsNodeOf (e, t)) same h.0 }
entry-of (e ∷ es) (t ∷ ts) (m ∷ ns) h (suc k) n has =
    let of = entry-of es ts ns h.1 k n has in
    record { entry = of.entry; text = of.text; stands = of.stands; is = of.is }

each-formed : (es : List TreeEntry) (ts : List (List ℕ)) (ns : List Node) → AllByRecursion (λ e. IsName e.name) es → AllZip IsNodeOf (zip es ts) ns → AllByRecursion IsTreeNode ns
each-formed [] ts [] named h = tt
each-formed [] ts (n ∷ ns) named h = absurd h
each-formed (e ∷ es) [] [] named h = tt
each-formed (e ∷ es) [] (n ∷ ns) named h = absurd h
each-formed (e ∷ es) (t ∷ ts) [] named h = absurd h
each-formed (e ∷ es) (t ∷ ts) (n ∷ ns) named h = (node-formed (e, t) n named.0 h.0, each-formed es ts ns named.1 h.1)

-- Entries and texts of policies stand for the nodes of a tree.
pub named-tree : (es : List TreeEntry) (ts : List (List ℕ)) (ns : List Node) → AreKeptEntries es → length ts ≡ length es → AllZip IsNodeOf (zip es ts) ns → IsNamedTree ns
named-tree es ts ns kept long h = record {
  some = subst (λ n. 0 < n) (sym many) kept.some;
  few = subst (λ n. n ≤ MAX_TREE_NODES) (sym many) kept.few;
  root = λ node has. let of = entry-of es ts ns h 0 node has in of.is.parent ∙ (kept.root of.entry of.stands).0;
  parents = λ k node has.
      let of = entry-of es ts ns h (suc k) node has in
      let under = kept.parents k of.entry of.stands in
      record { parent = under.parent; is_parent = of.is.parent ∙ under.is_parent; earlier = under.earlier };
  names = subst AreDifferent (sym (names-same es ts ns long h)) kept.differ;
  each = each-formed es ts ns kept.names h;
}
  where
    many : length ns ≡ length es
    many = as-many-nodes es ts ns long h
