-- What is within the limits of rules passes none: the groups of a policy, their tags and their entries are determined.
use Rattle.std.proofs.Common.{◌≡◌, ◌≤◌, ◌<◌, ℕ, inl, inr, List, [], ◌∷◌, length, slice_get, Some, refl, sym, ◌∙◌, ap, subst, arith}
use Rattle.std.specs.Prelude.{sum_by}
use Rattle.std.specs.List.{AllByRecursion}
use Rattle.merlin_model.specs.declared.policy.Ends.{Ends}
use Rattle.merlin_model.specs.declared.policy.Symbol.{Symbol}
use Rattle.merlin_model.specs.Networks.{Network}
use Rattle.merlin_model.specs.Words.{at}
use Rattle.merlin_model.specs.Assignments.{AreAllEnds}
use Rattle.merlin_model.proofs.Members.{in_from, in_to, all_in}
use Rattle.merlin_model.proofs.Ascending.{ascending-one}
use Rattle.topology.specs.Symbols.{network_symbols}
use Rattle.rules_model.specs.Products.{Vertex, loc_of, function_place, Group, IsBefore}
use Rattle.rules_model.specs.Tables.{TagKey, IsBelow, IsBelowKey, IsTagKey}
use Rattle.path_automaton.proofs.Building.{get-map}
use Rattle.policy_check.specs.Checked.{CheckedPolicy}
use Rattle.configuration_model.specs.Groups.{AreGroups}
use Rattle.openflow_rules.specs.declared.fault.TheConstants.{MAX_TAGS, MAX_ENTRIES}
use Rattle.openflow_rules.specs.declared.fault.RuleFault.{RuleFault}
use Rattle.openflow_rules.specs.declared.fault.RuleFault.TheVariants.{TooManyTags, TooManyCells, TooManyEntries, OutOfMemory}
use Rattle.openflow_rules.specs.Planning.{statement_automata, bare_walks, AreInnerVertices, entries_in, products_of, HaveEntries, ArePlanned, HasFewTags, HasManyTags, HasEntries, IsWithinLimits, PassesLimit}
use Rattle.policy_configuration.proofs.Few.{few-different, ordered-different, zipped-one}
use Rattle.policy_configuration.proofs.Groups.{leaders-same, groups-of-same}

-- Orders.

below-irreflexive : (x : ℕ × ℕ × ℕ) → ¬ IsBelow x x
below-irreflexive x (inl h) = omega arith
below-irreflexive x (inr (e, inl h)) = omega arith
below-irreflexive x (inr (e, inr (f, h))) = omega arith

below-transitive : (x y z : ℕ × ℕ × ℕ) → IsBelow x y → IsBelow y z → IsBelow x z
below-transitive x y z (inl a) (inl b) = inl (omega arith)
below-transitive x y z (inl a) (inr b) = inl (let e = b.0 in omega arith)
below-transitive x y z (inr a) (inl b) = inl (let e = a.0 in omega arith)
below-transitive x y z (inr (e, inl a)) (inr (f, inl b)) = inr (e ∙ f, inl (omega arith))
below-transitive x y z (inr (e, inl a)) (inr (f, inr b)) = inr (e ∙ f, inl (let g = b.0 in omega arith))
below-transitive x y z (inr (e, inr a)) (inr (f, inl b)) = inr (e ∙ f, inl (let g = a.0 in omega arith))
below-transitive x y z (inr (e, inr a)) (inr (f, inr b)) = inr (e ∙ f, inr (a.0 ∙ b.0, (let m = a.1 in let n = b.1 in omega arith)))

key-irreflexive : (x : TagKey) → ¬ IsBelowKey x x
key-irreflexive x = below-irreflexive (x.group, x.state, function_place x.fun)

abbrev rank : Vertex → ℕ × ℕ × ℕ
rank v = (loc_of v, function_place v.symbol.fun, v.state)

before-irreflexive : (v : Vertex) → ¬ IsBefore v v
before-irreflexive v = below-irreflexive (rank v)

before-transitive : (u v w : Vertex) → IsBefore u v → IsBefore v w → IsBefore u w
before-transitive u v w = below-transitive (rank u) (rank v) (rank w)

inner-one : (net : Network) (groups : List Group) (p : ℕ × ℕ) (us vs : List Vertex) → AreInnerVertices net groups p.0 p.1 us → AreInnerVertices net groups p.0 p.1 vs → us ≡ vs
inner-one net groups p us vs h g = ascending-one IsBefore before-irreflexive before-transitive us vs h.ascend g.ascend
    (λ v i. in_from vs v ((g.are v).1 ((h.are v).0 (in_to us v i)))) (λ v i. in_from us v ((h.are v).1 ((g.are v).0 (in_to vs v i))))

module _ (net : Network) (checked : CheckedPolicy) (ends : List Ends) (all : AreAllEnds net checked.policy ends) where
  bare-walk : (k : ℕ) (e : Ends) → slice_get ends k ≡ Some e → (w : List Symbol) × (slice_get (bare_walks ends) k ≡ Some w)
  bare-walk k e stands = (at e.src ∷ at e.dst ∷ [], get-map (λ e. at e.src ∷ at e.dst ∷ []) ends k e stands)

  pub groups-same : (gs hs : List Group) → ArePlanned net checked ends gs → ArePlanned net checked ends hs → gs ≡ hs
  groups-same gs hs p q =
      let leaders = leaders-same checked.policy p.leaders q.leaders p.group_of q.group_of p.grouped q.grouped in
      groups-of-same net checked.policy (network_symbols net) (statement_automata checked) ends (bare_walks ends) all bare-walk q.leaders gs hs
      (subst (λ l. AreGroups checked.policy (network_symbols net) (statement_automata checked) ends (bare_walks ends) l gs) leaders p.are) q.are

  few-tags : HasFewTags net checked ends → HasManyTags net checked ends → ⊥
  few-tags f m =
      let each = subst (λ gs. AllByRecursion (IsTagKey net gs) m.tags) (groups-same m.groups f.groups m.planned f.planned) m.each in
      let under = few-different m.tags f.tags (ordered-different IsBelowKey key-irreflexive m.tags m.ascend) (λ k i. in_from f.tags k ((f.are.are k).1 (all_in (IsTagKey net f.groups) m.tags k each i))) in
      by (length m.tags) (length f.tags) under f.few m.many
    where
      by : (m n : ℕ) → m ≤ n → n ≤ MAX_TAGS → MAX_TAGS < m → ⊥
      by m n under few many = omega (arith, under, few, many)

  entries-same : (m n : ℕ) → HasEntries net checked ends m → HasEntries net checked ends n → m ≡ n
  entries-same m n h g =
      let one = zipped-one (λ p vs. AreInnerVertices net g.groups p.0 p.1 vs) (inner-one net g.groups) (products_of net g.groups) moved.vertices g.are.vertices moved.are g.are.are in
      moved.count_is ∙ ap (sum_by entries_in) one ∙ sym g.are.count_is
    where
      moved : HaveEntries net g.groups m
      moved = subst (λ gs. HaveEntries net gs m) (groups-same h.groups g.groups h.planned g.planned) h.are

  pub not-passed : IsWithinLimits net checked ends → (fault : RuleFault) → PassesLimit net checked ends fault → fault ≡ OutOfMemory
  not-passed within (TooManyTags count) h = absurd (few-tags within.tags h.0)
  not-passed within (TooManyCells count) h = let few = within.cells in let many = h.1 in absurd (omega (arith, few, many))
  not-passed within (TooManyEntries count) h =
      let few = within.entries in
      let many = h.2 in
      absurd (by few.0 many.0 (entries-same few.0 many.0 few.1 many.1) few.2 many.2)
    where
      by : (m n : ℕ) → m ≡ n → m ≤ MAX_ENTRIES → MAX_ENTRIES < n → ⊥
      by m n same few many = omega (arith, same, few, many)
  not-passed within OutOfMemory h = refl
