-- The next vertices are those of the sink tree.
use Rattle.std.proofs.Common.{◌≡◌, ◌≢◌, ◌≤◌, ◌+◌, ◌⊎◌, inl, inr, ℕ, suc, zero, List, [], ◌∷◌, ◌++◌, length, slice_get, Contains, Option, None, Some, append_assoc, refl, sym, ◌∙◌, ap, subst, arith}
use Rattle.std.specs.Option.{unwrap_or}
use Rattle.merlin_model.specs.Networks.{Network, IsHost}
use Rattle.merlin_model.specs.Words.{at}
use Rattle.merlin_model.proofs.Members.{in_to}
use Rattle.rules_model.specs.Products.{SymbolAutomaton, Vertex, loc_of, IsEdge, IsLast, LeadsToEnd, IsUpTo, IsInTree, IsBefore}
use Rattle.graph_search.specs.declared.paths.Potentials.{Potentials}
use Rattle.graph_search.specs.Graphs.{known_at, ArePotentials}
use Rattle.product_graph.specs.declared.span.Product.{Product}
use Rattle.product_graph.specs.declared.span.Span2.{Span2}
use Rattle.product_graph.specs.Products.{dest_of, vertices_of, IsTrimmed}
use Rattle.product_graph.proofs.Standing.{source-host, in-stands, stands-next, stands-at, not-end, joined-from}
use Rattle.sink_tree.specs.Backwards.{turned_edges}
use Rattle.sink_tree.specs.Nearest.{steps_at, IsNoWorse, IsNearest, AreNearest}
use Rattle.sink_tree.specs.Trees.{NextLeads, IsSinkTree}
use Rattle.sink_tree.proofs.Places.{some-same, same-or-not, get-in, in-get, get-split, get-not-last, pairwise-get}
use Rattle.sink_tree.proofs.Distances.{at-end, one-more, one-less}

before-up_to : (u v : Vertex) → IsBefore u v → IsUpTo u v
before-up_to u v (inl h) = inl h
before-up_to u v (inr (e, inl h)) = inr (e, inl h)
before-up_to u v (inr (e, inr h)) = let lt = h.1 in inr (e, inr (h.0, omega (arith, lt)))

itself-up_to : (u v : Vertex) → u ≡ v → IsUpTo u v
itself-up_to u v e = subst (IsUpTo u) e (inr (refl, inr (refl, omega arith)))

-- what v follows in the sink tree, and over how many edges
record HasTree (net : Network) (a : SymbolAutomaton) (d : ℕ) (product : Product) (next : ℕ → Option ℕ) (k : ℕ) (v : Vertex) (left : ℕ) : Type 0 where
  after : List Vertex
  leads : NextLeads product next k after
  tree : IsInTree net a d v after
  count : length after ≡ left

module _ (net : Network) (a : SymbolAutomaton) (span : Span2) (product : Product) (is : IsTrimmed net a span product) where
  -- a vertex at no host stands behind those that walks start from
  inner-place : (k : ℕ) (v : Vertex) → slice_get (is.first ++ is.inner) k ≡ Some v → (¬ IsHost net (loc_of v)) → (i : ℕ) × (k ≡ length is.first + i) × (slice_get is.inner i ≡ Some v)
  inner-place k v e outside = by (get-split is.first is.inner k v e)
    where
      by : (slice_get is.first k ≡ Some v) ⊎ ((i : ℕ) × (k ≡ length is.first + i) × (slice_get is.inner i ≡ Some v)) → (i : ℕ) × (k ≡ length is.first + i) × (slice_get is.inner i ≡ Some v)
      by (inl h) =
          let start = ((is.first_are v).0 (in_to is.first v (get-in is.first k v h))).0 in
          absurd (outside (subst (IsHost net) (sym (ap loc_of start.2)) (source-host net span start.0 start.1)))
      by (inr h) = h

  in-order : (j k : ℕ) (u x : Vertex) → slice_get (is.first ++ is.inner) j ≡ Some u → slice_get (is.first ++ is.inner) k ≡ Some x → (¬ IsHost net (loc_of u)) → (¬ IsHost net (loc_of x)) → j ≤ k → IsUpTo u x
  in-order j k u x eu ex ou ox le = by (inner-place j u eu ou) (inner-place k x ex ox)
    where
      by : (i : ℕ) × (j ≡ length is.first + i) × (slice_get is.inner i ≡ Some u) → (i : ℕ) × (k ≡ length is.first + i) × (slice_get is.inner i ≡ Some x) → IsUpTo u x
      by g h = on (same-or-not g.0 h.0)
        where
          on : (g.0 ≡ h.0) ⊎ (g.0 ≢ h.0) → IsUpTo u x
          on (inl same) = itself-up_to u x (some-same (sym g.2 ∙ ap (slice_get is.inner) same ∙ h.2))
          on (inr other) = let eg = g.1 in let eh = h.1 in before-up_to u x (pairwise-get IsBefore is.inner g.0 h.0 u x is.inner_ascend (omega (arith, eg, eh, le, other)) g.2 h.2)

  before-end : (k : ℕ) (v : Vertex) → slice_get (vertices_of product) k ≡ Some v → product.end ≢ Some k → slice_get (is.first ++ is.inner) k ≡ Some v
  before-end k v e other = get-not-last (is.first ++ is.inner) (record { symbol = at (dest_of span); state = is.state }) k v (ap (λ l. slice_get l k) (append_assoc is.first is.inner _ ∙ sym is.vertices) ∙ e) (λ same. other (is.end ∙ ap Some (sym same)))

  module _ (n : ℕ) (p : Potentials) (known : ArePotentials n (turned_edges product.edges) (length (is.first ++ is.inner)) p) where
    joined-edge : (k j : ℕ) (v u : Vertex) → slice_get (is.first ++ is.inner) k ≡ Some v → slice_get (is.first ++ is.inner) j ≡ Some u → IsEdge net a v u → Contains product.edges (k, j)
    joined-edge k j v u ev eu edge = (is.joined (k, j)).1 (v, ev, inl (u, eu, edge))

    joined-end : (k : ℕ) (v : Vertex) → slice_get (is.first ++ is.inner) k ≡ Some v → IsLast net a (dest_of span) v → Contains product.edges (k, length (is.first ++ is.inner))
    joined-end k v ev last = (is.joined (k, length (is.first ++ is.inner))).1 (v, ev, inr (refl, last))

    -- no more edges are left than a way to the end has
    way-bound : (us : List Vertex) (k : ℕ) (v : Vertex) → slice_get (is.first ++ is.inner) k ≡ Some v → LeadsToEnd net a (dest_of span) v us → (b : ℕ) × (known_at p.distance k ≡ Some b) × (b ≤ suc (length us))
    way-bound [] k v ev last = one-more n product.edges (length (is.first ++ is.inner)) p known k (length (is.first ++ is.inner)) 0 (joined-end k v ev last) (at-end n product.edges (length (is.first ++ is.inner)) p known)
    way-bound (u ∷ us) k v ev leads =
        let place = in-get (is.first ++ is.inner) u (stands-next net a span product is v u us (get-in (is.first ++ is.inner) k v ev) leads.0 leads.1) in
        let rest = way-bound us place.0 u place.1 leads.1 in
        let more = one-more n product.edges (length (is.first ++ is.inner)) p known k place.0 rest.0 (joined-edge k place.0 v u ev place.1 leads.0) rest.1 in
        let low = more.2 in
        let low_rest = rest.2 in
        (more.0, more.1, omega (arith, low, low_rest))

    steps-known : (k b : ℕ) → known_at p.distance k ≡ Some b → steps_at p.distance k ≡ b
    steps-known k b e = ap (λ o. unwrap_or o 0) e

    no-more : (u x : ℕ) → IsNoWorse p.distance u x → steps_at p.distance u ≤ steps_at p.distance x
    no-more u x (inl lt) = omega (arith, lt)
    no-more u x (inr h) = let e = h.0 in omega (arith, e)

    no-later : (u x : ℕ) → IsNoWorse p.distance u x → steps_at p.distance u ≡ steps_at p.distance x → u ≤ x
    no-later u x (inl lt) e = absurd (omega (arith, lt, e))
    no-later u x (inr h) e = h.1

    module _ (next : List (Option ℕ)) (nearest : AreNearest p.distance product.edges next) where
      -- the end has no next vertex
      pub end-none : known_at next (length (is.first ++ is.inner)) ≡ None
      end-none = by (known_at next (length (is.first ++ is.inner))) refl (nearest.each (length (is.first ++ is.inner)))
        where
          by : (o : Option ℕ) → known_at next (length (is.first ++ is.inner)) ≡ o → IsNearest p.distance product.edges (length (is.first ++ is.inner)) o → known_at next (length (is.first ++ is.inner)) ≡ None
          by None e h = e
          by (Some u) e h = let j = (is.joined (length (is.first ++ is.inner), u)).0 h.0 in absurd (not-end net a span product is (length (is.first ++ is.inner)) j.0 j.1 refl)

      -- the next vertex, and what is known of it
      next-of : (k : ℕ) (v : Vertex) (left : ℕ) → slice_get (is.first ++ is.inner) k ≡ Some v → known_at p.distance k ≡ Some (suc left) →
          (j : ℕ) × (known_at next k ≡ Some j) × Contains product.edges (k, j) × ((x : ℕ) → Contains product.edges (k, x) → IsNoWorse p.distance j x)
      next-of k v left ev dist = by (known_at next k) refl (nearest.each k)
        where
          by : (o : Option ℕ) → known_at next k ≡ o → IsNearest p.distance product.edges k o →
              (j : ℕ) × (known_at next k ≡ Some j) × Contains product.edges (k, j) × ((x : ℕ) → Contains product.edges (k, x) → IsNoWorse p.distance j x)
          by None e h = let less = one-less n product.edges (length (is.first ++ is.inner)) p known k (suc left) dist (not-end net a span product is k v ev) in absurd (h less.0 less.1.1.0)
          by (Some j) e h = (j, e, h.0, h.1)

      -- so many edges are left from the next vertex
      next-left : (k : ℕ) (v : Vertex) (left j b : ℕ) → slice_get (is.first ++ is.inner) k ≡ Some v → known_at p.distance k ≡ Some (suc left) → Contains product.edges (k, j) → ((x : ℕ) → Contains product.edges (k, x) → IsNoWorse p.distance j x) → known_at p.distance j ≡ Some b → b ≡ left
      next-left k v left j b ev dist edge best there =
          let less = one-less n product.edges (length (is.first ++ is.inner)) p known k (suc left) dist (not-end net a span product is k v ev) in
          let low : steps_at p.distance j ≤ steps_at p.distance less.0 = no-more j less.0 (best less.0 less.1.1.0) in
          let own : steps_at p.distance j ≡ b = steps-known j b there in
          let other : steps_at p.distance less.0 ≡ less.1.0 = steps-known less.0 less.1.0 less.1.1.1 in
          let exact = less.1.1.2 in
          let more = one-more n product.edges (length (is.first ++ is.inner)) p known k j b edge there in
          let same : more.0 ≡ suc left = some-same (sym more.1 ∙ dist) in
          let high = more.2 in
          omega (arith, low, own, other, exact, same, high)

      known-in : (k : ℕ) (v : Vertex) → slice_get (is.first ++ is.inner) k ≡ Some v → (b : ℕ) × (known_at p.distance k ≡ Some b)
      known-in k v ev = let s = in-stands net a span product is v (get-in (is.first ++ is.inner) k v ev) in let b = way-bound s.2.after k v ev s.2.leads in (b.0, b.1)

      positive : (k : ℕ) (v : Vertex) → slice_get (is.first ++ is.inner) k ≡ Some v → known_at p.distance k ≡ Some 0 → ⊥
      positive k v ev dist = let less = one-less n product.edges (length (is.first ++ is.inner)) p known k 0 dist (not-end net a span product is k v ev) in let e = less.1.1.2 in omega (arith, e)

      abbrev Tree : ℕ → Vertex → ℕ → Type 0
      Tree k v left = HasTree net a (dest_of span) product (known_at next) k v left

      tree-last : (k : ℕ) (v : Vertex) → slice_get (is.first ++ is.inner) k ≡ Some v → known_at p.distance k ≡ Some 1 → Tree k v 0
      tree-last k v ev dist = by (next-of k v 0 ev dist)
        where
          by : (j : ℕ) × (known_at next k ≡ Some j) × Contains product.edges (k, j) × ((x : ℕ) → Contains product.edges (k, x) → IsNoWorse p.distance j x) → Tree k v 0
          by c = on (joined-from net a span product is k c.0 v ev c.2)
            where
              on : ((u : Vertex) × (slice_get (is.first ++ is.inner) c.0 ≡ Some u) × IsEdge net a v u) ⊎ ((c.0 ≡ length (is.first ++ is.inner)) × IsLast net a (dest_of span) v) → Tree k v 0
              on (inl g) =
                  let b = known-in c.0 g.0 g.1 in
                  let none : b.0 ≡ 0 = next-left k v 0 c.0 b.0 ev dist c.2 c.3 b.1 in
                  absurd (positive c.0 g.0 g.1 (b.1 ∙ ap Some none))
              on (inr g) = record { after = []; leads = (c.0, c.1, is.end ∙ ap Some (sym g.0)); tree = g.1; count = refl }

      tree-more : (left k : ℕ) (v : Vertex) → slice_get (is.first ++ is.inner) k ≡ Some v → known_at p.distance k ≡ Some (suc (suc left)) →
          ((j : ℕ) (u : Vertex) → slice_get (is.first ++ is.inner) j ≡ Some u → known_at p.distance j ≡ Some (suc left) → Tree j u left) → Tree k v (suc left)
      tree-more left k v ev dist ih = by (next-of k v (suc left) ev dist)
        where
          by : (j : ℕ) × (known_at next k ≡ Some j) × Contains product.edges (k, j) × ((x : ℕ) → Contains product.edges (k, x) → IsNoWorse p.distance j x) → Tree k v (suc left)
          by c = on (joined-from net a span product is k c.0 v ev c.2)
            where
              on : ((u : Vertex) × (slice_get (is.first ++ is.inner) c.0 ≡ Some u) × IsEdge net a v u) ⊎ ((c.0 ≡ length (is.first ++ is.inner)) × IsLast net a (dest_of span) v) → Tree k v (suc left)
              on (inr g) =
                  let none : 0 ≡ suc left = next-left k v (suc left) c.0 0 ev dist c.2 c.3 (ap (known_at p.distance) g.0 ∙ at-end n product.edges (length (is.first ++ is.inner)) p known) in
                  absurd (omega (arith, none))
              on (inl g) =
                  let b = known-in c.0 g.0 g.1 in
                  let exact : b.0 ≡ suc left = next-left k v (suc left) c.0 b.0 ev dist c.2 c.3 b.1 in
                  let there : known_at p.distance c.0 ≡ Some (suc left) = b.1 ∙ ap Some exact in
                  let own : steps_at p.distance c.0 ≡ suc left = steps-known c.0 (suc left) there in
                  let rest : Tree c.0 g.0 left = ih c.0 g.0 g.1 there in
                  let count = rest.count in
                  record {
                    after = g.0 ∷ rest.after;
                    leads = (c.0, c.1, stands-at net a span product is c.0 g.0 g.1, rest.leads);
                    tree = (
                      record {
                        edge = g.2;
                        not_end = λ last.
                            let low : steps_at p.distance c.0 ≤ steps_at p.distance (length (is.first ++ is.inner)) = no-more c.0 (length (is.first ++ is.inner)) (c.3 (length (is.first ++ is.inner)) (joined-end k v ev last)) in
                            let none : steps_at p.distance (length (is.first ++ is.inner)) ≡ 0 = steps-known (length (is.first ++ is.inner)) 0 (at-end n product.edges (length (is.first ++ is.inner)) p known) in
                            let no_way : ⊥ = omega (arith, low, none, own) in
                            no_way;
                        fewest = λ x xs edge way.
                            let place = in-get (is.first ++ is.inner) x (stands-next net a span product is v x xs (get-in (is.first ++ is.inner) k v ev) edge way) in
                            let bound = way-bound xs place.0 x place.1 way in
                            let few = bound.2 in
                            let other : steps_at p.distance place.0 ≡ bound.0 = steps-known place.0 bound.0 bound.1 in
                            let low : steps_at p.distance c.0 ≤ steps_at p.distance place.0 = no-more c.0 place.0 (c.3 place.0 (joined-edge k place.0 v x ev place.1 edge)) in
                            omega (arith, few, other, low, own, count);
                        least = λ x xs edge way same.
                            let place = in-get (is.first ++ is.inner) x (stands-next net a span product is v x xs (get-in (is.first ++ is.inner) k v ev) edge way) in
                            let bound = way-bound xs place.0 x place.1 way in
                            let few = bound.2 in
                            let other : steps_at p.distance place.0 ≡ bound.0 = steps-known place.0 bound.0 bound.1 in
                            let best : IsNoWorse p.distance c.0 place.0 = c.3 place.0 (joined-edge k place.0 v x ev place.1 edge) in
                            let low : steps_at p.distance c.0 ≤ steps_at p.distance place.0 = no-more c.0 place.0 best in
                            let equal : steps_at p.distance c.0 ≡ steps_at p.distance place.0 = omega (arith, few, other, low, own, count, same) in
                            in-order c.0 place.0 g.0 x g.1 place.1 g.2.inside edge.inside (no-later c.0 place.0 best equal);
                      },
                      rest.tree,
                    );
                    count = ap suc rest.count;
                  }

      tree-at : (left k : ℕ) (v : Vertex) → slice_get (is.first ++ is.inner) k ≡ Some v → known_at p.distance k ≡ Some (suc left) → Tree k v left
      tree-at zero k v ev dist = tree-last k v ev dist
      tree-at (suc left) k v ev dist = tree-more left k v ev dist (λ j u eu there. tree-at left j u eu there)

      pub sink-tree : IsSinkTree net a (dest_of span) product (known_at next)
      sink-tree = record { each = each; end = λ k e. let same : length (is.first ++ is.inner) ≡ k = some-same (sym is.end ∙ e) in ap (known_at next) (sym same) ∙ end-none }
        where
          each : (k : ℕ) (v : Vertex) → slice_get (vertices_of product) k ≡ Some v → product.end ≢ Some k → (us : List Vertex) × NextLeads product (known_at next) k us × IsInTree net a (dest_of span) v us
          each k v e other = by (known-in k v (before-end k v e other)).0 (known-in k v (before-end k v e other)).1
            where
              by : (b : ℕ) → known_at p.distance k ≡ Some b → (us : List Vertex) × NextLeads product (known_at next) k us × IsInTree net a (dest_of span) v us
              by zero dist = absurd (positive k v (before-end k v e other) dist)
              by (suc left) dist = let t = tree-at left k v (before-end k v e other) dist in (t.after, t.leads, t.tree)
