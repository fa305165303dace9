-- The vertices of a product that are at no host are those that tags and entries count.
use Rattle.std.proofs.Common.{◌≡◌, ◌<◌, inl, inr, ℕ, Bool, true, false, cond, not, List, [], ◌∷◌, ◌++◌, length, map, filter, Contains, Option, None, Some, refl, sym, ◌∙◌, ap, subst}
use Rattle.std.specs.Prelude.{is_some, IsSome, MatchOption}
use Rattle.std.specs.List.{AllByRecursion, range_with_len}
use Rattle.merlin_model.specs.declared.network.LocationKind.{LocationKind}
use Rattle.merlin_model.specs.declared.policy.Symbol.{Symbol}
use Rattle.merlin_model.specs.Networks.{Network, IsHost, kind_of, places_of, address_at}
use Rattle.merlin_model.specs.Words.{at, IsSymbol}
use Rattle.merlin_model.proofs.Members.{in_from, in_filter}
use Rattle.rules_model.specs.Products.{SymbolAutomaton, Vertex, loc_of, start_of, WrittenWalk, Group, LeadsTo, LeadsToEnd, IsOnWayBetween, IsVertex, IsVertexAt, IsVertexIn}
use Rattle.rules_model.specs.Tables.{is_host_kind, all_hosts}
use Rattle.rules_model.proofs.TableRules.{is_location}
use Rattle.product_graph.specs.declared.span.Vertex.{Vertex as ListedVertex}
use Rattle.product_graph.specs.declared.span.Product.{Product}
use Rattle.product_graph.specs.declared.span.Span2.{Span2}
use Rattle.product_graph.specs.declared.span.Span2.TheVariants.{Pair, All}
use Rattle.product_graph.specs.Products.{dest_of, IsSource, vertex_of, StandsIn, IsStart, IsTrimmed, IsProduct}
use Rattle.product_graph.proofs.Lists.{false-true, all-contained, contains-none}
use Rattle.policy_check.specs.Checked.{CheckedPolicy}
use Rattle.openflow_rules.specs.declared.spans.GroupSpan.{GroupSpan}
use Rattle.openflow_rules.specs.GroupSpans.{IsSpanOf, IsGroupSpan}
use Rattle.openflow_rules.specs.Gathered.{is_inner, AreVerticesWithin, AreAllBelow, AreInnerOf}

-- whether a vertex is at no host
abbrev pub inside : Network → Vertex → Bool
inside net v = not (is_host_kind (kind_of net (loc_of v)))

module _ (net : Network) where
  at-host : (v : Vertex) → IsHost net (loc_of v) → inside net v ≡ false
  at-host v h = ap not h

  at-none : (v : Vertex) → ¬ IsHost net (loc_of v) → inside net v ≡ true
  at-none v h = by (is_host_kind (kind_of net (loc_of v))) refl
    where
      by : (b : Bool) → is_host_kind (kind_of net (loc_of v)) ≡ b → inside net v ≡ true
      by true e = absurd (h e)
      by false e = ap not e

  -- a filter keeps what a map leads to
  pub filter-mapped : (vs : List ListedVertex) → map vertex_of (filter (is_inner net) vs) ≡ filter (inside net) (map vertex_of vs)
  filter-mapped [] = refl
  filter-mapped (v ∷ vs) = by (is_inner net v) (filter-mapped vs)
    where
      by : (b : Bool) → map vertex_of (filter (is_inner net) vs) ≡ filter (inside net) (map vertex_of vs) →
          map vertex_of (cond b (v ∷ filter (is_inner net) vs) (filter (is_inner net) vs)) ≡ cond b (vertex_of v ∷ filter (inside net) (map vertex_of vs)) (filter (inside net) (map vertex_of vs))
      by true e = ap (λ r. vertex_of v ∷ r) e
      by false e = e

  filter-append : (xs ys : List Vertex) → filter (inside net) (xs ++ ys) ≡ filter (inside net) xs ++ filter (inside net) ys
  filter-append [] ys = refl
  filter-append (x ∷ xs) ys = by (inside net x) (filter-append xs ys)
    where
      by : (b : Bool) → filter (inside net) (xs ++ ys) ≡ filter (inside net) xs ++ filter (inside net) ys →
          cond b (x ∷ filter (inside net) (xs ++ ys)) (filter (inside net) (xs ++ ys)) ≡ cond b (x ∷ filter (inside net) xs) (filter (inside net) xs) ++ filter (inside net) ys
      by true e = ap (λ r. x ∷ r) e
      by false e = e

  none-kept : (xs : List Vertex) → AllByRecursion (λ v. inside net v ≡ false) xs → filter (inside net) xs ≡ []
  none-kept [] h = refl
  none-kept (x ∷ xs) h = ap (λ b. cond b (x ∷ filter (inside net) xs) (filter (inside net) xs)) h.0 ∙ none-kept xs h.1

  all-kept : (xs : List Vertex) → AllByRecursion (λ v. inside net v ≡ true) xs → filter (inside net) xs ≡ xs
  all-kept [] h = refl
  all-kept (x ∷ xs) h = ap (λ b. cond b (x ∷ filter (inside net) xs) (filter (inside net) xs)) h.0 ∙ ap (λ r. x ∷ r) (all-kept xs h.1)

  append-none : (xs : List Vertex) → xs ++ [] ≡ xs
  append-none [] = refl
  append-none (x ∷ xs) = ap (λ r. x ∷ r) (append-none xs)

  module _ (a : SymbolAutomaton) (span : Span2) (product : Product) (dest : IsHost net (dest_of span)) where
    -- the vertices at no host of a trimmed product are its inner ones
    pub inner-is : (is : IsTrimmed net a span product) → map vertex_of (filter (is_inner net) product.vertices) ≡ is.inner
    inner-is is =
        filter-mapped product.vertices ∙ ap (filter (inside net)) is.vertices
        ∙ filter-append is.first (is.inner ++ end ∷ [])
        ∙ ap (λ r. r ++ filter (inside net) (is.inner ++ end ∷ [])) (none-kept is.first (all-contained _ is.first (λ v c. start (((is.first_are v).0 c).0))))
        ∙ filter-append is.inner (end ∷ [])
        ∙ ap (λ r. r ++ filter (inside net) (end ∷ [])) (all-kept is.inner (all-contained _ is.inner (λ v c. at-none v ((is.inner_are v).0 c).0)))
        ∙ ap (λ r. is.inner ++ r) (none-kept (end ∷ []) (at-host end dest, tt))
        ∙ append-none is.inner
      where
        end : Vertex
        end = record { symbol = at (dest_of span); state = is.state }

        source-host : (span : Span2) (s : ℕ) → IsSource net span s → IsHost net s
        source-host (Pair s d) h from = from.0
        source-host (All d) h from = from.0

        start : {v : Vertex} → IsStart net a span v → inside net v ≡ false
        start {v} h = at-host v (subst (λ u. IsHost net (loc_of u)) (sym h.2) (source-host span h.0 h.1))

  leads-on : (a : SymbolAutomaton) (d : ℕ) (v : Vertex) (path : List Vertex) (u : Vertex) (us : List Vertex) → LeadsTo net a v path u → LeadsToEnd net a d u us → (ws : List Vertex) × LeadsToEnd net a d v ws
  leads-on a d v [] u us h way = (us, subst (λ x. LeadsToEnd net a d x us) (sym h) way)
  leads-on a d v (x ∷ path) u us h way = let rest = leads-on a d x path u us h.1 way in (x ∷ rest.0, (h.0, rest.1))

  -- what stands in the product of a span is a vertex of the group
  stands-vertex : (a : SymbolAutomaton) (w : Option WrittenWalk) (span : Span2) → IsSpanOf net w span → (v : Vertex) → StandsIn net a span v → IsVertexIn net a w (dest_of span) v
  stands-vertex a None (All d) is v h = (h.0, h.1.0, is, h.1.1, h.2)
  stands-vertex a None (Pair s d) is v h = absurd is
  stands-vertex a (Some w) (All d) is v h = absurd is
  stands-vertex a (Some w) (Pair s d) is v h = (is.3, subst (λ x. IsOnWayBetween net a x d v) (h.1.1 ∙ is.2) h.2)

  vertex-stands : (a : SymbolAutomaton) (w : Option WrittenWalk) (span : Span2) → IsSpanOf net w span → (v : Vertex) → IsVertexIn net a w (dest_of span) v → StandsIn net a span v
  vertex-stands a None (All d) is v h = (h.0, (h.1, h.3), h.4)
  vertex-stands a None (Pair s d) is v h = absurd is
  vertex-stands a (Some w) (All d) is v h = absurd is
  vertex-stands a (Some w) (Pair s d) is v h = (w.source, (is.0, sym is.2), h.1)

  span-dest : (w : Option WrittenWalk) (span : Span2) → IsSpanOf net w span → IsHost net (dest_of span)
  span-dest None (All d) is = is
  span-dest None (Pair s d) is = absurd is
  span-dest (Some w) (All d) is = absurd is
  span-dest (Some w) (Pair s d) is = subst (IsHost net) (sym is.3) is.1

  module _ (checked : CheckedPolicy) (groups : List Group) (s : GroupSpan) (is : IsGroupSpan net checked groups s) where
    pub dest-host : IsHost net (dest_of s.span)
    dest-host = span-dest is.group.written s.span is.span

    to-vertex : (v : Vertex) → StandsIn net is.group.automaton s.span v → IsVertex net groups s.group (dest_of s.span) v
    to-vertex v h = subst (λ g. IsVertexAt net g (dest_of s.span) v) (sym is.there) (stands-vertex is.group.automaton is.group.written s.span is.span v h)

    from-vertex : (v : Vertex) → IsVertex net groups s.group (dest_of s.span) v → StandsIn net is.group.automaton s.span v
    from-vertex v h = vertex-stands is.group.automaton is.group.written s.span is.span v (subst (λ g. IsVertexAt net g (dest_of s.span) v) is.there h)

    pub inner-of : (product : Product) → IsProduct net is.group.automaton s.span product → AreInnerOf net groups s (map vertex_of (filter (is_inner net) product.vertices))
    inner-of product (inl cut) = subst (AreInnerOf net groups s) (sym (ap (λ vs. map vertex_of (filter (is_inner net) vs)) cut.vertices)) (record {
      ascend = tt;
      are = λ v. (λ c. absurd (contains-none v c), λ h. absurd (never v (from-vertex v h.1)));
    })
      where
        never : (v : Vertex) → StandsIn net is.group.automaton s.span v → ⊥
        never v h =
            let way = leads-on is.group.automaton (dest_of s.span) (start_of is.group.automaton h.0) h.2.before v h.2.after h.2.reached h.2.leads in
            cut.none h.0 way.0 h.1 way.1
    inner-of product (inr t) = subst (AreInnerOf net groups s) (sym (inner-is is.group.automaton s.span product dest-host t)) (record {
      ascend = t.inner_ascend;
      are = λ v. (λ c. let h = (t.inner_are v).0 c in (h.0, to-vertex v h.1), λ h. (t.inner_are v).1 (h.0, from-vertex v h.1));
    })

-- each vertex of a product is at a location
module _ (net : Network) where
  kind-within : (loc : ℕ) (o : Option LocationKind) → kind_of net loc ≡ o → is_some o ≡ true → loc < length net.locations
  kind-within loc None e h = absurd (false-true h)
  kind-within loc (Some kind) e h = is_location net loc kind e

  host-within : (loc : ℕ) → IsHost net loc → loc < length net.locations
  host-within loc h = kind-within loc (kind_of net loc) refl (by (kind_of net loc) h)
    where
      by : (o : Option LocationKind) → IsSome (address_at o) → is_some o ≡ true
      by None h = h
      by (Some kind) h = refl

  symbol-within : (x : Symbol) → IsSymbol net x → x.loc < length net.locations
  symbol-within x h = kind-within x.loc (kind_of net x.loc) refl (by (kind_of net x.loc) h)
    where
      by : (o : Option LocationKind) → MatchOption o ⊥ (λ _. MatchOption x.fun (Unit {0}) (λ f. MatchOption (places_of net f) ⊥ (λ places. Contains places x.loc))) → is_some o ≡ true
      by None h = absurd h
      by (Some kind) h = refl

  reached-within : (a : SymbolAutomaton) (v : Vertex) (path : List Vertex) (u : Vertex) → loc_of v < length net.locations → LeadsTo net a v path u → loc_of u < length net.locations
  reached-within a v [] u lt h = subst (λ x. loc_of x < length net.locations) h lt
  reached-within a v (x ∷ path) u lt h = reached-within a x path u (symbol-within x.symbol h.0.symbol) h.1

  all-append : (xs ys : List Vertex) → AllByRecursion (λ v. loc_of v < length net.locations) xs → AllByRecursion (λ v. loc_of v < length net.locations) ys → AllByRecursion (λ v. loc_of v < length net.locations) (xs ++ ys)
  all-append [] ys h g = g
  all-append (x ∷ xs) ys h g = (h.0, all-append xs ys h.1 g)

  listed-within : (vs : List ListedVertex) → AllByRecursion (λ v. loc_of v < length net.locations) (map vertex_of vs) → AreVerticesWithin (length net.locations) vs
  listed-within [] h = tt
  listed-within (v ∷ vs) h = (h.0, listed-within vs h.1)

  pub within-product : (a : SymbolAutomaton) (span : Span2) → IsHost net (dest_of span) → (product : Product) → IsProduct net a span product → AreVerticesWithin (length net.locations) product.vertices
  within-product a span dest product (inl cut) = subst (AreVerticesWithin (length net.locations)) (sym cut.vertices) tt
  within-product a span dest product (inr t) = listed-within product.vertices (subst (AllByRecursion (λ v. loc_of v < length net.locations)) (sym t.vertices) (
      all-append t.first _ (all-contained _ t.first (λ v c. stands v ((t.first_are v).0 c).1)) (
      all-append t.inner _ (all-contained _ t.inner (λ v c. stands v ((t.inner_are v).0 c).1)) (host-within (dest_of span) dest, tt))))
    where
      source-host : (span : Span2) (s : ℕ) → IsSource net span s → IsHost net s
      source-host (Pair s d) h from = from.0
      source-host (All d) h from = from.0

      stands : (v : Vertex) → StandsIn net a span v → loc_of v < length net.locations
      stands v h = reached-within a (start_of a h.0) h.2.before v (host-within h.0 (source-host span h.0 h.1)) h.2.reached

  -- a filter keeps where vertices are
  pub within-inner : (vs : List ListedVertex) → AreVerticesWithin (length net.locations) vs → AreVerticesWithin (length net.locations) (filter (is_inner net) vs)
  within-inner [] h = tt
  within-inner (v ∷ vs) h = by (is_inner net v) (within-inner vs h.1)
    where
      by : (b : Bool) → AreVerticesWithin (length net.locations) (filter (is_inner net) vs) → AreVerticesWithin (length net.locations) (cond b (v ∷ filter (is_inner net) vs) (filter (is_inner net) vs))
      by true e = (h.0, e)
      by false e = e

  -- hosts are at locations
  pub hosts-below : AreAllBelow (length net.locations) (all_hosts net)
  hosts-below = all-contained (λ k. k < length net.locations) (all_hosts net) (λ k c. host-within k (in_filter (λ loc. is_host_kind (kind_of net loc)) (range_with_len 0 (length net.locations)) k (in_from (all_hosts net) k c)).1)
