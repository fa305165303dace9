-- The product between two hosts, as it was built, is the one whose flow is asked for.
use Rattle.std.proofs.Common.{◌≡◌, ◌≢◌, ◌⊎◌, inl, inr, ◌↔◌, ℕ, zero, suc, List, [], ◌∷◌, ◌++◌, length, map, Contains, refl, sym, ◌∙◌, ap, ap₂, subst, arith}
use Rattle.merlin_model.specs.Networks.{Network, IsHost, Pairwise, directed_links}
use Rattle.merlin_model.specs.Words.{at}
use Rattle.merlin_model.proofs.Members.{In, in_from, in_to, in_append}
use Rattle.rules_model.specs.Products.{SymbolAutomaton, Vertex, loc_of, start_of, IsLast, LeadsTo, LeadsToEnd, IsOnWayBetween, function_place, IsBefore, IsJoined}
use Rattle.rules_model.proofs.Pieces.{all-from}
use Rattle.product_graph.specs.declared.span.Product.{Product as ListedProduct}
use Rattle.product_graph.specs.declared.span.Vertex.{Vertex as ListedVertex}
use Rattle.product_graph.specs.declared.span.Span2.TheVariants.{Pair}
use Rattle.product_graph.specs.Products.{vertex_of, vertices_of, StandsIn, IsProduct, IsTrimmed}
use Rattle.cutoff_program.specs.Products.{Product, IsProductOfHosts, IsTrimmedProduct, loc_at, edge_of}
use Rattle.policy_flows.specs.Layouts.{IsFlowBetween}
use Rattle.policy_flows.specs.Edges.{link_place, loc_in, edge_in, flow_over}

-- no vertex stands before itself
never-before : (u v : Vertex) → u ≡ v → IsBefore u v → ⊥
never-before u v e (inl lt) = let same = ap loc_of e in absurd (omega (arith, lt, same))
never-before u v e (inr (same, inl lt)) = let f = ap (λ w. function_place w.symbol.fun) e in absurd (omega (arith, lt, f))
never-before u v e (inr (same, inr (fun, lt))) = let s = ap (λ w. w.state) e in absurd (omega (arith, lt, s))

-- a list in order that has this element and no other
only-one : (x : Vertex) (xs : List Vertex) → ((y : Vertex) → In y xs → y ≡ x) → In x xs → Pairwise IsBefore xs → xs ≡ x ∷ []
only-one x [] each has up = absurd has
only-one x (y ∷ []) each has up = ap (λ z. z ∷ []) (each y (inl refl))
only-one x (y ∷ z ∷ zs) each has up = absurd (never-before y z (each y (inl refl) ∙ sym (each z (inr (inl refl)))) up.0.0)

-- what leads to a vertex and on to the end leads to the end
leads-through : (net : Network) (a : SymbolAutomaton) (d : ℕ) (v u : Vertex) (path us : List Vertex) → LeadsTo net a v path u → LeadsToEnd net a d u us → LeadsToEnd net a d v (path ++ us)
leads-through net a d v u [] us h end = subst (λ x. LeadsToEnd net a d x us) (sym h) end
leads-through net a d v u (x ∷ path) us h end = (h.0, leads-through net a d x u path us h.1 end)

-- a vertex to which an edge led is at no host
last-inside : (net : Network) (a : SymbolAutomaton) (x v : Vertex) (path : List Vertex) → (¬ IsHost net (loc_of x)) → LeadsTo net a x path v → ¬ IsHost net (loc_of v)
last-inside net a x v [] out h = subst (λ y. ¬ IsHost net (loc_of y)) h out
last-inside net a x v (y ∷ path) out h = last-inside net a y v path h.0.inside h.1

module _ (net : Network) (a : SymbolAutomaton) (s d : ℕ) (product : ListedProduct) (host : IsHost net s) where
  abbrev paired : Product
  paired = record { vertices = vertices_of product; edges = product.edges }

  abbrev start : Vertex
  start = start_of a s

  way-of : (v : Vertex) → StandsIn net a (Pair s d) v → IsOnWayBetween net a s d v
  way-of v stands = subst (λ k. IsOnWayBetween net a k d v) stands.1.1 stands.2

  way-in : (v : Vertex) → IsOnWayBetween net a s d v → StandsIn net a (Pair s d) v
  way-in v w = (s, (host, refl), w)

  module _ (t : IsTrimmed net a (Pair s d) product) where
    is-start : (v : Vertex) → In v t.first → v ≡ start
    is-start v i = let h = ((t.first_are v).0 (in_to t.first v i)).0 in h.2 ∙ ap (start_of a) h.1.1

    any-way : (v : Vertex) → In v (t.first ++ t.inner) → IsOnWayBetween net a s d v
    any-way v i = by (in_append t.first t.inner v i)
      where
        by : In v t.first ⊎ In v t.inner → IsOnWayBetween net a s d v
        by (inl j) = way-of v ((t.first_are v).0 (in_to t.first v j)).1
        by (inr j) = way-of v ((t.inner_are v).0 (in_to t.inner v j)).1

    start-way : IsOnWayBetween net a s d start
    start-way =
        let e = t.entered in
        let w = any-way e.0 (in_from (t.first ++ t.inner) e.0 e.1) in
        record { before = []; reached = refl; after = w.before ++ w.after; leads = leads-through net a d start e.0 w.before w.after w.reached w.leads }

    first-is : t.first ≡ start ∷ []
    first-is = only-one start t.first is-start (in_from t.first start ((t.first_are start).1 ((s, (host, refl), refl), way-in start start-way))) t.first_ascend

    all-is : t.first ++ t.inner ≡ start ∷ t.inner
    all-is = ap (λ vs. vs ++ t.inner) first-is

    inside : (v : Vertex) → In v (start ∷ t.inner) → IsOnWayBetween net a s d v
    inside v i = any-way v (subst (In v) (sym all-is) i)

    on-way : (v : Vertex) → IsOnWayBetween net a s d v → In v (start ∷ t.inner)
    on-way v w = by w.before w.reached
      where
        by : (path : List Vertex) → LeadsTo net a start path v → In v (start ∷ t.inner)
        by [] h = inl (sym h)
        by (x ∷ path) h = inr (in_from t.inner v ((t.inner_are v).1 (last-inside net a x v path h.0.inside h.1, way-in v w)))

    trimmed : IsTrimmedProduct net a s d paired
    trimmed = record {
      inner = t.inner;
      state = t.state;
      vertices = t.vertices ∙ ap (λ vs. vs ++ (t.inner ++ record { symbol = at d; state = t.state } ∷ [])) first-is;
      exactly = λ v. (λ c. inside v (in_from (start ∷ t.inner) v c), λ w. in_to (start ∷ t.inner) v (on-way v w));
      others = all-from (λ v. start ≢ v) t.inner (λ v i e. ((t.inner_are v).0 (in_to t.inner v i)).0 (subst (IsHost net) (ap loc_of e) host));
      ascending = t.inner_ascend;
      entered = subst (λ vs. (v : Vertex) × Contains vs v × IsLast net a d v × (t.state ≡ a.step v.state (at d))) all-is t.entered;
      least = λ v c last. t.least v (subst (λ vs. Contains vs v) (sym all-is) c) last;
      joined = subst (λ vs. (e : ℕ × ℕ) → Contains product.edges e ↔ IsJoined net a d vs e) all-is t.joined;
      in_order = t.edges_ascend;
    }

  pub paired-is : IsProduct net a (Pair s d) product → IsProductOfHosts net a s d paired
  paired-is (inl cut) = inl (record { none = λ us. cut.none s us (host, refl); vertices = ap (map vertex_of) cut.vertices; edges = cut.edges })
  paired-is (inr t) = inr (trimmed t)

-- The flow of what was built.

loc-same : (vs : List ListedVertex) (k : ℕ) → loc_in vs k ≡ loc_at (map vertex_of vs) k
loc-same [] k = refl
loc-same (v ∷ vs) zero = refl
loc-same (v ∷ vs) (suc k) = loc-same vs k

map-same : {X Y : Type 0} (f g : X → Y) (xs : List X) → ((x : X) → f x ≡ g x) → map f xs ≡ map g xs
map-same f g [] h = refl
map-same f g (x ∷ xs) h = ap₂ (λ y ys. y ∷ ys) (h x) (map-same f g xs h)

map-twice : (vs : List ListedVertex) → map (λ v. v.symbol) vs ≡ map (λ (v : Vertex). v.symbol) (map vertex_of vs)
map-twice [] = refl
map-twice (v ∷ vs) = ap (λ ys. v.symbol ∷ ys) (map-twice vs)

map-count : {X Y : Type 0} (f : X → Y) (xs : List X) → length (map f xs) ≡ length xs
map-count f [] = refl
map-count f (x ∷ xs) = ap suc (map-count f xs)

edge-same : (net : Network) (vs : List ListedVertex) (e : ℕ × ℕ) → edge_in (directed_links net) vs e ≡ edge_of net (map vertex_of vs) e
edge-same net vs e = λ i. record { from = e.0; to = e.1; crosses = link_place (directed_links net) (loc-same vs e.0 i) (loc-same vs e.1 i) }

pub flow-between : (net : Network) (a : SymbolAutomaton) (s d rate : ℕ) (product : ListedProduct) → IsHost net s → IsProduct net a (Pair s d) product → IsFlowBetween net a rate s d (flow_over (directed_links net) product rate).flow (flow_over (directed_links net) product rate).symbols
flow-between net a s d rate product host is = record {
  product = paired net a s d product host;
  is_product = paired-is net a s d product host is;
  is = λ i. record {
    rate = rate;
    vertices = sym (map-count vertex_of product.vertices) i;
    edges = map-same (edge_in (directed_links net) product.vertices) (edge_of net (vertices_of product)) product.edges (edge-same net product.vertices) i;
  };
  symbols_are = map-twice product.vertices;
}
