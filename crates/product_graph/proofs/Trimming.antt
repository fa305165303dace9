-- What is assembled is the product.
use Rattle.std.proofs.Common.{◌≡◌, ◌≢◌, ◌<◌, ◌≤◌, ◌⊎◌, ◌↔◌, inl, inr, ℕ, suc, zero, Bool, true, false, List, [], ◌∷◌, ◌++◌, length, map, get_or, slice_get, Contains, Some, None, append_assoc, refl, sym, ◌∙◌, ap, ap₂, subst, arith}
use Rattle.std.specs.List.{AllByRecursion}
use Rattle.merlin_model.specs.declared.policy.Symbol.{Symbol}
use Rattle.merlin_model.specs.Networks.{Network, IsHost, Pairwise}
use Rattle.merlin_model.specs.Words.{at}
use Rattle.path_automaton.specs.Automata.{AutomatonTables, step}
use Rattle.rules_model.specs.Products.{SymbolAutomaton, Vertex, loc_of, start_of, IsEdge, IsLast, LeadsToEnd, IsBefore, IsJoined}
use Rattle.product_graph.specs.declared.followers.Followers.{Followers}
use Rattle.product_graph.specs.declared.vertex_set.NumberedVertex.{NumberedVertex}
use Rattle.product_graph.specs.declared.leading.Destination.{Destination}
use Rattle.product_graph.specs.declared.kept.Kept.{Kept}
use Rattle.product_graph.specs.declared.span.Span2.{Span2}
use Rattle.product_graph.specs.declared.span.Product.{Product}
use Rattle.product_graph.specs.Products.{automaton_of, dest_of, IsSource, vertex_of, vertices_of, StandsIn, IsStart, IsEmptyOverSpan, IsTrimmed}
use Rattle.product_graph.specs.Inside.{AreEdgesInside}
use Rattle.product_graph.specs.Followers.{AreOrderedSymbols, AreFollowersOf}
use Rattle.product_graph.specs.Numbered.{Ground, ground_of, next_of, GoesOnBy, PassesOut, LeadsOut, IsNumberedBefore, vertex_by}
use Rattle.product_graph.specs.Ends.{IsDestination, IsLastBy, HasNumbersOf, IsSymbolInside}
use Rattle.product_graph.specs.Joining.{AreLasts, IsEdgeOut, AreEdgesBelow, IsLeastBelow}
use Rattle.product_graph.specs.Kept.{LiesBetween, AreBetween, listed_by, IsAssembled, IsNothing}
use Rattle.product_graph.proofs.Lists.{some-same, none-some, get-below, get-contains, contains-get, get-at, at-get, all-get, all-contained, contained-all, map-length, contains-left, contains-right}
use Rattle.product_graph.proofs.Numbers.{steps-by}
use Rattle.product_graph.proofs.Noting.{reach-on}
use Rattle.product_graph.proofs.Bridging.{goes-inside, vertex-once, edge-goes, goes-edge, leads-out, start-vertex, vertex-start, stands-lies, lies-stands, before-by}
use Rattle.product_graph.proofs.Listing.{lies, all-numbers}

get-map : {X Y : Type 0} (f : X → Y) (xs : List X) (k : ℕ) (a : X) → slice_get xs k ≡ Some a → slice_get (map f xs) k ≡ Some (f a)
get-map f [] k a e = absurd (none-some e)
get-map f (x ∷ xs) zero a e = ap Some (ap f (some-same e))
get-map f (x ∷ xs) (suc k) a e = get-map f xs k a e

map-get : {X Y : Type 0} (f : X → Y) (xs : List X) (k : ℕ) (b : Y) → slice_get (map f xs) k ≡ Some b → (a : X) × (slice_get xs k ≡ Some a) × (f a ≡ b)
map-get f [] k b e = absurd (none-some e)
map-get f (x ∷ xs) zero b e = (x, refl, some-same e)
map-get f (x ∷ xs) (suc k) b e = map-get f xs k b e

map-contains : {X Y : Type 0} (f : X → Y) (xs : List X) (x : X) → Contains xs x → Contains (map f xs) (f x)
map-contains f xs x c = let place = contains-get xs x c in get-contains (map f xs) place.0 (f x) (get-map f xs place.0 x place.1)

contains-map : {X Y : Type 0} (f : X → Y) (xs : List X) (y : Y) → Contains (map f xs) y → (x : X) × Contains xs x × (f x ≡ y)
contains-map f xs y c =
    let place = contains-get (map f xs) y c in
    let x = map-get f xs place.0 y place.1 in
    (x.0, get-contains xs place.0 x.0 x.1, x.2)

map-append : {X Y : Type 0} (f : X → Y) (xs ys : List X) → map f (xs ++ ys) ≡ map f xs ++ map f ys
map-append f [] ys = refl
map-append f (x ∷ xs) ys = ap (λ l. f x ∷ l) (map-append f xs ys)

pairwise-mapped : {X Y : Type 0} (f : X → Y) (R : X → X → Type 0) (S : Y → Y → Type 0) (P : X → Type 0) → ((x y : X) → P x → P y → R x y → S (f x) (f y)) → (xs : List X) → AllByRecursion P xs → Pairwise R xs → Pairwise S (map f xs)
pairwise-mapped f R S P told [] all h = tt
pairwise-mapped {X} {Y} f R S P told (x ∷ xs) all h = (each xs all.1 h.0, pairwise-mapped f R S P told xs all.1 h.1)
  where
    each : (ys : List X) → AllByRecursion P ys → AllByRecursion (R x) ys → AllByRecursion (S (f x)) (map f ys)
    each [] a r = tt
    each (y ∷ ys) a r = (told x y all.0 a.0 r.0, each ys a.1 r.1)

module _ (net : Network) (symbols : List Symbol) (are : AreOrderedSymbols net symbols) (f : Followers) (fo : AreFollowersOf net symbols f) (t : AutomatonTables)
    (span : Span2) (e : Destination) (dest : e.host ≡ dest_of span) (at_e : IsDestination symbols e) (k : Kept) (b : AreBetween net symbols f t span (dest_of span) k) (lasts : List Bool) (flags : AreLasts net symbols t (dest_of span) k.vertices lasts) where
  abbrev g : Ground
  g = ground_of f t

  abbrev a : SymbolAutomaton
  a = automaton_of symbols t

  abbrev V : NumberedVertex → Vertex
  V p = vertex_by symbols p

  abbrev d : ℕ
  d = dest_of span

  abbrev Lies : NumberedVertex → Type 0
  Lies p = LiesBetween g (IsLastBy net symbols t d) b.starts p

  numbers : AllByRecursion (HasNumbersOf symbols t) k.vertices
  numbers = all-numbers net symbols are f fo t span d k b

  within : (p : NumberedVertex) → Contains (b.first ++ b.inner) p → p.symbol < length symbols
  within p c = (contained-all (HasNumbersOf symbols t) k.vertices p numbers (subst (λ l. Contains l p) (sym b.vertices) c)).0

  all-within : (ps : List NumberedVertex) → ((p : NumberedVertex) → Contains ps p → Contains (b.first ++ b.inner) p) → AllByRecursion (λ p. p.symbol < length symbols) ps
  all-within ps sub = all-contained (λ p. p.symbol < length symbols) ps (λ p c. within p (sub p c))

  -- the end is entered in the state after the number of its symbol
  enters : (p : NumberedVertex) → step t p.state e.symbol ≡ a.step p.state (at d)
  enters p = sym (steps-by net symbols are t p.state e.symbol (at d) (at_e ∙ ap (λ h. Some (at h)) dest))

  -- a start that leads to the end is kept
  kept-start : (p : NumberedVertex) → Contains b.starts p → LeadsOut g (IsLastBy net symbols t d) p → Contains (b.first ++ b.inner) p
  kept-start p c out = contains-left b.first b.inner p ((b.first_are p).1 (c, ((p, c, ([], refl)), out)))

  -- what follows a kept vertex and leads to the end is kept
  kept-next : (p : NumberedVertex) → Contains (b.first ++ b.inner) p → (m : ℕ) → GoesOnBy g p m → LeadsOut g (IsLastBy net symbols t d) (next_of g p m) → Contains (b.first ++ b.inner) (next_of g p m)
  kept-next p c m goes out =
      let reach = reach-on g b.starts p m (lies net symbols are f fo t span d k b p c).0 goes in
      let inside = goes-inside net symbols are f fo t p m goes in
      contains-right b.first b.inner (next_of g p m) ((b.inner_are (next_of g p m)).1 ((inside.0, inside.1, (b.on (next_of g p m) reach).1), (reach, out)))

  -- from a kept vertex one comes to a kept one that the end may follow
  some-last : (p : NumberedVertex) → Contains (b.first ++ b.inner) p → (ks : List ℕ) → PassesOut g (IsLastBy net symbols t d) p ks → (q : NumberedVertex) × Contains (b.first ++ b.inner) q × IsLastBy net symbols t d q
  some-last p c [] h = (p, c, h)
  some-last p c (m ∷ ks) h = some-last (next_of g p m) (kept-next p c m h.0 (ks, h.1)) ks h.1

  flag : (q : NumberedVertex) → Contains (b.first ++ b.inner) q → IsLastBy net symbols t d q → (i : ℕ) × (slice_get k.vertices i ≡ Some q) × (get_or lasts i false ≡ true)
  flag q c last = let place = contains-get k.vertices q (subst (λ l. Contains l q) (sym b.vertices) c) in (place.0, place.1, (flags.each place.0 q place.1).1 last)

  -- Where no kept vertex is one of the last, no walk is allowed.
  pub is-cut : (product : Product) → IsNothing product → IsLeastBelow t e.symbol k.vertices lasts (length k.vertices) None → IsEmptyOverSpan net a span product
  is-cut product empty none = record {
    none = never;
    vertices = empty.0;
    edges = empty.1;
    starts = empty.2;
    end = empty.3;
  }
    where
      never : (s : ℕ) (us : List Vertex) → IsSource net span s → LeadsToEnd net a d (start_of a s) us → ⊥
      never s us source way =
          let start = vertex-start net symbols are f fo t span s source in
          let out = leads-out net symbols are f fo t d start.0 start.2 us (subst (λ v. LeadsToEnd net a d v us) (sym start.3) way) in
          let last = some-last start.0 (kept-start start.0 ((b.starts_are.each start.0).1 (start.2, start.1)) out) out.0 out.1 in
          let place = flag last.0 last.1 last.2 in
          none place.0 (get-below k.vertices place.0 last.0 place.1) place.2

  module _ (q : ℕ) (least : IsLeastBelow t e.symbol k.vertices lasts (length k.vertices) (Some q)) (product : Product) (is : IsAssembled g symbols k lasts (record { symbol = at e.host; state = q }) product) where
    abbrev first : List Vertex
    first = map V b.first

    abbrev inner : List Vertex
    inner = map V b.inner

    whole : first ++ inner ≡ map V (b.first ++ b.inner)
    whole = sym (map-append V b.first b.inner)

    mapped : map V k.vertices ≡ first ++ inner
    mapped = ap (map V) b.vertices ∙ sym whole

    same-list : (ps : List NumberedVertex) → map vertex_of (map (listed_by symbols) ps) ≡ map V ps
    same-list [] = refl
    same-list (p ∷ ps) = ap (λ l. V p ∷ l) (same-list ps)

    listed : vertices_of product ≡ first ++ (inner ++ record { symbol = at d; state = q } ∷ [])
    listed =
        ap (map vertex_of) is.vertices
        ∙ map-append vertex_of (map (listed_by symbols) k.vertices) (record { symbol = at e.host; state = q } ∷ [])
        ∙ ap₂ (λ l h. l ++ record { symbol = at h; state = q } ∷ []) (same-list k.vertices ∙ mapped) dest
        ∙ append_assoc first inner (record { symbol = at d; state = q } ∷ [])

    size : length (first ++ inner) ≡ length k.vertices
    size = ap length whole ∙ map-length V (b.first ++ b.inner) ∙ ap length (sym b.vertices)

    -- a place among the vertices is one among those by number
    there : (i : ℕ) (v : Vertex) → slice_get (first ++ inner) i ≡ Some v → (p : NumberedVertex) × (slice_get k.vertices i ≡ Some p) × (V p ≡ v)
    there i v h = map-get V k.vertices i v (ap (λ l. slice_get l i) mapped ∙ h)

    here : (i : ℕ) (p : NumberedVertex) → slice_get k.vertices i ≡ Some p → slice_get (first ++ inner) i ≡ Some (V p)
    here i p h = ap (λ l. slice_get l i) (sym mapped) ∙ get-map V k.vertices i p h

    lt-at : (i : ℕ) (p : NumberedVertex) → slice_get k.vertices i ≡ Some p → p.symbol < length symbols
    lt-at i p h = (all-get (HasNumbersOf symbols t) k.vertices i p numbers h).0

    first-are : (v : Vertex) → Contains first v ↔ (IsStart net a span v × StandsIn net a span v)
    first-are v = (to, from)
      where
        to : Contains first v → IsStart net a span v × StandsIn net a span v
        to c =
            let p = contains-map V b.first v c in
            let h = (b.first_are p.0).0 p.1 in
            let start = (b.starts_are.each p.0).0 h.0 in
            subst (λ w. IsStart net a span w × StandsIn net a span w) p.2
            ((start.1.0, start.1.1, start-vertex net symbols are f fo t span p.0 start.1), lies-stands net symbols are f fo t span b.starts b.starts_are p.0 start.0 h.1)

        from : IsStart net a span v × StandsIn net a span v → Contains first v
        from h =
            let start = vertex-start net symbols are f fo t span h.0.0 h.0.1 in
            let stands = stands-lies net symbols are f fo t span b.starts b.starts_are v h.1 in
            let same : start.0 ≡ stands.0 = vertex-once net symbols are f fo t start.0 stands.0 start.2 stands.2 (start.3 ∙ sym h.0.2 ∙ stands.1) in
            subst (Contains first) (start.3 ∙ sym h.0.2) (map-contains V b.first start.0 ((b.first_are start.0).1 ((b.starts_are.each start.0).1 (start.2, start.1), subst Lies (sym same) stands.3)))

    inner-are : (v : Vertex) → Contains inner v ↔ ((¬ IsHost net (loc_of v)) × StandsIn net a span v)
    inner-are v = (to, from)
      where
        to : Contains inner v → (¬ IsHost net (loc_of v)) × StandsIn net a span v
        to c =
            let p = contains-map V b.inner v c in
            let h = (b.inner_are p.0).0 p.1 in
            let x = h.0.1 in
            let same : x.0 ≡ get_or symbols p.0.symbol (at 0) = sym (at-get symbols p.0.symbol (at 0) x.0 x.1) in
            subst (λ w. (¬ IsHost net (loc_of w)) × StandsIn net a span w) p.2
            (subst (λ y. ¬ IsHost net y.loc) same x.2, lies-stands net symbols are f fo t span b.starts b.starts_are p.0 h.0.0 h.1)

        from : (¬ IsHost net (loc_of v)) × StandsIn net a span v → Contains inner v
        from h =
            let stands = stands-lies net symbols are f fo t span b.starts b.starts_are v h.1 in
            let inside : IsSymbolInside net symbols stands.0.symbol = (get_or symbols stands.0.symbol (at 0), get-at symbols stands.0.symbol (at 0) stands.2, subst (λ w. ¬ IsHost net (loc_of w)) stands.1 h.0) in
            subst (Contains inner) (sym stands.1) (map-contains V b.inner stands.0 ((b.inner_are stands.0).1 ((stands.2, inside, (b.on stands.0 stands.3.0).1), stands.3)))

    ordered : (ps : List NumberedVertex) → ((p : NumberedVertex) → Contains ps p → Contains (b.first ++ b.inner) p) → Pairwise IsNumberedBefore ps → Pairwise IsBefore (map V ps)
    ordered ps sub h = pairwise-mapped V IsNumberedBefore IsBefore (λ p. p.symbol < length symbols) (λ p r lp lr lt. before-by net symbols are f fo t p r lp lr lt) ps (all-within ps sub) h

    starts-are : (n : ℕ) → Contains product.starts n ↔ (n < length first)
    starts-are n = subst (λ m. Contains product.starts n ↔ (n < m)) (b.count ∙ sym (map-length V b.first)) (is.starts.each n)

    joined : (x : ℕ × ℕ) → Contains product.edges x ↔ IsJoined net a d (first ++ inner) x
    joined x = (λ c. let h = (is.edges.each x).0 c in to h.0 h.1, λ h. (is.edges.each x).1 (from h))
      where
        to : x.0 < length k.vertices → IsEdgeOut g k.vertices lasts x.0 x → IsJoined net a d (first ++ inner) x
        to lt (inl h) =
            let lp = lt-at x.0 h.0 h.1 in
            let by = h.2.1 in
            let next = next_of g h.0 by.0 in
            let turns : V h.0 ≢ V next = λ same. by.3 (vertex-once net symbols are f fo t h.0 next lp (goes-inside net symbols are f fo t h.0 by.0 by.1).0 same) in
            (V h.0, here x.0 h.0 h.1, inl (V next, here x.1 next by.2, goes-edge net symbols are f fo t h.0 lp by.0 by.1 turns))
        to lt (inr h) =
            let p = below k.vertices x.0 lt in
            (V p.0, here x.0 p.0 p.1, inr (h.1 ∙ sym size, (flags.each x.0 p.0 p.1).0 h.2))
          where
            below : (xs : List NumberedVertex) (i : ℕ) → i < length xs → (p : NumberedVertex) × (slice_get xs i ≡ Some p)
            below xs i l = let none : NumberedVertex = record { symbol = 0; state = 0 } in (get_or xs i none, get-at xs i none l)

        from : IsJoined net a d (first ++ inner) x → (x.0 < length k.vertices) × IsEdgeOut g k.vertices lasts x.0 x
        from h = by (there x.0 h.0 h.1) h.2
          where
            by : (p : NumberedVertex) × (slice_get k.vertices x.0 ≡ Some p) × (V p ≡ h.0) → ((u : Vertex) × (slice_get (first ++ inner) x.1 ≡ Some u) × IsEdge net a h.0 u) ⊎ ((x.1 ≡ length (first ++ inner)) × IsLast net a d h.0) → (x.0 < length k.vertices) × IsEdgeOut g k.vertices lasts x.0 x
            by p (inl j) =
                let lp = lt-at x.0 p.0 p.1 in
                let next = edge-goes net symbols are f fo t p.0 lp j.0 (subst (λ v. IsEdge net a v j.0) (sym p.2) j.2) in
                let r = there x.1 j.0 j.1 in
                let same : r.0 ≡ next_of g p.0 next.0 = vertex-once net symbols are f fo t r.0 (next_of g p.0 next.0) (lt-at x.1 r.0 r.1) (goes-inside net symbols are f fo t p.0 next.0 next.1).0 (r.2 ∙ next.2) in
                (get-below k.vertices x.0 p.0 p.1, inl (p.0, p.1, (refl, (next.0, next.1, r.1 ∙ ap Some same, λ turn. next.3 (ap V turn)))))
            by p (inr j) = (get-below k.vertices x.0 p.0 p.1, inr (refl, j.0 ∙ size, (flags.each x.0 p.0 p.1).1 (subst (IsLast net a d) (sym p.2) j.1)))

    entered : (v : Vertex) × Contains (first ++ inner) v × IsLast net a d v × (q ≡ a.step v.state (at d))
    entered =
        let i = least.0 in
        let p = i.3 in
        (V p.0, get-contains (first ++ inner) i.0 (V p.0) (here i.0 p.0 p.1), (flags.each i.0 p.0 p.1).0 i.2, p.2 ∙ enters p.0)

    least-is : (v : Vertex) → Contains (first ++ inner) v → IsLast net a d v → q ≤ a.step v.state (at d)
    least-is v c last =
        let place = contains-get (first ++ inner) v c in
        let p = there place.0 v place.1 in
        let le = least.1 place.0 p.0 (get-below k.vertices place.0 p.0 p.1) ((flags.each place.0 p.0 p.1).1 (subst (IsLast net a d) (sym p.2) last)) p.1 in
        subst (λ w. q ≤ a.step w.state (at d)) p.2 (subst (λ m. q ≤ m) (enters p.0) le)

    -- Else the vertices and edges are those of the product.
    pub is-trimmed : IsTrimmed net a span product
    is-trimmed = record {
      first = first;
      inner = inner;
      state = q;
      vertices = listed;
      first_are = first-are;
      inner_are = inner-are;
      first_ascend = ordered b.first (λ p c. contains-left b.first b.inner p c) b.first_ascend;
      inner_ascend = ordered b.inner (λ p c. contains-right b.first b.inner p c) b.inner_ascend;
      starts = starts-are;
      starts_ascend = is.starts.ascend;
      end = is.end_is ∙ ap Some (sym size);
      entered = entered;
      least = least-is;
      joined = joined;
      edges_ascend = is.edges.ascend;
    }

-- the edges that are assembled stand among the vertices
pub assembled-inside : (g : Ground) (kept : List NumberedVertex) (lasts : List Bool) (edges : List (ℕ × ℕ)) → AreEdgesBelow g kept lasts (length kept) edges → AreEdgesInside (suc (length kept)) edges (Some (length kept))
assembled-inside g kept lasts edges s = (all-contained (λ e. (e.0 < suc (length kept)) × (e.1 < suc (length kept))) edges (λ e c. let h = (s.each e).0 c in let lt = h.0 in (omega (arith, lt), to e h.1)), omega arith)
  where
    to : (e : ℕ × ℕ) → IsEdgeOut g kept lasts e.0 e → e.1 < suc (length kept)
    to e (inl h) = let lt = get-below kept e.1 (next_of g h.0 h.2.1.0) h.2.1.2 in omega (arith, lt)
    to e (inr h) = let same = h.1 in omega (arith, same)
