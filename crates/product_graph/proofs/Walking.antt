-- Paths of a product and walks.
use Rattle.std.proofs.Common.{◌≡◌, ◌⊎◌, inl, inr, ℕ, suc, zero, true, List, [], ◌∷◌, ◌++◌, length, map, get_or, slice_get, Contains, Some, refl, sym, ◌∙◌, ap, ap₂, subst}
use Rattle.std.proofs.lemmas.Option.{get_or_from_slice_get}
use Rattle.merlin_model.specs.declared.policy.Symbol.{Symbol}
use Rattle.merlin_model.specs.Networks.{Network, IsHost}
use Rattle.merlin_model.specs.Words.{at, MayFollow, IsWalk, GoesOn, WalksFrom}
use Rattle.merlin_model.proofs.Members.{in_from, in_to}
use Rattle.merlin_model.proofs.WordLaws.{goes_on-walk, walk-goes_on}
use Rattle.rules_model.specs.Products.{SymbolAutomaton, Vertex, start_of, ending_state, word_to, IsEdge, IsLast, LeadsToEnd}
use Rattle.rules_model.proofs.Trees.{host_symbol}
use Rattle.rules_model.proofs.Ways.{way-goes_on, way-accepts}
use Rattle.product_graph.specs.declared.span.Vertex.{Vertex as ListedVertex}
use Rattle.product_graph.specs.declared.span.Product.{Product}
use Rattle.product_graph.specs.declared.span.Span2.{Span2}
use Rattle.product_graph.specs.Products.{dest_of, IsSource, vertex_of, StandsIn, IsTrimmed}
use Rattle.product_graph.specs.Walks.{LeadsBy, IsPathBy, vertex_symbol_at, edge_at, arrival_by, word_by, vertex_after, NeverTurns}
use Rattle.product_graph.proofs.Standing.{some-same, none-some, get-below, below-get, get-in, in-get, get-front, source-host, stands-next, stands-at, end-at, not-end, joined-from}

-- the symbol of a listed vertex
symbol-is : (vs : List ListedVertex) (k : ℕ) (v : Vertex) → slice_get (map vertex_of vs) k ≡ Some v → (get_or vs k (record { symbol = at 0; state = 0 })).symbol ≡ v.symbol
symbol-is [] k v e = absurd (none-some e)
symbol-is (x ∷ vs) zero v e = ap (λ y. y.symbol) (some-same e)
symbol-is (x ∷ vs) (suc k) v e = symbol-is vs k v e

edge-is : (product : Product) (k : ℕ) (e : ℕ × ℕ) → slice_get product.edges k ≡ Some e → edge_at product k ≡ e
edge-is product k e at_k = get_or_from_slice_get product.edges k e (0, 0) at_k

-- a walk that never turns gives its vertices
exact-way : (net : Network) (a : SymbolAutomaton) (d : ℕ) (v : Vertex) (w : List Symbol) → GoesOn net d v.symbol w → a.accepts (ending_state a v.state w) ≡ true → NeverTurns a v w → (us : List Vertex) × LeadsToEnd net a d v us × (word_to d us ≡ w)
exact-way net a d v [] h e t = absurd h
exact-way net a d v (y ∷ []) h e t = ([], record { follows = subst (λ z. MayFollow net (v.symbol, z)) h.2 h.0; accepts = ap (λ z. a.accepts (a.step v.state z)) (sym h.2) ∙ e }, ap (λ z. z ∷ []) (sym h.2))
exact-way net a d v (y ∷ z ∷ rest) h e t =
    let more = exact-way net a d (vertex_after a v y) (z ∷ rest) h.3 e t.1 in
    (vertex_after a v y ∷ more.0, (record { follows = h.0; symbol = h.1; inside = h.2; state = refl; turns = t.0 }, more.1), ap (λ l. y ∷ l) more.2)

module _ (net : Network) (a : SymbolAutomaton) (span : Span2) (product : Product) (is : IsTrimmed net a span product) where
  symbol-here : (k : ℕ) (v : Vertex) → slice_get (is.first ++ is.inner) k ≡ Some v → vertex_symbol_at product k ≡ v.symbol
  symbol-here k v ev = symbol-is product.vertices k v (stands-at net a span product is k v ev)

  symbol-end : (k : ℕ) → k ≡ length (is.first ++ is.inner) → vertex_symbol_at product k ≡ at (dest_of span)
  symbol-end k same = ap (vertex_symbol_at product) same ∙ symbol-is product.vertices (length (is.first ++ is.inner)) (record { symbol = at (dest_of span); state = is.state }) (end-at net a span product is)

  -- edges that lead to the end pass vertices that lead there
  path-way : (ks : List ℕ) (k : ℕ) (v : Vertex) → slice_get (is.first ++ is.inner) k ≡ Some v → LeadsBy product k ks → (us : List Vertex) × LeadsToEnd net a (dest_of span) v us × (map (arrival_by product) ks ≡ word_to (dest_of span) us)
  path-way [] k v ev h = absurd (not-end net a span product is k v ev (some-same (sym h ∙ is.end)))
  path-way (j ∷ ks) k v ev h = by ks (λ i u. path-way ks i u) (joined-from net a span product is k h.0.1 v ev there) h.3
    where
      there : Contains product.edges (k, h.0.1)
      there = subst (λ i. Contains product.edges (i, h.0.1)) h.2 (in_to product.edges h.0 (get-in product.edges j h.0 h.1))

      arrives : arrival_by product j ≡ vertex_symbol_at product h.0.1
      arrives = ap (λ e. vertex_symbol_at product e.1) (edge-is product j h.0 h.1)

      last : (ks : List ℕ) → h.0.1 ≡ length (is.first ++ is.inner) → LeadsBy product h.0.1 ks → ks ≡ []
      last [] same l = refl
      last (i ∷ ks) same l = absurd (let g = (is.joined l.0).0 (in_to product.edges l.0 (get-in product.edges i l.0 l.1)) in not-end net a span product is l.0.0 g.0 g.1 (l.2 ∙ same))

      by : (ks : List ℕ) → ((i : ℕ) (u : Vertex) → slice_get (is.first ++ is.inner) i ≡ Some u → LeadsBy product i ks → (us : List Vertex) × LeadsToEnd net a (dest_of span) u us × (map (arrival_by product) ks ≡ word_to (dest_of span) us)) →
          ((u : Vertex) × (slice_get (is.first ++ is.inner) h.0.1 ≡ Some u) × IsEdge net a v u) ⊎ ((h.0.1 ≡ length (is.first ++ is.inner)) × IsLast net a (dest_of span) v) →
          LeadsBy product h.0.1 ks → (us : List Vertex) × LeadsToEnd net a (dest_of span) v us × (map (arrival_by product) (j ∷ ks) ≡ word_to (dest_of span) us)
      by ks ih (inl g) l =
          let rest = ih h.0.1 g.0 g.1 l in
          (g.0 ∷ rest.0, (g.2, rest.1), ap₂ (λ x w. x ∷ w) (arrives ∙ symbol-here h.0.1 g.0 g.1) rest.2)
      by ks ih (inr g) l = ([], g.1, ap₂ (λ x w. x ∷ w) (arrives ∙ symbol-end h.0.1 g.0) (ap (map (arrival_by product)) (last ks g.0 l)))

  -- vertices that lead to the end are passed by edges
  way-path : (us : List Vertex) (k : ℕ) (v : Vertex) → slice_get (is.first ++ is.inner) k ≡ Some v → LeadsToEnd net a (dest_of span) v us → (j : ℕ) × ((ks : List ℕ) × (LeadsBy product k (j ∷ ks) × (map (arrival_by product) (j ∷ ks) ≡ word_to (dest_of span) us)))
  way-path [] k v ev leads =
      let there = (is.joined (k, length (is.first ++ is.inner))).1 (v, ev, inr (refl, leads)) in
      let place = in-get product.edges (k, length (is.first ++ is.inner)) (in_from product.edges (k, length (is.first ++ is.inner)) there) in
      (place.0, ([], (((k, length (is.first ++ is.inner)), place.1, refl, is.end), ap (λ x. x ∷ []) (ap (λ e. vertex_symbol_at product e.1) (edge-is product place.0 (k, length (is.first ++ is.inner)) place.1) ∙ symbol-end (length (is.first ++ is.inner)) refl))))
  way-path (u ∷ us) k v ev leads =
      let at_u = in-get (is.first ++ is.inner) u (stands-next net a span product is v u us (get-in (is.first ++ is.inner) k v ev) leads.0 leads.1) in
      let there = (is.joined (k, at_u.0)).1 (v, ev, inl (u, at_u.1, leads.0)) in
      let place = in-get product.edges (k, at_u.0) (in_from product.edges (k, at_u.0) there) in
      let rest = way-path us at_u.0 u at_u.1 leads.1 in
      (place.0, (rest.0 ∷ rest.1.0, (((k, at_u.0), place.1, refl, rest.1.1.0), ap₂ (λ x w. x ∷ w) (ap (λ e. vertex_symbol_at product e.1) (edge-is product place.0 (k, at_u.0) place.1) ∙ symbol-here at_u.0 u at_u.1) rest.1.1.1)))

  -- the place of a start
  start-place : (k : ℕ) → Contains product.starts k → (s : ℕ) × IsSource net span s × (slice_get (is.first ++ is.inner) k ≡ Some (start_of a s))
  start-place k there =
      let lt = (is.starts k).0 there in
      let v = below-get is.first k lt in
      let start = ((is.first_are v.0).0 (in_to is.first v.0 (get-in is.first k v.0 v.1))).0 in
      (start.0, start.1, get-front is.first is.inner k (start_of a start.0) (v.1 ∙ ap Some start.2))

  pub path-walks : IsHost net (dest_of span) → (edges : List ℕ) → IsPathBy product edges → (s : ℕ) × IsSource net span s × IsWalk net s (dest_of span) (word_by product edges) × (a.accepts (ending_state a 0 (word_by product edges)) ≡ true)
  path-walks dest [] h = let place = start-place h.0 h.1 in absurd (not-end net a span product is h.0 (start_of a place.0) place.2 (some-same (sym h.2 ∙ is.end)))
  path-walks dest (k ∷ ks) h =
      let place = start-place h.0 h.1 in
      let way = path-way (k ∷ ks) h.0 (start_of a place.0) place.2 h.2 in
      let first : vertex_symbol_at product (edge_at product k).0 ≡ at place.0 = ap (λ e. vertex_symbol_at product e.0) (edge-is product k h.2.0 h.2.1) ∙ ap (vertex_symbol_at product) h.2.2 ∙ symbol-here h.0 (start_of a place.0) place.2 in
      let word : word_by product (k ∷ ks) ≡ at place.0 ∷ word_to (dest_of span) way.0 = ap₂ (λ x w. x ∷ w) first way.2 in
      let host = source-host net span place.0 place.1 in
      let walks : WalksFrom net place.0 (dest_of span) (at place.0 ∷ word_to (dest_of span) way.0) = (refl, host_symbol net place.0 host, host, dest, way-goes_on net a (dest_of span) (start_of a place.0) way.0 dest way.1) in (
        place.0,
        place.1,
        subst (IsWalk net place.0 (dest_of span)) (sym word) (goes_on-walk net place.0 (dest_of span) (at place.0 ∷ word_to (dest_of span) way.0) walks),
        ap (λ w. a.accepts (ending_state a 0 w)) word ∙ way-accepts net a (dest_of span) (start_of a place.0) way.0 way.1,
      )

  pub walk-paths : (s : ℕ) (rest : List Symbol) → IsSource net span s → IsWalk net s (dest_of span) (at s ∷ rest) → a.accepts (ending_state a 0 (at s ∷ rest)) ≡ true → NeverTurns a (start_of a s) rest → (edges : List ℕ) × IsPathBy product edges × (word_by product edges ≡ at s ∷ rest)
  walk-paths s rest source walk accepted turns =
      let goes : WalksFrom net s (dest_of span) (at s ∷ rest) = walk-goes_on net s (dest_of span) (at s ∷ rest) walk in
      let way = exact-way net a (dest_of span) (start_of a s) rest goes.4 accepted turns in
      let stands : StandsIn net a span (start_of a s) = (s, source, record { before = []; reached = refl; after = way.0; leads = way.1 }) in
      let listed = (is.first_are (start_of a s)).1 ((s, source, refl), stands) in
      let place = in-get is.first (start_of a s) (in_from is.first (start_of a s) listed) in
      let here : slice_get (is.first ++ is.inner) place.0 ≡ Some (start_of a s) = get-front is.first is.inner place.0 (start_of a s) place.1 in
      let path = way-path way.0 place.0 (start_of a s) here way.1 in
      let leads = path.1.1.0 in
      let first : vertex_symbol_at product (edge_at product path.0).0 ≡ at s = ap (λ e. vertex_symbol_at product e.0) (edge-is product path.0 leads.0 leads.1) ∙ ap (vertex_symbol_at product) leads.2 ∙ symbol-here place.0 (start_of a s) here in
      (path.0 ∷ path.1.0, (place.0, (is.starts place.0).1 (get-below is.first place.0 (start_of a s) place.1), leads), ap₂ (λ x w. x ∷ w) first (path.1.1.1 ∙ way.2))
