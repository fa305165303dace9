-- Vertices by numbers and the vertices that they stand for.
use Rattle.std.proofs.Common.{◌≡◌, ◌≢◌, ◌<◌, ◌≤◌, ◌⊎◌, inl, inr, ◌==◌, ℕ, suc, zero, Bool, true, false, List, [], ◌∷◌, length, map, get_or, slice_get, Contains, Some, refl, sym, ◌∙◌, ap, subst, arith}
use Rattle.std.proofs.lemmas.Bool.{eqb-true, eq-eqb}
use Rattle.merlin_model.specs.declared.policy.Symbol.{Symbol}
use Rattle.merlin_model.specs.Networks.{Network, IsHost}
use Rattle.merlin_model.specs.Words.{at, IsSymbol, MayFollow}
use Rattle.merlin_model.proofs.Members.{in_from}
use Rattle.path_automaton.specs.Automata.{AutomatonTables, step, number_in}
use Rattle.path_automaton.proofs.Listed.{number-at}
use Rattle.rules_model.specs.Products.{SymbolAutomaton, Vertex, start_of, function_place, IsEdge, LeadsTo, LeadsToEnd, IsBefore}
use Rattle.rules_model.proofs.Trees.{host_symbol}
use Rattle.product_graph.specs.declared.followers.Followers.{Followers}
use Rattle.product_graph.specs.declared.vertex_set.NumberedVertex.{NumberedVertex}
use Rattle.product_graph.specs.declared.span.Span2.{Span2}
use Rattle.product_graph.specs.Products.{automaton_of, dest_of, IsSource, StandsIn}
use Rattle.product_graph.specs.Inside.{AreRising}
use Rattle.product_graph.specs.Followers.{IsSymbolBefore, AreOrderedSymbols, follower_numbers, IsFollowerRow, AreFollowersOf}
use Rattle.product_graph.specs.Numbered.{Ground, ground_of, next_of, GoesOnBy, PassesTo, PassesOut, LeadsOut, IsNumberedBefore, vertex_by}
use Rattle.product_graph.specs.Ends.{IsLastBy, IsStartBy, AreStartsBelow, IsSymbolInside}
use Rattle.product_graph.specs.Kept.{LiesBetween}
use Rattle.product_graph.proofs.Lists.{false-true, lt-or-ge, get-at, at-get, get-below, get-contains, map-length, pairwise-get, contains-none}
use Rattle.product_graph.proofs.Following.{symbol-within}
use Rattle.product_graph.proofs.Numbers.{one-symbol, number-here}
use Rattle.product_graph.proofs.Starting.{source-host}

same-number : (a b : ℕ) → (a ≡ b) ⊎ (a ≢ b)
same-number a b = by (a == b) refl
  where
    by : (c : Bool) → (a == b) ≡ c → (a ≡ b) ⊎ (a ≢ b)
    by true e = inl (eqb-true a b e)
    by false e = inr (λ s. false-true (sym e ∙ eq-eqb a b s))

pub same-vertex : (p q : NumberedVertex) → (p ≡ q) ⊎ (p ≢ q)
same-vertex p q = by (same-number p.symbol q.symbol) (same-number p.state q.state)
  where
    by : (p.symbol ≡ q.symbol) ⊎ (p.symbol ≢ q.symbol) → (p.state ≡ q.state) ⊎ (p.state ≢ q.state) → (p ≡ q) ⊎ (p ≢ q)
    by (inl a) (inl b) = inl (λ i. record { symbol = a i; state = b i })
    by (inl a) (inr b) = inr (λ e. b (ap (λ x. x.state) e))
    by (inr a) o = inr (λ e. a (ap (λ x. x.symbol) e))

get-mapped : {X Y : Type 0} (f : X → Y) (xs : List X) (k : ℕ) (d : X) (e : Y) → k < length xs → get_or (map f xs) k e ≡ f (get_or xs k d)
get-mapped f [] k d e lt = absurd (omega (arith, lt))
get-mapped f (x ∷ xs) zero d e lt = refl
get-mapped f (x ∷ xs) (suc k) d e lt = get-mapped f xs k d e (omega arith)

get-past : {X : Type 0} (xs : List X) (k : ℕ) (d : X) → length xs ≤ k → get_or xs k d ≡ d
get-past [] k d le = refl
get-past (x ∷ xs) zero d le = absurd (omega (arith, le))
get-past (x ∷ xs) (suc k) d le = get-past xs k d (omega arith)

module _ (net : Network) (symbols : List Symbol) (are : AreOrderedSymbols net symbols) (f : Followers) (fo : AreFollowersOf net symbols f) (t : AutomatonTables) where
  abbrev g : Ground
  g = ground_of f t

  abbrev a : SymbolAutomaton
  a = automaton_of symbols t

  abbrev V : NumberedVertex → Vertex
  V p = vertex_by symbols p

  pub long : length f.places ≡ length symbols
  long = ap length fo.places ∙ map-length (λ x. x.loc) symbols

  here : (k : ℕ) → k < length symbols → slice_get symbols k ≡ Some (get_or symbols k (at 0))
  here k lt = get-at symbols k (at 0) lt

  listed : (k : ℕ) → k < length symbols → IsSymbol net (get_or symbols k (at 0))
  listed k lt = (are.each (get_or symbols k (at 0))).0 (get-contains symbols k (get_or symbols k (at 0)) (here k lt))

  -- the row behind any number holds symbols inside, in order
  any-row : (k : ℕ) → AreRising (follower_numbers f k) × ((j : ℕ) → Contains (follower_numbers f k) j → (j < length symbols) × IsSymbolInside net symbols j)
  any-row k = by (lt-or-ge (get_or f.places k 0) (length f.rows))
    where
      by : (get_or f.places k 0 < length f.rows) ⊎ (length f.rows ≤ get_or f.places k 0) → AreRising (follower_numbers f k) × ((j : ℕ) → Contains (follower_numbers f k) j → (j < length symbols) × IsSymbolInside net symbols j)
      by (inl lt) = let row = fo.rows (get_or f.places k 0) lt in (row.ascends, λ j c. let h = (row.each j).0 c in (h.0, (h.1.0, h.1.1, h.1.3)))
      by (inr ge) = subst (λ l. AreRising l × ((j : ℕ) → Contains l j → (j < length symbols) × IsSymbolInside net symbols j)) (sym (get-past f.rows (get_or f.places k 0) [] ge)) (tt, λ j c. absurd (contains-none j c))

  pub rising : (k : ℕ) → AreRising (follower_numbers f k)
  rising k = (any-row k).0

  pub goes-inside : (p : NumberedVertex) (k : ℕ) → GoesOnBy g p k → (k < length symbols) × IsSymbolInside net symbols k
  goes-inside p k goes = (any-row p.symbol).1 k goes

  row-at : (k : ℕ) → k < length symbols → IsFollowerRow net symbols (get_or symbols k (at 0)).loc (length symbols) (follower_numbers f k)
  row-at k lt =
      let loc : get_or f.places k 0 ≡ (get_or symbols k (at 0)).loc = ap (λ l. get_or l k 0) fo.places ∙ get-mapped (λ x. x.loc) symbols k (at 0) 0 lt in
      let count = fo.count in
      let within = symbol-within net (get_or symbols k (at 0)) (listed k lt) in
      subst (λ l. IsFollowerRow net symbols l (length symbols) (follower_numbers f k)) loc (fo.rows (get_or f.places k 0) (omega (arith, loc, count, within)))

  -- different numbers stand for different vertices
  pub vertex-once : (p q : NumberedVertex) → p.symbol < length symbols → q.symbol < length symbols → V p ≡ V q → p ≡ q
  vertex-once p q lp lq e =
      let symbol : p.symbol ≡ q.symbol = one-symbol symbols are.ascend p.symbol q.symbol (V p).symbol (here p.symbol lp) (here q.symbol lq ∙ ap Some (sym (ap (λ v. v.symbol) e))) in
      let state : p.state ≡ q.state = ap (λ v. v.state) e in
      λ i. record { symbol = symbol i; state = state i }

  -- a symbol of the network has a number
  number : (x : Symbol) → IsSymbol net x → slice_get symbols (number_in symbols x) ≡ Some x
  number x is = number-at symbols x (in_from symbols x ((are.each x).1 is))

  -- Edges.

  pub edge-goes : (p : NumberedVertex) → p.symbol < length symbols → (u : Vertex) → IsEdge net a (V p) u → (k : ℕ) × GoesOnBy g p k × (u ≡ V (next_of g p k)) × (V p ≢ V (next_of g p k))
  edge-goes p lt u e =
      let k = number_in symbols u.symbol in
      let at_k = number u.symbol e.symbol in
      let goes = ((row-at p.symbol lt).each k).1 (get-below symbols k u.symbol at_k, (u.symbol, at_k, e.follows, e.inside)) in
      let symbol : u.symbol ≡ get_or symbols k (at 0) = sym (at-get symbols k (at 0) u.symbol at_k) in
      let state : u.state ≡ step t p.state k = e.state in
      let same : u ≡ V (next_of g p k) = λ i. record { symbol = symbol i; state = state i } in
      (k, goes, same, subst (λ w. V p ≢ w) same e.turns)

  pub goes-edge : (p : NumberedVertex) → p.symbol < length symbols → (k : ℕ) → GoesOnBy g p k → V p ≢ V (next_of g p k) → IsEdge net a (V p) (V (next_of g p k))
  goes-edge p lt k goes turns =
      let h = ((row-at p.symbol lt).each k).0 goes in
      let same : h.1.0 ≡ get_or symbols k (at 0) = sym (at-get symbols k (at 0) h.1.0 h.1.1) in
      record {
        follows = subst (λ y. MayFollow net ((V p).symbol, y)) same h.1.2;
        symbol = listed k h.0;
        inside = subst (λ y. ¬ IsHost net y.loc) same h.1.3;
        state = ap (step t p.state) (sym (number-here symbols are.ascend k (get_or symbols k (at 0)) (here k h.0)));
        turns = turns;
      }

  next-within : (p : NumberedVertex) (k : ℕ) → GoesOnBy g p k → k < length symbols
  next-within p k goes = (goes-inside p k goes).0

  -- an edge leads on, or turns at the vertex
  go : (W : Vertex → Type 0) (p : NumberedVertex) → p.symbol < length symbols → (k : ℕ) → GoesOnBy g p k → W (V (next_of g p k)) → (IsEdge net a (V p) (V (next_of g p k)) → W (V p)) → W (V p)
  go W p lt k goes w on = by (same-vertex p (next_of g p k))
    where
      by : (p ≡ next_of g p k) ⊎ (p ≢ next_of g p k) → W (V p)
      by (inl same) = subst (λ q. W (V q)) (sym same) w
      by (inr other) = on (goes-edge p lt k goes (λ e. other (vertex-once p (next_of g p k) lt (next-within p k goes) e)))

  -- Ways.

  pub passes-leads : (p : NumberedVertex) → p.symbol < length symbols → (ks : List ℕ) (q : NumberedVertex) → PassesTo g p ks q → (us : List Vertex) × LeadsTo net a (V p) us (V q)
  passes-leads p lt [] q h = ([], ap V h)
  passes-leads p lt (k ∷ ks) q h =
      let rest = passes-leads (next_of g p k) (next-within p k h.0) ks q h.1 in
      go (λ v. (us : List Vertex) × LeadsTo net a v us (V q)) p lt k h.0 rest (λ edge. (V (next_of g p k) ∷ rest.0, (edge, rest.1)))

  pub leads-passes : (p : NumberedVertex) → p.symbol < length symbols → (us : List Vertex) (v : Vertex) → LeadsTo net a (V p) us v → (q : NumberedVertex) × (v ≡ V q) × (q.symbol < length symbols) × ((ks : List ℕ) × PassesTo g p ks q)
  leads-passes p lt [] v h = (p, sym h, lt, ([], refl))
  leads-passes p lt (u ∷ us) v h =
      let next = edge-goes p lt u h.0 in
      let rest = leads-passes (next_of g p next.0) (next-within p next.0 next.1) us v (subst (λ w. LeadsTo net a w us v) next.2 h.1) in
      (rest.0, rest.1, rest.2, (next.0 ∷ rest.3.0, (next.1, rest.3.1)))

  pub out-leads : (d : ℕ) (p : NumberedVertex) → p.symbol < length symbols → (ks : List ℕ) → PassesOut g (IsLastBy net symbols t d) p ks → (us : List Vertex) × LeadsToEnd net a d (V p) us
  out-leads d p lt [] h = ([], h)
  out-leads d p lt (k ∷ ks) h =
      let rest = out-leads d (next_of g p k) (next-within p k h.0) ks h.1 in
      go (λ v. (us : List Vertex) × LeadsToEnd net a d v us) p lt k h.0 rest (λ edge. (V (next_of g p k) ∷ rest.0, (edge, rest.1)))

  pub leads-out : (d : ℕ) (p : NumberedVertex) → p.symbol < length symbols → (us : List Vertex) → LeadsToEnd net a d (V p) us → LeadsOut g (IsLastBy net symbols t d) p
  leads-out d p lt [] h = ([], h)
  leads-out d p lt (u ∷ us) h =
      let next = edge-goes p lt u h.0 in
      let rest = leads-out d (next_of g p next.0) (next-within p next.0 next.1) us (subst (λ w. LeadsToEnd net a d w us) next.2 h.1) in
      (next.0 ∷ rest.0, (next.1, rest.1))

  -- Starts.

  pub start-vertex : (span : Span2) (p : NumberedVertex) → (h : IsStartBy net symbols t span p) → V p ≡ start_of a h.0
  start-vertex span p h =
      let symbol : get_or symbols p.symbol (at 0) ≡ at h.0 = at-get symbols p.symbol (at 0) (at h.0) h.2 in
      let state : p.state ≡ step t 0 (number_in symbols (at h.0)) = h.3 ∙ ap (step t 0) (sym (number-here symbols are.ascend p.symbol (at h.0) h.2)) in
      λ i. record { symbol = symbol i; state = state i }

  pub vertex-start : (span : Span2) (s : ℕ) → IsSource net span s → (p : NumberedVertex) × IsStartBy net symbols t span p × (p.symbol < length symbols) × (V p ≡ start_of a s)
  vertex-start span s source =
      let at_s = number (at s) (host_symbol net s (source-host net span s source)) in
      let p : NumberedVertex = record { symbol = number_in symbols (at s); state = step t 0 (number_in symbols (at s)) } in
      let h : IsStartBy net symbols t span p = (s, source, at_s, refl) in
      (p, h, get-below symbols (number_in symbols (at s)) (at s) at_s, start-vertex span p h)

  module _ (span : Span2) (starts : List NumberedVertex) (s : AreStartsBelow net symbols t span (length symbols) starts) where
    abbrev Lies : NumberedVertex → Type 0
    Lies p = LiesBetween g (IsLastBy net symbols t (dest_of span)) starts p

    pub stands-lies : (v : Vertex) → StandsIn net a span v → (q : NumberedVertex) × (v ≡ V q) × (q.symbol < length symbols) × Lies q
    stands-lies v h =
        let start = vertex-start span h.0 h.1 in
        let way = leads-passes start.0 start.2 h.2.before v (subst (λ w. LeadsTo net a w h.2.before v) (sym start.3) h.2.reached) in (
          way.0,
          way.1,
          way.2,
          ((start.0, (s.each start.0).1 (start.2, start.1), way.3), leads-out (dest_of span) way.0 way.2 h.2.after (subst (λ w. LeadsToEnd net a (dest_of span) w h.2.after) way.1 h.2.leads)),
        )

    pub lies-stands : (q : NumberedVertex) → q.symbol < length symbols → Lies q → StandsIn net a span (V q)
    lies-stands q lt h =
        let start = (s.each h.0.0).0 h.0.1 in
        let way = passes-leads h.0.0 start.0 h.0.2.0 q h.0.2.1 in
        let out = out-leads (dest_of span) q lt h.1.0 h.1.1 in (
          start.1.0,
          start.1.1,
          record {
            before = way.0;
            reached = subst (λ w. LeadsTo net a w way.0 (V q)) (start-vertex span h.0.0 start.1) way.1;
            after = out.0;
            leads = out.1;
          },
        )

  -- Order.

  pub before-by : (p q : NumberedVertex) → p.symbol < length symbols → q.symbol < length symbols → IsNumberedBefore p q → IsBefore (V p) (V q)
  before-by p q lp lq (inr h) =
      let symbol : get_or symbols p.symbol (at 0) ≡ get_or symbols q.symbol (at 0) = ap (λ k. get_or symbols k (at 0)) h.0 in
      inr (ap (λ x. x.loc) symbol, inr (ap (λ x. function_place x.fun) symbol, h.1))
  before-by p q lp lq (inl lt) = by (pairwise-get IsSymbolBefore symbols p.symbol q.symbol (get_or symbols p.symbol (at 0)) (get_or symbols q.symbol (at 0)) are.ascend lt (here p.symbol lp) (here q.symbol lq))
    where
      by : IsSymbolBefore (get_or symbols p.symbol (at 0)) (get_or symbols q.symbol (at 0)) → IsBefore (V p) (V q)
      by (inl l) = inl l
      by (inr l) = inr (l.0, inl l.1)
