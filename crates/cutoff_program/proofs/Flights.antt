-- Trails over the edges of a product and ways through it.
use Rattle.std.proofs.Common.{◌≡◌, ◌≢◌, ℕ, zero, suc, ◌+◌, ◌*◌, ◌≤◌, ◌<◌, ◌⊎◌, inl, inr, Bool, true, false, cond, List, [], ◌∷◌, ◌++◌, map, length, Some, slice_get, refl, sym, ◌∙◌, ap, ap₂, subst, arith}
use Rattle.std.specs.Option.{option_map_or}
use Rattle.std.specs.List.{AllByRecursion, AllZip}
use Rattle.merlin_model.specs.declared.network.DirectedLink.{DirectedLink}
use Rattle.merlin_model.specs.declared.policy.Symbol.{Symbol}
use Rattle.merlin_model.specs.Networks.{Network, IsNetwork, directed_links, IsHost, Pairwise, AreDifferent}
use Rattle.merlin_model.specs.Words.{at, crosses, crossings}
use Rattle.merlin_model.proofs.Members.{In, in_from, in_to, all_in, in_append, in_append-left, in_append-right, in_map, map_in}
use Rattle.rules_model.specs.Products.{SymbolAutomaton, Vertex, loc_of, start_of, IsEdge, IsLast, LeadsToEnd, IsOnWayBetween, word_to, IsBefore, IsJoined}
use Rattle.cutoff_program.specs.Flows.{FlowEdge, Flow, Variable, variable_of, variables_from, rate_over, is_on}
use Rattle.cutoff_program.specs.Trails.{IsTrailOf, sum_along, comes_to}
use Rattle.cutoff_program.specs.Products.{Product, IsTrimmedProduct, place_between, loc_at, edge_of, flow_of}
use Rattle.cutoff_program.specs.Walks.{symbol_of_vertex, word_along}
use Rattle.cutoff_program.proofs.Lists.{none_some, some_some, within_length}
use Rattle.cutoff_program.proofs.Following.{sum-cons}
use Rattle.cutoff_program.proofs.Shortening.{comes_to-cons}
use Rattle.cutoff_program.proofs.Places.{get-in, in-get, on-is}
use Rattle.cutoff_program.proofs.Ways.{crossings-cons, between-more}

-- The variables of a flow are its edges.

pub record IsFlowAt (variables : List Variable) (n : ℕ) (flow : Flow) : Type 0 where
  pub only : (v : Variable) → In v variables → v.flow ≡ n → In v.edge flow.edges × (v.rate ≡ flow.rate)
  pub each : (e : FlowEdge) → In e flow.edges → In (variable_of n flow.rate e) variables

abbrev pub AreFlowsAt : List Variable → ℕ → List Flow → Type 0
AreFlowsAt variables n [] = Unit {0}
AreFlowsAt variables n (flow ∷ flows) = IsFlowAt variables n flow × AreFlowsAt variables (n + 1) flows

flows-above : (n : ℕ) (flows : List Flow) (v : Variable) → In v (variables_from n flows) → n ≤ v.flow
flows-above n [] v i = absurd i
flows-above n (flow ∷ flows) v i = by (in_append (map (variable_of n flow.rate) flow.edges) (variables_from (n + 1) flows) v i) (flows-above (n + 1) flows v)
  where
    by : In v (map (variable_of n flow.rate) flow.edges) ⊎ In v (variables_from (n + 1) flows) → (In v (variables_from (n + 1) flows) → n + 1 ≤ v.flow) → n ≤ v.flow
    by (inl j) ih = let m = in_map (variable_of n flow.rate) flow.edges v j in let e : v.flow ≡ n = ap (λ w. w.flow) m.2 in omega arith
    by (inr j) ih = let h = ih j in omega arith

flows-more : (n rate : ℕ) (edges : List FlowEdge) (variables : List Variable) (m : ℕ) (flows : List Flow) → n < m → AreFlowsAt variables m flows → AreFlowsAt (map (variable_of n rate) edges ++ variables) m flows
flows-more n rate edges variables m [] h all = tt
flows-more n rate edges variables m (flow ∷ flows) h all = (
  record {
    only = λ v i e. by v e (in_append (map (variable_of n rate) edges) variables v i);
    each = λ e i. in_append-right (map (variable_of n rate) edges) variables (variable_of m flow.rate e) (all.0.each e i);
  },
  flows-more n rate edges variables (m + 1) flows (omega arith) all.1,
)
  where
    by : (v : Variable) → v.flow ≡ m → In v (map (variable_of n rate) edges) ⊎ In v variables → In v.edge flow.edges × (v.rate ≡ flow.rate)
    by v e (inl j) = let p = in_map (variable_of n rate) edges v j in let f : v.flow ≡ n = ap (λ w. w.flow) p.2 in let bad : ⊥ = omega arith in absurd bad
    by v e (inr j) = all.0.only v j e

pub flows-at : (n : ℕ) (flows : List Flow) → AreFlowsAt (variables_from n flows) n flows
flows-at n [] = tt
flows-at n (flow ∷ flows) = (
  record {
    only = λ v i e. by v e (in_append (map (variable_of n flow.rate) flow.edges) (variables_from (n + 1) flows) v i);
    each = λ e i. in_append-left (map (variable_of n flow.rate) flow.edges) (variables_from (n + 1) flows) (variable_of n flow.rate e) (map_in (variable_of n flow.rate) flow.edges e i);
  },
  flows-more n flow.rate flow.edges (variables_from (n + 1) flows) (n + 1) flows (omega arith) (flows-at (n + 1) flows),
)
  where
    by : (v : Variable) → v.flow ≡ n → In v (map (variable_of n flow.rate) flow.edges) ⊎ In v (variables_from (n + 1) flows) → In v.edge flow.edges × (v.rate ≡ flow.rate)
    by v e (inl j) = let p = in_map (variable_of n flow.rate) flow.edges v j in (subst (λ x. In x flow.edges) (sym (ap (λ w. w.edge) p.2)) p.1, ap (λ w. w.rate) p.2)
    by v e (inr j) = let h = flows-above (n + 1) flows v j in let bad : ⊥ = omega arith in absurd bad

-- The locations of vertices by their places.

get-first : {X : Type 0} (xs ys : List X) (k : ℕ) (x : X) → slice_get xs k ≡ Some x → slice_get (xs ++ ys) k ≡ Some x
get-first [] ys k x e = absurd (none_some e)
get-first (z ∷ xs) ys zero x e = e
get-first (z ∷ xs) ys (suc k) x e = get-first xs ys k x e

get-last : {X : Type 0} (xs : List X) (y : X) → slice_get (xs ++ y ∷ []) (length xs) ≡ Some y
get-last [] y = refl
get-last (z ∷ xs) y = get-last xs y

product_or : (b : Bool) (rate : ℕ) → cond b rate 0 ≡ rate * (cond b 1 0)
product_or true rate = omega arith
product_or false rate = omega arith

-- One product of one flow.
pub record IsLaid (net : Network) (a : SymbolAutomaton) (s d rate n : ℕ) (variables : List Variable) (product : Product) : Type 0 where
  pub network : IsNetwork net
  pub start : IsHost net s
  pub trimmed : IsTrimmedProduct net a s d product
  pub flow : IsFlowAt variables n (flow_of net rate product)

module _ (net : Network) (a : SymbolAutomaton) (s d rate n : ℕ) (variables : List Variable) (product : Product) (laid : IsLaid net a s d rate n variables product) where
  abbrev pub inside : List Vertex
  inside = start_of a s ∷ laid.trimmed.inner

  end : Vertex
  end = record { symbol = at d; state = laid.trimmed.state }

  loc-inside : (i : ℕ) (v : Vertex) → slice_get inside i ≡ Some v → loc_at product.vertices i ≡ v.symbol.loc
  unfolding end
  loc-inside i v e = ap (λ vs. loc_at vs i) laid.trimmed.vertices ∙ ap (λ o. option_map_or loc_of o 0) (get-first inside (end ∷ []) i v e)

  loc-end : loc_at product.vertices (length inside) ≡ d
  unfolding end
  loc-end = ap (λ vs. loc_at vs (length inside)) laid.trimmed.vertices ∙ ap (λ o. option_map_or loc_of o 0) (get-last inside end)

  -- what an edge puts on a link
  edge-over : (e : ℕ × ℕ) (x y : Symbol) (w : Variable) (l : ℕ) (directed : DirectedLink) → w.edge ≡ edge_of net product.vertices e → w.rate ≡ rate → loc_at product.vertices e.0 ≡ x.loc → loc_at product.vertices e.1 ≡ y.loc → slice_get (directed_links net) l ≡ Some directed →
      rate_over l w ≡ rate * (cond (crosses directed.from directed.to (x, y)) 1 0)
  edge-over e x y w l directed edge r from to here =
      ap₂ (λ c m. cond (is_on l c) m 0) (ap (λ z. z.crosses) edge) r
      ∙ ap (λ c. cond (is_on l c) rate 0) (ap₂ (place_between net) from to)
      ∙ ap (λ b. cond b rate 0) (on-is net directed l x y laid.network here)
      ∙ product_or (crosses directed.from directed.to (x, y)) rate

  -- the edge behind a variable of the flow
  pub record IsEdgeAt (w : Variable) : Type 0 where
    pub e : ℕ × ℕ
    pub edge : w.edge ≡ edge_of net product.vertices e
    pub rate_is : w.rate ≡ rate
    pub joined : IsJoined net a d inside e

  edge-at : (k : ℕ) (w : Variable) → slice_get variables k ≡ Some w → w.flow ≡ n → IsEdgeAt w
  edge-at k w e f =
      let o = laid.flow.only w (get-in variables k w e) f in
      let m = in_map (edge_of net product.vertices) product.edges w.edge o.0 in
      record { e = m.0; edge = m.2; rate_is = o.1; joined = (laid.trimmed.joined m.0).0 (in_to product.edges m.0 m.1) }

  -- From trails to ways.

  pub record HasFlight (i : ℕ) (v : Vertex) (ks : List ℕ) : Type 0 where
    pub way : List Vertex
    pub leads : LeadsToEnd net a d v way
    pub places : List ℕ
    pub comes : comes_to variables ks ≡ places ++ length inside ∷ []
    pub stand : AllZip (λ j u. slice_get inside j ≡ Some u) places way
    pub crossed : (l : ℕ) (directed : DirectedLink) → slice_get (directed_links net) l ≡ Some directed → sum_along variables (rate_over l) ks ≡ rate * crossings (v.symbol ∷ word_to d way) directed.from directed.to

  stops : (ks : List ℕ) → IsTrailOf variables n ks (length inside) (length inside) → ks ≡ []
  stops [] t = refl
  stops (k ∷ ks) t =
      let g = edge-at k t.0 t.1 t.2 in
      let from : g.e.0 ≡ length inside = sym (ap (λ x. x.from) g.edge) ∙ t.3 in
      let h = within_length inside g.e.0 g.joined.0 g.joined.1 in
      let bad : ⊥ = omega arith in absurd bad

  times-sum : (r c m t s : ℕ) → t ≡ r * c → s ≡ r * m → t + s ≡ r * (c + m)
  times-sum r c m t s e f = ap₂ (λ x y. x + y) e f ∙ sym (spread r c m)
    where
      spread : (r c m : ℕ) → r * (c + m) ≡ r * c + r * m
      spread r c m = omega arith

  trail-way : (i : ℕ) (v : Vertex) (ks : List ℕ) → slice_get inside i ≡ Some v → IsTrailOf variables n ks i (length inside) → HasFlight i v ks
  trail-way i v [] here t = let h = within_length inside i v here in let bad : ⊥ = omega arith in absurd bad
  trail-way i v (k ∷ ks) here t = by g.joined.2 (λ j u at s. trail-way j u ks at s)
    where
      g : IsEdgeAt t.0
      g = edge-at k t.0 t.1 t.2

      first : g.e.0 ≡ i
      first = sym (ap (λ x. x.from) g.edge) ∙ t.3

      same : g.joined.0 ≡ v
      same = some_some (sym g.joined.1 ∙ ap (slice_get inside) first ∙ here)

      to : t.0.edge.to ≡ g.e.1
      to = ap (λ x. x.to) g.edge

      from-loc : loc_at product.vertices g.e.0 ≡ v.symbol.loc
      from-loc = ap (loc_at product.vertices) first ∙ loc-inside i v here

      rest : (j : ℕ) → g.e.1 ≡ j → IsTrailOf variables n ks j (length inside)
      rest j e = subst (λ x. IsTrailOf variables n ks x (length inside)) (to ∙ e) t.4

      comes : comes_to variables (k ∷ ks) ≡ g.e.1 ∷ comes_to variables ks
      comes = comes_to-cons variables k ks t.0 t.1 ∙ ap (λ x. x ∷ comes_to variables ks) to

      by : ((u : Vertex) × (slice_get inside g.e.1 ≡ Some u) × IsEdge net a g.joined.0 u) ⊎ ((g.e.1 ≡ length inside) × IsLast net a d g.joined.0) →
          ((j : ℕ) (u : Vertex) → slice_get inside j ≡ Some u → IsTrailOf variables n ks j (length inside) → HasFlight j u ks) → HasFlight i v (k ∷ ks)
      by (inl u) ih =
          let later = ih g.e.1 u.0 u.1 (rest g.e.1 refl) in
          record {
            way = u.0 ∷ later.way;
            leads = (subst (λ x. IsEdge net a x u.0) same u.2, later.leads);
            places = g.e.1 ∷ later.places;
            comes = comes ∙ ap (λ xs. g.e.1 ∷ xs) later.comes;
            stand = (u.1, later.stand);
            crossed = λ l directed at.
                sum-cons variables (rate_over l) k ks t.0 t.1
                ∙ times-sum rate _ _ _ _ (edge-over g.e v.symbol u.0.symbol t.0 l directed g.edge g.rate_is from-loc (loc-inside g.e.1 u.0 u.1) at) (later.crossed l directed at)
                ∙ ap (λ m. rate * m) (sym (crossings-cons v.symbol u.0.symbol (word_to d later.way) directed.from directed.to));
          }
      by (inr z) ih =
          let none : ks ≡ [] = stops ks (rest (length inside) z.0) in
          record {
            way = [];
            leads = subst (IsLast net a d) same z.1;
            places = [];
            comes = comes ∙ ap₂ (λ x xs. x ∷ xs) z.0 (ap (comes_to variables) none);
            stand = tt;
            crossed = λ l directed here.
                sum-cons variables (rate_over l) k ks t.0 t.1
                ∙ times-sum rate _ 0 _ _ (edge-over g.e v.symbol (at d) t.0 l directed g.edge g.rate_is from-loc (ap (loc_at product.vertices) z.0 ∙ loc-end) here) (ap (sum_along variables (rate_over l)) none ∙ sym (nothing rate))
                ∙ ap (λ m. rate * m) (sym (crossings-cons v.symbol (at d) [] directed.from directed.to));
          }
        where
          nothing : (r : ℕ) → r * 0 ≡ 0
          nothing r = omega arith

  -- A trail that comes to no vertex twice gives a way that does not.

  before-self : (v : Vertex) → IsBefore v v → ⊥
  before-self v (inl h) = let bad : ⊥ = omega arith in bad
  before-self v (inr (e, inl h)) = let bad : ⊥ = omega arith in bad
  before-self v (inr (e, inr (f, h))) = let bad : ⊥ = omega arith in bad

  apart-all : (x : Vertex) (vs : List Vertex) → AllByRecursion (IsBefore x) vs → AllByRecursion (λ v. x ≢ v) vs
  apart-all x [] all = tt
  apart-all x (v ∷ vs) all = ((λ e. before-self x (subst (IsBefore x) (sym e) all.0)), apart-all x vs all.1)

  apart-inner : (vs : List Vertex) → Pairwise IsBefore vs → AreDifferent vs
  apart-inner [] p = tt
  apart-inner (v ∷ vs) p = (apart-all v vs p.0, apart-inner vs p.1)

  inside-different : AreDifferent inside
  inside-different = (laid.trimmed.others, apart-inner laid.trimmed.inner laid.trimmed.ascending)

  one-place : (vs : List Vertex) (i j : ℕ) (v : Vertex) → AreDifferent vs → slice_get vs i ≡ Some v → slice_get vs j ≡ Some v → i ≡ j
  one-place [] i j v p e f = absurd (none_some e)
  one-place (x ∷ vs) zero zero v p e f = refl
  one-place (x ∷ vs) zero (suc j) v p e f = absurd (all_in (λ y. x ≢ y) vs v p.0 (get-in vs j v f) (some_some e))
  one-place (x ∷ vs) (suc i) zero v p e f = absurd (all_in (λ y. x ≢ y) vs v p.0 (get-in vs i v e) (some_some f))
  one-place (x ∷ vs) (suc i) (suc j) v p e f = ap suc (one-place vs i j v p.1 e f)

  head-different : (i : ℕ) (v : Vertex) (js : List ℕ) (us : List Vertex) → slice_get inside i ≡ Some v → AllZip (λ j u. slice_get inside j ≡ Some u) js us → AllByRecursion (λ j. i ≢ j) (js ++ length inside ∷ []) → AllByRecursion (λ u. v ≢ u) us
  head-different i v [] [] e z all = tt
  head-different i v (j ∷ js) (u ∷ us) e z all =
      ((λ same. all.0 (one-place inside i j v inside-different e (z.0 ∙ ap Some (sym same)))), head-different i v js us e z.1 all.1)
  head-different i v [] (u ∷ us) e z all = absurd z
  head-different i v (j ∷ js) [] e z all = tt

  places-different : (js : List ℕ) (us : List Vertex) → AllZip (λ j u. slice_get inside j ≡ Some u) js us → AreDifferent (js ++ length inside ∷ []) → AreDifferent us
  places-different [] [] z all = tt
  places-different (j ∷ js) (u ∷ us) z all = (head-different j u js us z.0 z.1 all.0, places-different js us z.1 all.1)
  places-different [] (u ∷ us) z all = absurd z
  places-different (j ∷ js) [] z all = tt

  pub flight : (ks : List ℕ) → IsTrailOf variables n ks 0 (length inside) → HasFlight 0 (start_of a s) ks
  flight ks t = trail-way 0 (start_of a s) ks refl t

  pub flight-different : (ks : List ℕ) → (f : HasFlight 0 (start_of a s) ks) → AreDifferent (0 ∷ comes_to variables ks) → AreDifferent (start_of a s ∷ f.way)
  flight-different ks f all =
      let parts : AreDifferent (0 ∷ (f.places ++ length inside ∷ [])) = subst (λ xs. AreDifferent (0 ∷ xs)) f.comes all in
      (head-different 0 (start_of a s) f.places f.way refl f.stand parts.0, places-different f.places f.way f.stand parts.1)

  -- From ways to trails.

  pub record HasTrail (i : ℕ) (v : Vertex) (way : List Vertex) : Type 0 where
    pub ks : List ℕ
    pub steps : IsTrailOf variables n ks i (length inside)
    pub crossed : (l : ℕ) (directed : DirectedLink) → slice_get (directed_links net) l ≡ Some directed → sum_along variables (rate_over l) ks ≡ rate * crossings (v.symbol ∷ word_to d way) directed.from directed.to

  edge-variable : (e : ℕ × ℕ) → IsJoined net a d inside e → (k : ℕ) × (slice_get variables k ≡ Some (variable_of n rate (edge_of net product.vertices e)))
  edge-variable e j = in-get variables (variable_of n rate (edge_of net product.vertices e))
      (laid.flow.each (edge_of net product.vertices e) (map_in (edge_of net product.vertices) product.edges e (in_from product.edges e ((laid.trimmed.joined e).1 j))))

  way-trail : (i : ℕ) (v : Vertex) (us : List Vertex) → slice_get inside i ≡ Some v → IsOnWayBetween net a s d v → LeadsToEnd net a d v us → HasTrail i v us
  way-trail i v [] here b w =
      let k = edge-variable (i, length inside) (v, here, inr (refl, w)) in
      record {
        ks = k.0 ∷ [];
        steps = (variable_of n rate (edge_of net product.vertices (i, length inside)), k.1, refl, refl, refl);
        crossed = λ l directed at'.
            sum-cons variables (rate_over l) k.0 [] (variable_of n rate (edge_of net product.vertices (i, length inside))) k.1
            ∙ times-sum rate _ 0 _ 0 (edge-over (i, length inside) v.symbol (at d) (variable_of n rate (edge_of net product.vertices (i, length inside))) l directed refl refl (loc-inside i v here) loc-end at') (sym (nothing rate))
            ∙ ap (λ m. rate * m) (sym (crossings-cons v.symbol (at d) [] directed.from directed.to));
      }
    where
      nothing : (r : ℕ) → r * 0 ≡ 0
      nothing r = omega arith
  way-trail i v (u ∷ us) here b w =
      let more = between-more net a d s v u us b w.0 w.1 in
      let place = in-get inside u (in_from inside u ((laid.trimmed.exactly u).1 more)) in
      let later = way-trail place.0 u us place.1 more w.1 in
      let k = edge-variable (i, place.0) (v, here, inl (u, place.1, w.0)) in
      record {
        ks = k.0 ∷ later.ks;
        steps = (variable_of n rate (edge_of net product.vertices (i, place.0)), k.1, refl, refl, later.steps);
        crossed = λ l directed at'.
            sum-cons variables (rate_over l) k.0 later.ks (variable_of n rate (edge_of net product.vertices (i, place.0))) k.1
            ∙ times-sum rate _ _ _ _ (edge-over (i, place.0) v.symbol u.symbol (variable_of n rate (edge_of net product.vertices (i, place.0))) l directed refl refl (loc-inside i v here) (loc-inside place.0 u place.1) at') (later.crossed l directed at')
            ∙ ap (λ m. rate * m) (sym (crossings-cons v.symbol u.symbol (word_to d us) directed.from directed.to));
      }

  pub start-trail : (us : List Vertex) → LeadsToEnd net a d (start_of a s) us → HasTrail 0 (start_of a s) us
  start-trail us w = way-trail 0 (start_of a s) us refl (record { before = []; reached = refl; after = us; leads = w }) w

  -- The word of a flight.

  symbol-inside : (i : ℕ) (v : Vertex) → slice_get inside i ≡ Some v → symbol_of_vertex product.vertices i ≡ v.symbol
  unfolding end
  symbol-inside i v e = ap (λ vs. symbol_of_vertex vs i) laid.trimmed.vertices ∙ ap (λ o. option_map_or (λ (u : Vertex). u.symbol) o (at 0)) (get-first inside (end ∷ []) i v e)

  symbol-end : symbol_of_vertex product.vertices (length inside) ≡ at d
  unfolding end
  symbol-end = ap (λ vs. symbol_of_vertex vs (length inside)) laid.trimmed.vertices ∙ ap (λ o. option_map_or (λ (u : Vertex). u.symbol) o (at 0)) (get-last inside end)

  word-places : (js : List ℕ) (us : List Vertex) → AllZip (λ j u. slice_get inside j ≡ Some u) js us → word_to d us ≡ map (symbol_of_vertex product.vertices) (js ++ length inside ∷ [])
  word-places [] [] z = ap (λ x. x ∷ []) (sym symbol-end)
  word-places (j ∷ js) (u ∷ us) z = ap₂ (λ x xs. x ∷ xs) (sym (symbol-inside j u z.0)) (word-places js us z.1)
  word-places [] (u ∷ us) z = absurd z
  word-places (j ∷ js) [] z = absurd z

  pub flight-word : (ks : List ℕ) (f : HasFlight 0 (start_of a s) ks) → at s ∷ word_to d f.way ≡ word_along variables product.vertices ks
  flight-word ks f = ap₂ (λ x xs. x ∷ xs) (sym (symbol-inside 0 (start_of a s) refl)) (word-places f.places f.way f.stand ∙ ap (map (symbol_of_vertex product.vertices)) (sym f.comes))

-- a flow of a list has the variables of its place
pub at-flows : (variables : List Variable) (n : ℕ) (flows : List Flow) (k : ℕ) (flow : Flow) → AreFlowsAt variables n flows → slice_get flows k ≡ Some flow → IsFlowAt variables (n + k) flow
at-flows variables n [] k flow all e = absurd (none_some e)
at-flows variables n (f ∷ flows) zero flow all e = subst (λ m. IsFlowAt variables m flow) (let z : n ≡ n + 0 = omega arith in z) (subst (IsFlowAt variables n) (some_some e) all.0)
at-flows variables n (f ∷ flows) (suc k) flow all e = subst (λ m. IsFlowAt variables m flow) (let z : n + 1 + k ≡ n + suc k = omega arith in z) (at-flows variables (n + 1) flows k flow all.1 e)
