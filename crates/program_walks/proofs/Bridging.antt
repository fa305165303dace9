-- What symbols take through a product is a trail that crosses what they cross.
use Rattle.std.proofs.Common.{◌≡◌, ◌≢◌, ℕ, zero, suc, ◌+◌, ◌*◌, ◌≤◌, ◌==◌, ◌&&◌, not, ◌⊎◌, inl, inr, Bool, true, false, cond, List, [], ◌∷◌, ◌++◌, map, length, None, Some, slice_get, refl, sym, ◌∙◌, ap, ap₂, subst, arith}
use Rattle.std.specs.Option.{option_map_or}
use Rattle.std.specs.List.{AllByRecursion}
use Rattle.merlin_model.specs.declared.network.DirectedLink.{DirectedLink}
use Rattle.merlin_model.specs.declared.policy.Symbol.{Symbol}
use Rattle.merlin_model.specs.Networks.{Network, directed_links, IsHost, AreDifferent}
use Rattle.merlin_model.specs.Words.{at, MayFollow, GoesOn, crosses, crossings}
use Rattle.merlin_model.proofs.Members.{In, in_from, in_to, all_in, in_map, map_in}
use Rattle.rules_model.specs.Products.{SymbolAutomaton, Vertex, loc_of, start_of, ending_state, IsEdge, IsLast, LeadsToEnd, IsOnWayBetween, IsJoined}
use Rattle.rules_model.proofs.Ways.{vertex-same}
use Rattle.cutoff_program.specs.declared.flow.Variable.{Variable}
use Rattle.cutoff_program.specs.Flows.{variable_of, rate_over, is_on}
use Rattle.cutoff_program.specs.Trails.{IsTrailOf, sum_along, comes_to}
use Rattle.cutoff_program.specs.Products.{Product, place_between, loc_at, edge_of}
use Rattle.cutoff_program.proofs.Lists.{none_some, some_some, within_length}
use Rattle.cutoff_program.proofs.Following.{sum-cons}
use Rattle.cutoff_program.specs.Walks.{vertices_along}
use Rattle.cutoff_program.proofs.Shortening.{comes_to-cons}
use Rattle.cutoff_program.proofs.Places.{get-in, in-get, on-is}
use Rattle.cutoff_program.proofs.Ways.{crossings-cons, word-way, between-more}
use Rattle.cutoff_program.proofs.Flights.{IsLaid}
use Rattle.program_walks.specs.Marks.{symbol_in, IsNextBy, FollowsTrail}

get-first : {X : Type 0} (xs ys : List X) (k : ℕ) (x : X) → slice_get xs k ≡ Some x → slice_get (xs ++ ys) k ≡ Some x
get-first [] ys k x e = absurd (none_some e)
get-first (z ∷ xs) ys zero x e = e
get-first (z ∷ xs) ys (suc k) x e = get-first xs ys k x e

get-last : {X : Type 0} (xs : List X) (y : X) → slice_get (xs ++ y ∷ []) (length xs) ≡ Some y
get-last [] y = refl
get-last (z ∷ xs) y = get-last xs y

-- a stay crosses nothing
stays : (x y : Symbol) (u t : ℕ) → x.loc ≡ y.loc → crosses u t (x, y) ≡ false
stays x y u t e = by (x.loc == u) refl (y.loc == t) refl (u == t) refl
  where
    by : (a : Bool) → (x.loc == u) ≡ a → (b : Bool) → (y.loc == t) ≡ b → (c : Bool) → (u == t) ≡ c → (a && b && not c) ≡ false
    by false f b g c h = refl
    by true f false g c h = refl
    by true f true g true h = refl
    by true f true g false h = let bad : ⊥ = grind arith in absurd bad

product_or : (b : Bool) (rate : ℕ) → cond b rate 0 ≡ rate * (cond b 1 0)
product_or true rate = omega arith
product_or false rate = omega arith

times-sum : (r c m t s : ℕ) → t ≡ r * c → s ≡ r * m → t + s ≡ r * (c + m)
times-sum r c m t s e f = ap₂ (λ x y. x + y) e f ∙ sym (spread r c m)
  where
    spread : (r c m : ℕ) → r * (c + m) ≡ r * c + r * m
    spread r c m = omega arith

get-symbol : (vs : List Vertex) (k : ℕ) (v : Vertex) → slice_get vs k ≡ Some v → symbol_in (map (λ u. u.symbol) vs) k ≡ v.symbol
get-symbol [] k v e = absurd (none_some e)
get-symbol (u ∷ vs) zero v e = ap (λ x. x.symbol) (some_some e)
get-symbol (u ∷ vs) (suc k) v e = get-symbol vs k v e

module _ (net : Network) (a : SymbolAutomaton) (s d rate n : ℕ) (variables : List Variable) (product : Product) (laid : IsLaid net a s d rate n variables product) (dest : IsHost net d) (symbols : List Symbol) (are : symbols ≡ map (λ v. v.symbol) product.vertices) where
  abbrev pub stand : List Vertex
  stand = start_of a s ∷ laid.trimmed.inner

  end : Vertex
  end = record { symbol = at d; state = laid.trimmed.state }

  loc-inside : (i : ℕ) (v : Vertex) → slice_get stand i ≡ Some v → loc_at product.vertices i ≡ v.symbol.loc
  unfolding end
  loc-inside i v e = ap (λ vs. loc_at vs i) laid.trimmed.vertices ∙ ap (λ o. option_map_or loc_of o 0) (get-first stand (end ∷ []) i v e)

  loc-end : loc_at product.vertices (length stand) ≡ d
  unfolding end
  loc-end = ap (λ vs. loc_at vs (length stand)) laid.trimmed.vertices ∙ ap (λ o. option_map_or loc_of o 0) (get-last stand end)

  symbol-inside : (i : ℕ) (v : Vertex) → slice_get stand i ≡ Some v → symbol_in symbols i ≡ v.symbol
  unfolding end
  symbol-inside i v e = ap (λ xs. symbol_in xs i) are ∙ ap (λ vs. symbol_in (map (λ (u : Vertex). u.symbol) vs) i) laid.trimmed.vertices ∙ get-symbol (stand ++ end ∷ []) i v (get-first stand (end ∷ []) i v e)

  symbol-end : symbol_in symbols (length stand) ≡ at d
  unfolding end
  symbol-end = ap (λ xs. symbol_in xs (length stand)) are ∙ ap (λ vs. symbol_in (map (λ (u : Vertex). u.symbol) vs) (length stand)) laid.trimmed.vertices ∙ get-symbol (stand ++ end ∷ []) (length stand) end (get-last stand end)

  -- what an edge puts on a link
  edge-over : (e : ℕ × ℕ) (x y : Symbol) (w : Variable) (l : ℕ) (directed : DirectedLink) → w.edge ≡ edge_of net product.vertices e → w.rate ≡ rate → loc_at product.vertices e.0 ≡ x.loc → loc_at product.vertices e.1 ≡ y.loc → slice_get (directed_links net) l ≡ Some directed →
      rate_over l w ≡ rate * (cond (crosses directed.from directed.to (x, y)) 1 0)
  edge-over e x y w l directed edge r from to here =
      ap₂ (λ c m. cond (is_on l c) m 0) (ap (λ z. z.crosses) edge) r
      ∙ ap (λ c. cond (is_on l c) rate 0) (ap₂ (place_between net) from to)
      ∙ ap (λ b. cond b rate 0) (on-is net directed l x y laid.network here)
      ∙ product_or (crosses directed.from directed.to (x, y)) rate

  -- the edge behind a variable of the flow
  record IsEdgeAt (w : Variable) : Type 0 where
    pub e : ℕ × ℕ
    pub edge : w.edge ≡ edge_of net product.vertices e
    pub rate_is : w.rate ≡ rate
    pub joined : IsJoined net a d stand e

  edge-at : (k : ℕ) (w : Variable) → slice_get variables k ≡ Some w → w.flow ≡ n → IsEdgeAt w
  edge-at k w e f =
      let o = laid.flow.only w (get-in variables k w e) f in
      let m = in_map (edge_of net product.vertices) product.edges w.edge o.0 in
      record { e = m.0; edge = m.2; rate_is = o.1; joined = (laid.trimmed.joined m.0).0 (in_to product.edges m.0 m.1) }

  -- the variable of an edge, so that some variable leads on
  edge-variable : (e : ℕ × ℕ) → IsJoined net a d stand e → (k : ℕ) × (slice_get variables k ≡ Some (variable_of n rate (edge_of net product.vertices e)))
  edge-variable e j = in-get variables (variable_of n rate (edge_of net product.vertices e))
      (laid.flow.each (edge_of net product.vertices e) (map_in (edge_of net product.vertices) product.edges e (in_from product.edges e ((laid.trimmed.joined e).1 j))))

  leads-on : (i : ℕ) (x : Symbol) (j : ℕ) → IsJoined net a d stand (i, j) → symbol_in symbols j ≡ x → IsNextBy variables symbols n i x None → ⊥
  leads-on i x j joined e none =
      let k = edge-variable (i, j) joined in
      none k.0 (variable_of n rate (edge_of net product.vertices (i, j))) k.1 (refl, refl, e)

  pub record HasTrailOf (i : ℕ) (v : Vertex) (word : List Symbol) (trail : List ℕ) (to : ℕ) : Type 0 where
    pub steps : IsTrailOf variables n trail i (length stand)
    pub ends : to ≡ length stand
    pub crossed : (l : ℕ) (directed : DirectedLink) → slice_get (directed_links net) l ≡ Some directed → sum_along variables (rate_over l) trail ≡ rate * crossings (v.symbol ∷ word) directed.from directed.to
    pub few : length trail ≤ length word

  -- the last symbol leads to the end
  last-step : (i : ℕ) (v : Vertex) (y : Symbol) (trail : List ℕ) (to : ℕ) → slice_get stand i ≡ Some v → MayFollow net (v.symbol, y) → y ≡ at d → a.accepts (a.step v.state y) ≡ true → FollowsTrail variables symbols n i (y ∷ []) trail to → HasTrailOf i v (y ∷ []) trail to
  last-step i v y trail to here may is accepts (inl stay) =
      absurd (leads-on i y (length stand) (v, here, inr (refl, record { follows = subst (λ z. MayFollow net (v.symbol, z)) is may; accepts = ap (λ z. a.accepts (a.step v.state z)) (sym is) ∙ accepts })) (symbol-end ∙ sym is) stay.0)
  last-step i v y trail to here may is accepts (inr go) = by g.joined.2
    where
      k : ℕ
      k = go.0

      w : Variable
      w = go.1.1.0

      at_k : slice_get variables k ≡ Some w
      at_k = go.1.1.2

      g : IsEdgeAt w
      g = edge-at k w at_k go.1.1.3.0

      first : g.e.0 ≡ i
      first = sym (ap (λ x. x.from) g.edge) ∙ go.1.1.3.1

      target : w.edge.to ≡ g.e.1
      target = ap (λ x. x.to) g.edge

      whole : trail ≡ k ∷ []
      whole = go.1.1.1 ∙ ap (λ ks. k ∷ ks) go.1.1.4.0

      from-loc : loc_at product.vertices g.e.0 ≡ v.symbol.loc
      from-loc = ap (loc_at product.vertices) first ∙ loc-inside i v here

      nothing : (r : ℕ) → r * 0 ≡ 0
      nothing r = omega arith

      by : ((u : Vertex) × (slice_get stand g.e.1 ≡ Some u) × IsEdge net a g.joined.0 u) ⊎ ((g.e.1 ≡ length stand) × IsLast net a d g.joined.0) → HasTrailOf i v (y ∷ []) trail to
      by (inl u) =
          let symbol : u.0.symbol ≡ at d = sym (symbol-inside g.e.1 u.0 u.1) ∙ ap (symbol_in symbols) (sym target) ∙ go.1.1.3.2 ∙ is in
          absurd (u.2.inside (subst (IsHost net) (sym (ap (λ x. x.loc) symbol)) dest))
      by (inr z) =
          record {
            steps = subst (λ ks. IsTrailOf variables n ks i (length stand)) (sym whole) (w, at_k, go.1.1.3.0, go.1.1.3.1, target ∙ z.0);
            ends = sym go.1.1.4.1 ∙ target ∙ z.0;
            crossed = λ l directed here-l.
                ap (sum_along variables (rate_over l)) whole ∙ sum-cons variables (rate_over l) k [] w at_k
                ∙ times-sum rate _ 0 _ 0 (edge-over g.e v.symbol y w l directed g.edge g.rate_is from-loc (ap (loc_at product.vertices) z.0 ∙ loc-end ∙ ap (λ x. x.loc) (sym is)) here-l) (sym (nothing rate))
                ∙ ap (λ m. rate * m) (sym (crossings-cons v.symbol y [] directed.from directed.to));
            few = let e = ap length whole in omega (arith, e);
          }

  pub follow-trail : (word : List Symbol) (i : ℕ) (v : Vertex) (trail : List ℕ) (to : ℕ) → slice_get stand i ≡ Some v → IsOnWayBetween net a s d v → GoesOn net d v.symbol word → a.accepts (ending_state a v.state word) ≡ true →
      FollowsTrail variables symbols n i word trail to → HasTrailOf i v word trail to
  follow-trail [] i v trail to here between goes accepts f = absurd goes
  follow-trail (y ∷ []) i v trail to here between goes accepts f = last-step i v y trail to here goes.0 goes.2 accepts f
  follow-trail (y ∷ z ∷ rest) i v trail to here between goes accepts f = by f (λ i v trail to. follow-trail (z ∷ rest) i v trail to)
    where
      next : Vertex
      next = record { symbol = y; state = a.step v.state y }

      onward : (v ≢ next) → IsEdge net a v next
      onward other = record { follows = goes.0; symbol = goes.1; inside = goes.2; state = refl; turns = other }

      way : (us : List Vertex) × LeadsToEnd net a d next us
      way = let w = word-way net a d next (z ∷ rest) goes.3 accepts in (w.way, w.leads)

      between-next : (v ≢ next) → IsOnWayBetween net a s d next
      between-next other = between-more net a d s v next way.0 between (onward other) way.1

      place : (v ≢ next) → (j : ℕ) × (slice_get stand j ≡ Some next)
      place other = in-get stand next (in_from stand next ((laid.trimmed.exactly next).1 (between-next other)))

      turned : (v ≡ next) ⊎ (v ≢ next) → IsNextBy variables symbols n i y None → v ≡ next
      turned (inl same) none = same
      turned (inr other) none =
          let j = place other in
          absurd (leads-on i y j.0 (v, here, inl (next, j.1, onward other)) (symbol-inside j.0 next j.1) none)

      by : FollowsTrail variables symbols n i (y ∷ z ∷ rest) trail to →
          ((i : ℕ) (v : Vertex) (trail : List ℕ) (to : ℕ) → slice_get stand i ≡ Some v → IsOnWayBetween net a s d v → GoesOn net d v.symbol (z ∷ rest) → a.accepts (ending_state a v.state (z ∷ rest)) ≡ true →
          FollowsTrail variables symbols n i (z ∷ rest) trail to → HasTrailOf i v (z ∷ rest) trail to) → HasTrailOf i v (y ∷ z ∷ rest) trail to
      by (inl stay) ih =
          let same = turned (vertex-same net a d v next) stay.0 in
          let first : v.symbol ≡ y = ap (λ x. x.symbol) same in
          let later = ih i next trail to (here ∙ ap Some same) (subst (IsOnWayBetween net a s d) same between) goes.3 accepts stay.1 in
          record {
            steps = later.steps;
            ends = later.ends;
            crossed = λ l directed here-l.
                later.crossed l directed here-l
                ∙ ap (λ m. rate * m) (sym (crossings-cons v.symbol y (z ∷ rest) directed.from directed.to
                ∙ ap (λ b. (cond b 1 0) + crossings (y ∷ z ∷ rest) directed.from directed.to) (stays v.symbol y directed.from directed.to (ap (λ x. x.loc) first))
                ∙ nothing (crossings (y ∷ z ∷ rest) directed.from directed.to)));
            few = let h = later.few in omega (arith, h);
          }
        where
          nothing : (m : ℕ) → 0 + m ≡ m
          nothing m = omega arith
      by (inr go) ih = on g.joined.2
        where
          k : ℕ
          k = go.0

          w : Variable
          w = go.1.1.0

          at_k : slice_get variables k ≡ Some w
          at_k = go.1.1.2

          g : IsEdgeAt w
          g = edge-at k w at_k go.1.1.3.0

          first : g.e.0 ≡ i
          first = sym (ap (λ x. x.from) g.edge) ∙ go.1.1.3.1

          same : g.joined.0 ≡ v
          same = some_some (sym g.joined.1 ∙ ap (slice_get stand) first ∙ here)

          target : w.edge.to ≡ g.e.1
          target = ap (λ x. x.to) g.edge

          from-loc : loc_at product.vertices g.e.0 ≡ v.symbol.loc
          from-loc = ap (loc_at product.vertices) first ∙ loc-inside i v here

          on : ((u : Vertex) × (slice_get stand g.e.1 ≡ Some u) × IsEdge net a g.joined.0 u) ⊎ ((g.e.1 ≡ length stand) × IsLast net a d g.joined.0) → HasTrailOf i v (y ∷ z ∷ rest) trail to
          on (inr z') =
              let symbol : y ≡ at d = sym go.1.1.3.2 ∙ ap (symbol_in symbols) (target ∙ z'.0) ∙ symbol-end in
              absurd (goes.2 (subst (IsHost net) (sym (ap (λ x. x.loc) symbol)) dest))
          on (inl u) =
              let edge : IsEdge net a v u.0 = subst (λ x. IsEdge net a x u.0) same u.2 in
              let symbol : u.0.symbol ≡ y = sym (symbol-inside g.e.1 u.0 u.1) ∙ ap (symbol_in symbols) (sym target) ∙ go.1.1.3.2 in
              let state : u.0.state ≡ a.step v.state y = edge.state ∙ ap (a.step v.state) symbol in
              let is : u.0 ≡ next = ap₂ (λ x q. record { symbol = x; state = q }) symbol state in
              let other : v ≢ next = λ e. edge.turns (e ∙ sym is) in
              let later = ih g.e.1 next go.1.0 to (u.1 ∙ ap Some is) (between-next other) goes.3 accepts (subst (λ x. FollowsTrail variables symbols n x (z ∷ rest) go.1.0 to) target go.1.1.4) in
              record {
                steps = subst (λ ks. IsTrailOf variables n ks i (length stand)) (sym go.1.1.1) (w, at_k, go.1.1.3.0, go.1.1.3.1, subst (λ x. IsTrailOf variables n go.1.0 x (length stand)) (sym target) later.steps);
                ends = later.ends;
                crossed = λ l directed here-l.
                    ap (sum_along variables (rate_over l)) go.1.1.1 ∙ sum-cons variables (rate_over l) k go.1.0 w at_k
                    ∙ times-sum rate _ _ _ _ (edge-over g.e v.symbol y w l directed g.edge g.rate_is from-loc (loc-inside g.e.1 u.0 u.1 ∙ ap (λ x. x.loc) symbol) here-l) (later.crossed l directed here-l)
                    ∙ ap (λ m. rate * m) (sym (crossings-cons v.symbol y (z ∷ rest) directed.from directed.to));
                few = let h = later.few in let e = ap length go.1.1.1 in omega (arith, h, e);
              }

  -- A walk that is simple takes a trail that comes to no vertex twice.

  -- a place is that of one of the vertices, or the end
  abbrev pub IsPlaceOf : List Vertex → ℕ → Type 0
  IsPlaceOf us p = (p ≡ length stand) ⊎ ((u : Vertex) × (slice_get stand p ≡ Some u) × In u us)

  places-more : (x : Vertex) (us : List Vertex) (ps : List ℕ) → AllByRecursion (IsPlaceOf us) ps → AllByRecursion (IsPlaceOf (x ∷ us)) ps
  places-more x us [] all = tt
  places-more x us (p ∷ ps) all = (by all.0, places-more x us ps all.1)
    where
      by : IsPlaceOf us p → IsPlaceOf (x ∷ us) p
      by (inl e) = inl e
      by (inr u) = inr (u.0, u.1, inr u.2)

  place-apart : (i : ℕ) (v : Vertex) (us : List Vertex) (ps : List ℕ) → slice_get stand i ≡ Some v → AllByRecursion (λ u. v ≢ u) us → AllByRecursion (IsPlaceOf us) ps → AllByRecursion (λ p. i ≢ p) ps
  place-apart i v us [] here apart all = tt
  place-apart i v us (p ∷ ps) here apart all = (by all.0, place-apart i v us ps here apart all.1)
    where
      by : IsPlaceOf us p → i ≢ p
      by (inl e) = λ same. let h = within_length stand i v here in let bad : ⊥ = omega (arith, h, e, same) in bad
      by (inr u) = λ same. all_in (λ x. v ≢ x) us u.0 apart u.2 (some_some (sym here ∙ ap (slice_get stand) same ∙ u.1))

  pub record HasPathOf (i : ℕ) (v : Vertex) (word : List Symbol) (trail : List ℕ) : Type 0 where
    pub different : AreDifferent (i ∷ comes_to variables trail)
    pub places : AllByRecursion (IsPlaceOf (vertices_along a v.state word)) (comes_to variables trail)

  -- the last symbol leads to the end
  last-path : (i : ℕ) (v : Vertex) (y : Symbol) (trail : List ℕ) (to : ℕ) → slice_get stand i ≡ Some v → MayFollow net (v.symbol, y) → y ≡ at d → a.accepts (a.step v.state y) ≡ true → FollowsTrail variables symbols n i (y ∷ []) trail to → HasPathOf i v (y ∷ []) trail
  last-path i v y trail to here may is accepts (inl stay) =
      absurd (leads-on i y (length stand) (v, here, inr (refl, record { follows = subst (λ z. MayFollow net (v.symbol, z)) is may; accepts = ap (λ z. a.accepts (a.step v.state z)) (sym is) ∙ accepts })) (symbol-end ∙ sym is) stay.0)
  last-path i v y trail to here may is accepts (inr go) = by g.joined.2
    where
      k : ℕ
      k = go.0

      w : Variable
      w = go.1.1.0

      at_k : slice_get variables k ≡ Some w
      at_k = go.1.1.2

      g : IsEdgeAt w
      g = edge-at k w at_k go.1.1.3.0

      target : w.edge.to ≡ g.e.1
      target = ap (λ x. x.to) g.edge

      by : ((u : Vertex) × (slice_get stand g.e.1 ≡ Some u) × IsEdge net a g.joined.0 u) ⊎ ((g.e.1 ≡ length stand) × IsLast net a d g.joined.0) → HasPathOf i v (y ∷ []) trail
      by (inl u) =
          let symbol : u.0.symbol ≡ at d = sym (symbol-inside g.e.1 u.0 u.1) ∙ ap (symbol_in symbols) (sym target) ∙ go.1.1.3.2 ∙ is in
          absurd (u.2.inside (subst (IsHost net) (sym (ap (λ x. x.loc) symbol)) dest))
      by (inr z) =
          let comes : comes_to variables trail ≡ length stand ∷ [] =
          ap (comes_to variables) (go.1.1.1 ∙ ap (λ ks. k ∷ ks) go.1.1.4.0) ∙ comes_to-cons variables k [] w at_k ∙ ap (λ u. u ∷ []) (target ∙ z.0) in
          record {
            different = subst (λ ps. AreDifferent (i ∷ ps)) (sym comes) (((λ same. let h = within_length stand i v here in let bad : ⊥ = omega (arith, h, same) in bad), tt), (tt, tt));
            places = subst (AllByRecursion (IsPlaceOf (vertices_along a v.state (y ∷ [])))) (sym comes) (inl refl, tt);
          }

  pub follow-path : (word : List Symbol) (i : ℕ) (v : Vertex) (trail : List ℕ) (to : ℕ) → slice_get stand i ≡ Some v → IsOnWayBetween net a s d v → GoesOn net d v.symbol word → a.accepts (ending_state a v.state word) ≡ true →
      FollowsTrail variables symbols n i word trail to → AreDifferent (v ∷ vertices_along a v.state word) → HasPathOf i v word trail
  follow-path [] i v trail to here between goes accepts f simple = absurd goes
  follow-path (y ∷ []) i v trail to here between goes accepts f simple = last-path i v y trail to here goes.0 goes.2 accepts f
  follow-path (y ∷ z ∷ rest) i v trail to here between goes accepts f simple = by f (λ i v trail to. follow-path (z ∷ rest) i v trail to)
    where
      next : Vertex
      next = record { symbol = y; state = a.step v.state y }

      other : v ≢ next
      other = simple.0.0

      onward : IsEdge net a v next
      onward = record { follows = goes.0; symbol = goes.1; inside = goes.2; state = refl; turns = other }

      way : (us : List Vertex) × LeadsToEnd net a d next us
      way = let w = word-way net a d next (z ∷ rest) goes.3 accepts in (w.way, w.leads)

      between-next : IsOnWayBetween net a s d next
      between-next = between-more net a d s v next way.0 between onward way.1

      place : (j : ℕ) × (slice_get stand j ≡ Some next)
      place = in-get stand next (in_from stand next ((laid.trimmed.exactly next).1 between-next))

      by : FollowsTrail variables symbols n i (y ∷ z ∷ rest) trail to →
          ((i : ℕ) (v : Vertex) (trail : List ℕ) (to : ℕ) → slice_get stand i ≡ Some v → IsOnWayBetween net a s d v → GoesOn net d v.symbol (z ∷ rest) → a.accepts (ending_state a v.state (z ∷ rest)) ≡ true →
          FollowsTrail variables symbols n i (z ∷ rest) trail to → AreDifferent (v ∷ vertices_along a v.state (z ∷ rest)) → HasPathOf i v (z ∷ rest) trail) → HasPathOf i v (y ∷ z ∷ rest) trail
      by (inl stay) ih = absurd (leads-on i y place.0 (v, here, inl (next, place.1, onward)) (symbol-inside place.0 next place.1) stay.0)
      by (inr go) ih = on g.joined.2
        where
          k : ℕ
          k = go.0

          w : Variable
          w = go.1.1.0

          at_k : slice_get variables k ≡ Some w
          at_k = go.1.1.2

          g : IsEdgeAt w
          g = edge-at k w at_k go.1.1.3.0

          first : g.e.0 ≡ i
          first = sym (ap (λ x. x.from) g.edge) ∙ go.1.1.3.1

          same : g.joined.0 ≡ v
          same = some_some (sym g.joined.1 ∙ ap (slice_get stand) first ∙ here)

          target : w.edge.to ≡ g.e.1
          target = ap (λ x. x.to) g.edge

          on : ((u : Vertex) × (slice_get stand g.e.1 ≡ Some u) × IsEdge net a g.joined.0 u) ⊎ ((g.e.1 ≡ length stand) × IsLast net a d g.joined.0) → HasPathOf i v (y ∷ z ∷ rest) trail
          on (inr z') =
              let symbol : y ≡ at d = sym go.1.1.3.2 ∙ ap (symbol_in symbols) (target ∙ z'.0) ∙ symbol-end in
              absurd (goes.2 (subst (IsHost net) (sym (ap (λ x. x.loc) symbol)) dest))
          on (inl u) =
              let edge : IsEdge net a v u.0 = subst (λ x. IsEdge net a x u.0) same u.2 in
              let symbol : u.0.symbol ≡ y = sym (symbol-inside g.e.1 u.0 u.1) ∙ ap (symbol_in symbols) (sym target) ∙ go.1.1.3.2 in
              let state : u.0.state ≡ a.step v.state y = edge.state ∙ ap (a.step v.state) symbol in
              let is : u.0 ≡ next = ap₂ (λ x q. record { symbol = x; state = q }) symbol state in
              let later = ih g.e.1 next go.1.0 to (u.1 ∙ ap Some is) between-next goes.3 accepts (subst (λ x. FollowsTrail variables symbols n x (z ∷ rest) go.1.0 to) target go.1.1.4) simple.1 in
              let comes : comes_to variables trail ≡ g.e.1 ∷ comes_to variables go.1.0 =
              ap (comes_to variables) go.1.1.1 ∙ comes_to-cons variables k go.1.0 w at_k ∙ ap (λ p. p ∷ comes_to variables go.1.0) target in
              let places : AllByRecursion (IsPlaceOf (vertices_along a v.state (y ∷ z ∷ rest))) (g.e.1 ∷ comes_to variables go.1.0) =
              (inr (next, u.1 ∙ ap Some is, inl refl), places-more next (vertices_along a next.state (z ∷ rest)) (comes_to variables go.1.0) later.places) in
              record {
                different = subst (λ ps. AreDifferent (i ∷ ps)) (sym comes) (place-apart i v (vertices_along a v.state (y ∷ z ∷ rest)) (g.e.1 ∷ comes_to variables go.1.0) here simple.0 places, later.different);
                places = subst (AllByRecursion (IsPlaceOf (vertices_along a v.state (y ∷ z ∷ rest)))) (sym comes) places;
              }
