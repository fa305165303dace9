-- The product between two hosts does not depend on the tables of an automaton: those that do the same in the states that are reached have one product.
use Rattle.std.proofs.Common.{◌≡◌, ◌≢◌, ◌≤◌, ◌<◌, ◌⊎◌, inl, inr, ℕ, suc, List, [], ◌∷◌, ◌++◌, length, map, slice_get, Contains, Some, refl, sym, ◌∙◌, ap, ap₂, subst, arith}
use Rattle.std.specs.List.{AllByRecursion}
use Rattle.merlin_model.specs.Networks.{Network, IsHost, Pairwise}
use Rattle.merlin_model.specs.Words.{at}
use Rattle.merlin_model.proofs.Members.{In, in_from, in_to, all_in}
use Rattle.merlin_model.proofs.Ascending.{ascending-one}
use Rattle.path_automaton.proofs.Building.{get-in}
use Rattle.rules_model.specs.Products.{SymbolAutomaton, Vertex, loc_of, start_of, function_place, IsEdge, IsLast, LeadsToEnd, LeadsTo, IsOnWayBetween, IsJoined, IsBefore, IsEdgeBefore}
use Rattle.rules_model.proofs.Trees.{host_symbol}
use Rattle.cutoff_program.specs.Products.{Product, IsProductOfHosts, IsEmptyProduct, IsTrimmedProduct}
use Rattle.policy_configuration.proofs.OneLimit.{DoAlike, alike-back, edge, last, leads, comes, on-way}

-- orders of vertices and of edges

before-not : (v : Vertex) → ¬ IsBefore v v
before-not v (inl lt) = omega (arith, lt)
before-not v (inr (e, inl lt)) = omega (arith, lt)
before-not v (inr (e, inr (f, lt))) = omega (arith, lt)

inside-trans : (a b c x y z : ℕ) → (a < b) ⊎ ((a ≡ b) × (x < y)) → (b < c) ⊎ ((b ≡ c) × (y < z)) → (a < c) ⊎ ((a ≡ c) × (x < z))
inside-trans a b c x y z (inl p) (inl q) = inl (omega (arith, p, q))
inside-trans a b c x y z (inl p) (inr (e, q)) = inl (omega (arith, p, e))
inside-trans a b c x y z (inr (e, p)) (inl q) = inl (omega (arith, e, q))
inside-trans a b c x y z (inr (e, p)) (inr (f, q)) = inr (e ∙ f, omega (arith, p, q))

before-trans : (u v w : Vertex) → IsBefore u v → IsBefore v w → IsBefore u w
before-trans u v w (inl p) (inl q) = inl (omega (arith, p, q))
before-trans u v w (inl p) (inr (e, q)) = inl (omega (arith, p, e))
before-trans u v w (inr (e, p)) (inl q) = inl (omega (arith, e, q))
before-trans u v w (inr (e, p)) (inr (f, q)) =
    inr (e ∙ f, inside-trans (function_place u.symbol.fun) (function_place v.symbol.fun) (function_place w.symbol.fun) u.state v.state w.state p q)

edge-not : (e : ℕ × ℕ) → ¬ IsEdgeBefore e e
edge-not e (inl lt) = omega (arith, lt)
edge-not e (inr (same, lt)) = omega (arith, lt)

edge-trans : (e f g : ℕ × ℕ) → IsEdgeBefore e f → IsEdgeBefore f g → IsEdgeBefore e g
edge-trans e f g p q = inside-trans e.0 f.0 g.0 e.1 f.1 g.1 p q

-- what one automaton joins the other joins too
module _ (net : Network) (a b : SymbolAutomaton) (n : ℕ) (alike : DoAlike net a b n) (d : ℕ) (dest : IsHost net d) where
  joined : (inside : List Vertex) → ((v : Vertex) → In v inside → v.state < n) → (e : ℕ × ℕ) → IsJoined net a d inside e → IsJoined net b d inside e
  joined inside low e (v, at_v, inl (u, at_u, step)) =
      (v, at_v, inl (u, at_u, (edge net a b n alike v u (low v (get-in inside e.0 v at_v)) step).0))
  joined inside low e (v, at_v, inr (far, end)) = (v, at_v, inr (far, last net a b n alike d v dest (low v (get-in inside e.0 v at_v)) end))

module _ (net : Network) (a b : SymbolAutomaton) (n : ℕ) (alike : DoAlike net a b n) (s d : ℕ) (source : IsHost net s) (dest : IsHost net d) where
  back : DoAlike net b a n
  back = alike-back net a b n alike

  start-alike : start_of a s ≡ start_of b s
  start-alike = ap (λ q. record { symbol = at s; state = q }) (alike.step 0 (at s) alike.first (host_symbol net s source)).0

  start-low : (start_of a s).state < n
  start-low = (alike.step 0 (at s) alike.first (host_symbol net s source)).1

  low : (v : Vertex) → IsOnWayBetween net a s d v → v.state < n
  low v h = (comes net a b n alike (start_of a s) h.before v start-low h.reached).1

  empty-alike : (p : Product) → IsEmptyProduct net a s d p → IsEmptyProduct net b s d p
  empty-alike p h = record {
    none = λ us way. h.none us (leads net b a n back d (start_of a s) us dest start-low (subst (λ v. LeadsToEnd net b d v us) (sym start-alike) way));
    vertices = h.vertices;
    edges = h.edges;
  }

  trimmed-alike : (p : Product) → IsTrimmedProduct net a s d p → IsTrimmedProduct net b s d p
  trimmed-alike p t =
      let to : (v : Vertex) → Contains (start_of a s ∷ t.inner) v → Contains (start_of b s ∷ t.inner) v = λ v. subst (λ x. Contains (x ∷ t.inner) v) start-alike in
      let from : (v : Vertex) → Contains (start_of b s ∷ t.inner) v → Contains (start_of a s ∷ t.inner) v = λ v. subst (λ x. Contains (x ∷ t.inner) v) (sym start-alike) in
      let below : (v : Vertex) → In v (start_of a s ∷ t.inner) → v.state < n = λ v i. low v ((t.exactly v).0 (in_to (start_of a s ∷ t.inner) v i)) in
      let below_too : (v : Vertex) → In v (start_of b s ∷ t.inner) → v.state < n = λ v i. below v (subst (λ x. In v (x ∷ t.inner)) (sym start-alike) i) in
      let step : (v : Vertex) → v.state < n → a.step v.state (at d) ≡ b.step v.state (at d) = λ v lt. (alike.step v.state (at d) lt (host_symbol net d dest)).0 in
      let first = t.entered.0 in
      let first_low : first.state < n = below first (in_from (start_of a s ∷ t.inner) first t.entered.1) in
      record {
        inner = t.inner;
        state = t.state;
        vertices = t.vertices ∙ ap (λ x. (x ∷ t.inner) ++ record { symbol = at d; state = t.state } ∷ []) start-alike;
        exactly = λ v. (
          λ c. on-way net a b n alike s d v source dest ((t.exactly v).0 (from v c)),
          λ w. to v ((t.exactly v).1 (on-way net b a n back s d v source dest w)),
        );
        others = subst (λ x. AllByRecursion (λ v. x ≢ v) t.inner) start-alike t.others;
        ascending = t.ascending;
        entered = (first, to first t.entered.1, last net a b n alike d first dest first_low t.entered.2, t.entered.3 ∙ step first first_low);
        least = λ v c l.
            let lt : v.state < n = below_too v (in_from (start_of b s ∷ t.inner) v c) in
            subst (λ m. t.state ≤ m) (step v lt) (t.least v (from v c) (last net b a n back d v dest lt l));
        joined = λ e. (
          λ c. subst (λ x. IsJoined net b d (x ∷ t.inner) e) start-alike (joined net a b n alike d dest (start_of a s ∷ t.inner) below e ((t.joined e).0 c)),
          λ j. (t.joined e).1 (subst (λ x. IsJoined net a d (x ∷ t.inner) e) (sym start-alike) (joined net b a n back d dest (start_of b s ∷ t.inner) below_too e j)),
        );
        in_order = t.in_order;
      }

  pub product-alike : (p : Product) → IsProductOfHosts net a s d p → IsProductOfHosts net b s d p
  product-alike p (inl h) = inl (empty-alike p h)
  product-alike p (inr t) = inr (trimmed-alike p t)

-- one automaton has one product
module _ (net : Network) (a : SymbolAutomaton) (s d : ℕ) where
  abbrev Inside : List Vertex → List Vertex
  Inside inner = start_of a s ∷ inner

  within : (p q : Product) (t : IsTrimmedProduct net a s d p) (u : IsTrimmedProduct net a s d q) → (v : Vertex) → In v t.inner → In v u.inner
  within p q t u v i = by (in_from (Inside u.inner) v ((u.exactly v).1 ((t.exactly v).0 (in_to (Inside t.inner) v (inr i)))))
    where
      by : In v (Inside u.inner) → In v u.inner
      by (inl e) = absurd (all_in (λ w. start_of a s ≢ w) t.inner v t.others i (sym e))
      by (inr j) = j

  lower : (p q : Product) (t : IsTrimmedProduct net a s d p) (u : IsTrimmedProduct net a s d q) → t.inner ≡ u.inner → t.state ≤ u.state
  lower p q t u same =
      let v = u.entered.0 in
      let less : t.state ≤ a.step v.state (at d) = t.least v (subst (λ l. Contains (Inside l) v) (sym same) u.entered.1) u.entered.2 in
      subst (λ m. t.state ≤ m) (sym u.entered.3) less

  one-trimmed : (p q : Product) → IsTrimmedProduct net a s d p → IsTrimmedProduct net a s d q → p ≡ q
  one-trimmed p q t u =
      let inner : t.inner ≡ u.inner = ascending-one IsBefore before-not before-trans t.inner u.inner t.ascending u.ascending (within p q t u) (within q p u t) in
      let under = lower p q t u inner in
      let over = lower q p u t (sym inner) in
      let state : t.state ≡ u.state = omega (arith, under, over) in
      let vertices : p.vertices ≡ q.vertices = t.vertices ∙ ap₂ (λ l m. (Inside l) ++ record { symbol = at d; state = m } ∷ []) inner state ∙ sym u.vertices in
      let edges : p.edges ≡ q.edges = ascending-one IsEdgeBefore edge-not edge-trans p.edges q.edges t.in_order u.in_order
      (λ e i. in_from q.edges e ((u.joined e).1 (subst (λ l. IsJoined net a d (Inside l) e) inner ((t.joined e).0 (in_to p.edges e i)))))
      (λ e i. in_from p.edges e ((t.joined e).1 (subst (λ l. IsJoined net a d (Inside l) e) (sym inner) ((u.joined e).0 (in_to q.edges e i))))) in
      λ i. record { vertices = vertices i; edges = edges i }

  not-empty : (p q : Product) → IsEmptyProduct net a s d p → IsTrimmedProduct net a s d q → ⊥
  not-empty p q h t = let way = (t.exactly (start_of a s)).0 (in_to (Inside t.inner) (start_of a s) (inl refl)) in h.none way.after way.leads

  pub one-product : (p q : Product) → IsProductOfHosts net a s d p → IsProductOfHosts net a s d q → p ≡ q
  one-product p q (inl h) (inl k) =
      let vertices : p.vertices ≡ q.vertices = h.vertices ∙ sym k.vertices in
      let edges : p.edges ≡ q.edges = h.edges ∙ sym k.edges in
      λ i. record { vertices = vertices i; edges = edges i }
  one-product p q (inl h) (inr t) = absurd (not-empty p q h t)
  one-product p q (inr t) (inl h) = absurd (not-empty q p h t)
  one-product p q (inr t) (inr u) = one-trimmed p q t u
