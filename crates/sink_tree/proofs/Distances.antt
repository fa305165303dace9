-- How many edges are left, as least costs along the edges turned round.
use Rattle.std.proofs.Common.{◌≡◌, ◌≢◌, ◌≤◌, ◌+◌, ℕ, suc, List, [], ◌∷◌, ◌++◌, length, reverse, slice_get, Contains, Option, None, Some, refl, sym, ◌∙◌, ap, subst, arith}
use Rattle.std.specs.Option.{option_map_or}
use Rattle.std.proofs.lemmas.List.Sums.{sum_by-cons, sum_by-append}
use Rattle.merlin_model.proofs.Members.{in_from, in_to}
use Rattle.graph_search.specs.declared.graph.Edge.{Edge}
use Rattle.graph_search.specs.declared.paths.Potentials.{Potentials}
use Rattle.graph_search.specs.Graphs.{known_at, IsEdgePath, cost_of_edge, cost_of_path, cost_of_all, ArePotentials}
use Rattle.sink_tree.specs.Backwards.{turned_pair, turned_edges}
use Rattle.sink_tree.proofs.Places.{some-same, get-in, in-get, get-map, map-get}

path-snoc : (es : List Edge) (u : ℕ) (path : List ℕ) (v k : ℕ) (e : Edge) → IsEdgePath es u path v → slice_get es k ≡ Some e → e.from ≡ v → IsEdgePath es u (path ++ k ∷ []) e.to
path-snoc es u [] v k e p at from = (e, at, from ∙ sym p, refl)
path-snoc es u (j ∷ path) v k e p at from = (p.0, p.1, p.2, path-snoc es p.0.to path v k e p.3 at from)

cost-snoc : (es : List Edge) (path : List ℕ) (k : ℕ) (e : Edge) → slice_get es k ≡ Some e → cost_of_path es (path ++ k ∷ []) ≡ cost_of_path es path + e.cost
cost-snoc es path k e at =
    let joined : cost_of_path es (path ++ k ∷ []) ≡ cost_of_path es path + cost_of_path es (k ∷ []) = sum_by-append (cost_of_edge es) path (k ∷ []) in
    let one : cost_of_path es (k ∷ []) ≡ cost_of_edge es k + 0 = sum_by-cons (cost_of_edge es) k [] in
    let own : cost_of_edge es k ≡ e.cost = ap (λ o. option_map_or (λ x. x.cost) o 0) at in
    omega (arith, joined, one, own)

cost-cons : (es : List Edge) (k : ℕ) (path : List ℕ) → cost_of_path es (k ∷ path) ≡ cost_of_edge es k + cost_of_path es path
cost-cons es k path = sum_by-cons (cost_of_edge es) k path

-- A path of some edges without its last one.
record HasLast (es : List Edge) (u v cost : ℕ) : Type 0 where
  rest : List ℕ
  number : ℕ
  edge : Edge
  there : slice_get es number ≡ Some edge
  ends : edge.to ≡ v
  path : IsEdgePath es u rest edge.from
  costs : cost_of_path es rest + edge.cost ≡ cost

last-of : (es : List Edge) (u k : ℕ) (path : List ℕ) (v : ℕ) → IsEdgePath es u (k ∷ path) v → HasLast es u v (cost_of_path es (k ∷ path))
last-of es u k [] v p = record {
  rest = [];
  number = k;
  edge = p.0;
  there = p.1;
  ends = p.3;
  path = sym p.2;
  costs =
      let one = cost-cons es k [] in
      let own : cost_of_edge es k ≡ p.0.cost = ap (λ o. option_map_or (λ x. x.cost) o 0) p.1 in
      let none : cost_of_path es [] ≡ 0 = refl in
      omega (arith, one, own, none);
}
last-of es u k (j ∷ path) v p =
    let h = last-of es p.0.to j path v p.3 in
    let first = cost-cons es k (j ∷ path) in
    let other = cost-cons es k h.rest in
    let same = h.costs in
    record {
      rest = k ∷ h.rest;
      number = h.number;
      edge = h.edge;
      there = h.there;
      ends = h.ends;
      path = (p.0, p.1, p.2, h.path);
      costs = omega (arith, first, other, same);
    }

module _ (n : ℕ) (edges : List (ℕ × ℕ)) (end : ℕ) (p : Potentials) (known : ArePotentials n (turned_edges edges) end p) where
  -- the edge as it stands turned round
  turned : (v u : ℕ) → Contains edges (v, u) → (k : ℕ) × (slice_get (turned_edges edges) k ≡ Some (turned_pair (v, u)))
  turned v u there = let k = in-get edges (v, u) (in_from edges (v, u) there) in (k.0, get-map turned_pair edges k.0 (v, u) k.1)

  pub at-end : known_at p.distance end ≡ Some 0
  at-end = by (known_at p.distance end) refl
    where
      by : (o : Option ℕ) → known_at p.distance end ≡ o → known_at p.distance end ≡ Some 0
      by None e = absurd ((known.unreached end e).1 [] refl)
      by (Some c) e = let le : c ≤ 0 = (known.reached end c e).least [] refl in let none : c ≡ 0 = omega (arith, le) in e ∙ ap Some none

  -- before an edge there is at most one edge more
  pub one-more : (v u c : ℕ) → Contains edges (v, u) → known_at p.distance u ≡ Some c → (b : ℕ) × (known_at p.distance v ≡ Some b) × (b ≤ suc c)
  one-more v u c there d = by (turned v u there) (reverse (known.reached u c d).back) (known.reached u c d).path (known.reached u c d).costs (known_at p.distance v) refl
    where
      by : (k : ℕ) × (slice_get (turned_edges edges) k ≡ Some (turned_pair (v, u))) → (path : List ℕ) → IsEdgePath (turned_edges edges) end path u → cost_of_path (turned_edges edges) path ≡ c →
          (o : Option ℕ) → known_at p.distance v ≡ o → (b : ℕ) × (known_at p.distance v ≡ Some b) × (b ≤ suc c)
      by k path leads costs None e = absurd ((known.unreached v e).1 (path ++ k.0 ∷ []) (path-snoc (turned_edges edges) end path u k.0 (turned_pair (v, u)) leads k.1 refl))
      by k path leads costs (Some b) e =
          let le : b ≤ cost_of_path (turned_edges edges) (path ++ k.0 ∷ []) = (known.reached v b e).least (path ++ k.0 ∷ []) (path-snoc (turned_edges edges) end path u k.0 (turned_pair (v, u)) leads k.1 refl) in
          let price : cost_of_path (turned_edges edges) (path ++ k.0 ∷ []) ≡ cost_of_path (turned_edges edges) path + 1 = cost-snoc (turned_edges edges) path k.0 (turned_pair (v, u)) k.1 in
          (b, e, omega (arith, le, price, costs))

  -- and there is an edge after which there is one less
  pub one-less : (v c : ℕ) → known_at p.distance v ≡ Some c → v ≢ end → (u : ℕ) × ((b : ℕ) × (Contains edges (v, u) × (known_at p.distance u ≡ Some b) × (c ≡ suc b)))
  one-less v c d other = by (reverse (known.reached v c d).back) (known.reached v c d).path (known.reached v c d).costs
    where
      closed : (u cost : ℕ) → Contains edges (v, u) → (path : List ℕ) → IsEdgePath (turned_edges edges) end path u → cost_of_path (turned_edges edges) path + 1 ≡ c →
          (o : Option ℕ) → known_at p.distance u ≡ o → (b : ℕ) × (Contains edges (v, u) × (known_at p.distance u ≡ Some b) × (c ≡ suc b))
      closed u cost there path leads costs None e = absurd ((known.unreached u e).1 path leads)
      closed u cost there path leads costs (Some b) e =
          let le : b ≤ cost_of_path (turned_edges edges) path = (known.reached u b e).least path leads in
          let more = one-more v u b there e in
          let same : more.0 ≡ c = some-same (sym more.1 ∙ d) in
          let ge = more.2 in
          (b, (there, e, omega (arith, le, costs, same, ge)))

      step : (cost : ℕ) → cost ≡ c → HasLast (turned_edges edges) end v cost → (u : ℕ) × ((b : ℕ) × (Contains edges (v, u) × (known_at p.distance u ≡ Some b) × (c ≡ suc b)))
      step cost costs h =
          let x = map-get turned_pair edges h.number h.edge h.there in
          let from : x.0.0 ≡ v = ap (λ y. y.to) x.2 ∙ h.ends in
          let there : Contains edges (v, x.0.1) = subst (λ w. Contains edges (w, x.0.1)) from (in_to edges x.0 (get-in edges h.number x.0 x.1)) in
          let path : IsEdgePath (turned_edges edges) end h.rest x.0.1 = subst (IsEdgePath (turned_edges edges) end h.rest) (sym (ap (λ y. y.from) x.2)) h.path in
          let one : h.edge.cost ≡ 1 = sym (ap (λ y. y.cost) x.2) in
          let paid = h.costs in
          (x.0.1, closed x.0.1 cost there h.rest path (omega (arith, one, paid, costs)) (known_at p.distance x.0.1) refl)

      by : (path : List ℕ) → IsEdgePath (turned_edges edges) end path v → cost_of_path (turned_edges edges) path ≡ c → (u : ℕ) × ((b : ℕ) × (Contains edges (v, u) × (known_at p.distance u ≡ Some b) × (c ≡ suc b)))
      by [] leads costs = absurd (other (sym leads))
      by (k ∷ path) leads costs = step (cost_of_path (turned_edges edges) (k ∷ path)) costs (last-of (turned_edges edges) end k path v leads)

-- each edge costs one
pub costs-all : (edges : List (ℕ × ℕ)) → cost_of_all (turned_edges edges) ≡ length edges
costs-all [] = refl
costs-all (e ∷ edges) =
    let first : cost_of_all (turned_edges (e ∷ edges)) ≡ 1 + cost_of_all (turned_edges edges) = sum_by-cons (λ x. x.cost) (turned_pair e) (turned_edges edges) in
    let rest = costs-all edges in
    omega (arith, first, rest)
