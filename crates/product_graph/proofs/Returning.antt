-- From which places edges lead to the last one.
use Rattle.std.proofs.Common.{◌≡◌, ◌<◌, ◌⊎◌, ◌↔◌, inl, inr, ◌+◌, ℕ, suc, zero, List, [], ◌∷◌, ◌++◌, length, slice_get, Contains, Option, None, Some, IsSome, refl, sym, ◌∙◌, ap, subst, arith}
use Rattle.std.proofs.lemmas.List.Sums.{sum_by-cons}
use Rattle.graph_search.specs.declared.graph.Edge.{Edge}
use Rattle.graph_search.specs.declared.paths.Potentials.{Potentials}
use Rattle.graph_search.specs.Graphs.{known_at, IsEdgePath, cost_of_all, ArePotentials}
use Rattle.product_graph.specs.declared.vertex_set.NumberedVertex.{NumberedVertex}
use Rattle.product_graph.specs.declared.search.Found.{Found}
use Rattle.product_graph.specs.declared.leading.Leading.{Leading}
use Rattle.product_graph.specs.Inside.{AreEdgesInside}
use Rattle.product_graph.specs.Reversed.{reversed_edge, reversed_edges}
use Rattle.product_graph.specs.Numbered.{Ground, next_of, IsReachable, PassesOut, LeadsOut}
use Rattle.product_graph.specs.Finding.{IsAllFound, StepsTo, ComesTo, JoinsEnd, AreLeading, IsReadable, IsSeenLeading}
use Rattle.product_graph.proofs.Lists.{some-same, none-some, false-true, get-below, get-contains, contains-get, all-contained, contained-all}
use Rattle.product_graph.proofs.Noting.{reach-all}

-- each edge costs one
pub costs-all : (edges : List (ℕ × ℕ)) → cost_of_all (reversed_edges edges) ≡ length edges
costs-all [] = refl
costs-all (e ∷ edges) =
    let first : cost_of_all (reversed_edges (e ∷ edges)) ≡ 1 + cost_of_all (reversed_edges edges) = sum_by-cons (λ x. x.cost) (reversed_edge e) (reversed_edges edges) in
    let rest = costs-all edges in
    omega (arith, first, rest)

path-snoc : (es : List Edge) (u : ℕ) (path : List ℕ) (v k : ℕ) (e : Edge) → IsEdgePath es u path v → slice_get es k ≡ Some e → e.from ≡ v → IsEdgePath es u (path ++ k ∷ []) e.to
path-snoc es u [] v k e p at from = (e, at, from ∙ sym p, refl)
path-snoc es u (j ∷ path) v k e p at from = (p.0, p.1, p.2, path-snoc es p.0.to path v k e p.3 at from)

get-reversed : (edges : List (ℕ × ℕ)) (k : ℕ) (e : ℕ × ℕ) → slice_get edges k ≡ Some e → slice_get (reversed_edges edges) k ≡ Some (reversed_edge e)
get-reversed [] k e h = absurd (none-some h)
get-reversed (x ∷ edges) zero e h = ap Some (ap reversed_edge (some-same h))
get-reversed (x ∷ edges) (suc k) e h = get-reversed edges k e h

reversed-get : (edges : List (ℕ × ℕ)) (k : ℕ) (b : Edge) → slice_get (reversed_edges edges) k ≡ Some b → (e : ℕ × ℕ) × (slice_get edges k ≡ Some e) × (reversed_edge e ≡ b)
reversed-get [] k b h = absurd (none-some h)
reversed-get (x ∷ edges) zero b h = (x, refl, some-same h)
reversed-get (x ∷ edges) (suc k) b h = reversed-get edges k b h

path-steps : (edges : List (ℕ × ℕ)) (last : ℕ) (path : List ℕ) (w v : ℕ) → IsEdgePath (reversed_edges edges) w path v → ComesTo edges last w → ComesTo edges last v
path-steps edges last [] w v p c = subst (ComesTo edges last) p c
path-steps edges last (k ∷ path) w v p c =
    let x = reversed-get edges k p.0 p.1 in
    let to : x.0.0 ≡ p.0.to = ap (λ e. e.to) x.2 in
    let from : x.0.1 ≡ w = ap (λ e. e.from) x.2 ∙ p.2 in
    let there : Contains edges (x.0.0, w) = subst (λ u. Contains edges (x.0.0, u)) from (get-contains edges k x.0 x.1) in
    path-steps edges last path p.0.to v p.3 (subst (ComesTo edges last) to (w ∷ c.0, (there, c.1)))

steps-path : (edges : List (ℕ × ℕ)) (last : ℕ) (us : List ℕ) (v : ℕ) → StepsTo edges v us last → (path : List ℕ) × IsEdgePath (reversed_edges edges) last path v
steps-path edges last [] v h = ([], sym h)
steps-path edges last (u ∷ us) v h =
    let rest = steps-path edges last us u h.1 in
    let place = contains-get edges (v, u) h.0 in
    (rest.0 ++ place.0 ∷ [], path-snoc (reversed_edges edges) last rest.0 u place.0 (reversed_edge (v, u)) rest.1 (get-reversed edges place.0 (v, u) place.1) refl)

-- a distance is known exactly where edges lead to the last place
pub known-comes : (n : ℕ) (edges : List (ℕ × ℕ)) (last : ℕ) (p : Potentials) → ArePotentials n (reversed_edges edges) last p → (v : ℕ) → IsSome (known_at p.distance v) ↔ ComesTo edges last v
known-comes n edges last p are v = (λ h. to (known_at p.distance v) refl h, λ h. from (known_at p.distance v) refl (steps-path edges last h.0 v h.1))
  where
    to : (o : Option ℕ) → known_at p.distance v ≡ o → IsSome o → ComesTo edges last v
    to None e h = absurd (false-true h)
    to (Some c) e h = let r = are.reached v c e in path-steps edges last _ last v r.path ([], refl)

    from : (o : Option ℕ) → known_at p.distance v ≡ o → (path : List ℕ) × IsEdgePath (reversed_edges edges) last path v → IsSome o
    from None e h = absurd ((are.unreached v e).1 h.0 h.1)
    from (Some c) e h = refl

-- edges between vertices and to the end are edges of so many places
pub are-inside : (P : NumberedVertex → Type 0) (vertices : List NumberedVertex) (old edges : List (ℕ × ℕ)) → AreEdgesInside (length vertices) old None → ((e : ℕ × ℕ) → Contains edges e ↔ (Contains old e ⊎ JoinsEnd P vertices e)) → AreEdgesInside (length vertices + 1) edges None
are-inside P vertices old edges inside are = (all-contained (λ e. (e.0 < length vertices + 1) × (e.1 < length vertices + 1)) edges (λ e c. by e ((are e).0 c)), tt)
  where
    by : (e : ℕ × ℕ) → Contains old e ⊎ JoinsEnd P vertices e → (e.0 < length vertices + 1) × (e.1 < length vertices + 1)
    by e (inl c) =
        let old = contained-all (λ x. (x.0 < length vertices) × (x.1 < length vertices)) old e inside.0 c in
        let from = old.0 in
        let to = old.1 in
        (omega (arith, from), omega (arith, to))
    by e (inr c) = let from = get-below vertices e.0 c.1.0 c.1.1 in let to = c.0 in (omega (arith, from), omega (arith, to))

-- the edges that were found are inside
pub found-inside : (g : Ground) (starts : List NumberedVertex) (found : Found) → IsAllFound g starts found → AreEdgesInside (length found.vertices) found.edges None
found-inside g starts found all = (all-contained (λ e. (e.0 < length found.vertices) × (e.1 < length found.vertices)) found.edges (λ e c. let j = all.sound e c in (get-below found.vertices e.0 j.0 j.1, get-below found.vertices e.1 (next_of g j.0 j.2.0) j.2.2)), tt)

module _ (g : Ground) (IsOneOfLast : NumberedVertex → Type 0) (starts : List NumberedVertex) (found : Found) (all : IsAllFound g starts found)
    (edges : List (ℕ × ℕ)) (are : (e : ℕ × ℕ) → Contains edges e ↔ (Contains found.edges e ⊎ JoinsEnd IsOneOfLast found.vertices e)) where
  comes-leads : (us : List ℕ) (i : ℕ) (p : NumberedVertex) → slice_get found.vertices i ≡ Some p → StepsTo edges i us (length found.vertices) → LeadsOut g IsOneOfLast p
  comes-leads [] i p e h = let lt = get-below found.vertices i p e in absurd (omega (arith, lt, h))
  comes-leads (u ∷ us) i p e h = by ((are (i, u)).0 h.0) (λ q f. comes-leads us u q f h.1)
    where
      by : Contains found.edges (i, u) ⊎ JoinsEnd IsOneOfLast found.vertices (i, u) → ((q : NumberedVertex) → slice_get found.vertices u ≡ Some q → LeadsOut g IsOneOfLast q) → LeadsOut g IsOneOfLast p
      by (inl c) ih =
          let j = all.sound (i, u) c in
          let same : j.0 ≡ p = some-same (sym j.1 ∙ e) in
          let rest = ih (next_of g j.0 j.2.0) j.2.2 in
          subst (LeadsOut g IsOneOfLast) same (j.2.0 ∷ rest.0, (j.2.1, rest.1))
      by (inr c) ih = ([], subst IsOneOfLast (some-same (sym c.1.1 ∙ e)) c.1.2)

  leads-comes : (ks : List ℕ) (i : ℕ) (p : NumberedVertex) → slice_get found.vertices i ≡ Some p → PassesOut g IsOneOfLast p ks → ComesTo edges (length found.vertices) i
  leads-comes [] i p e h = (length found.vertices ∷ [], ((are (i, length found.vertices)).1 (inr (refl, (p, e, h))), refl))
  leads-comes (k ∷ ks) i p e h =
      let next = all.closed i p k e (inl (get-below found.vertices i p e, h.0)) in
      let rest = leads-comes ks next.0 (next_of g p k) next.1 h.1 in
      (next.0 ∷ rest.0, ((are (i, next.0)).1 (inl next.2), rest.1))

  pub are-leading : (p : Potentials) → ArePotentials (length found.vertices + 1) (reversed_edges edges) (length found.vertices) p → AreLeading g IsOneOfLast starts (record { vertices = found.vertices; distance = p.distance })
  are-leading p known = record {
    long = let long = known.distances in omega (arith, long);
    on = all.on;
    reachable = λ q. (λ c. all.reached q c, λ r. reach-all g starts found all q r);
    leads = λ i q e. (
      λ h. let c = (known-comes (length found.vertices + 1) edges (length found.vertices) p known i).0 h in comes-leads c.0 i q e c.1,
      λ h. (known-comes (length found.vertices + 1) edges (length found.vertices) p known i).1 (leads-comes h.0 i q e h.1),
    );
  }

pub readable : (g : Ground) (IsOneOfLast : NumberedVertex → Type 0) (starts : List NumberedVertex) (l : Leading) → AreLeading g IsOneOfLast starts l → IsReadable l
readable g IsOneOfLast starts l are = record {
  long = let long = are.long in omega (arith, long);
  agree = λ i j p ei ej h. (are.leads j p ej).1 ((are.leads i p ei).0 h);
}

-- what is seen to lead to the end can be reached and leads there
pub seen-leading : (g : Ground) (IsOneOfLast : NumberedVertex → Type 0) (starts : List NumberedVertex) (l : Leading) → AreLeading g IsOneOfLast starts l → (p : NumberedVertex) → IsSeenLeading l p ↔ (IsReachable g starts p × LeadsOut g IsOneOfLast p)
seen-leading g IsOneOfLast starts l are p = (to, from)
  where
    to : IsSeenLeading l p → IsReachable g starts p × LeadsOut g IsOneOfLast p
    to s = ((are.reachable p).0 (get-contains l.vertices s.0 p s.1), (are.leads s.0 p s.1).0 s.2)

    from : IsReachable g starts p × LeadsOut g IsOneOfLast p → IsSeenLeading l p
    from h = let place = contains-get l.vertices p ((are.reachable p).1 h.0) in (place.0, place.1, (are.leads place.0 p place.1).1 h.1)
