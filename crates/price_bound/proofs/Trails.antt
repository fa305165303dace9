-- Paths through the graph of a flow, and trails over its variables.
use Rattle.std.proofs.Common.{◌≡◌, ◌≢◌, ℕ, zero, suc, ◌+◌, ◌*◌, ◌≤◌, Bool, List, [], ◌∷◌, ◌++◌, length, reverse, Option, None, Some, slice_get, refl, sym, ◌∙◌, ap, subst, arith}
use Rattle.std.proofs.lemmas.List.{length-map, length-reverse}
use Rattle.std.proofs.lemmas.List.Sums.{sum_by-cons}
use Rattle.std.specs.List.{AllByRecursion}
use Rattle.merlin_model.specs.declared.policy.Value.{Value}
use Rattle.merlin_model.specs.Networks.{AreDifferent}
use Rattle.cutoff_program.specs.declared.flow.Problem.{Problem}
use Rattle.cutoff_program.specs.declared.flow.Variable.{Variable}
use Rattle.cutoff_program.specs.Flows.{variables_of}
use Rattle.cutoff_program.specs.Trails.{IsTrailOf, IsPath, sum_along, comes_to, with_vertex}
use Rattle.cutoff_program.specs.Easy.{MayIn}
use Rattle.cutoff_program.proofs.Shortening.{comes_to-cons}
use Rattle.cutoff_program.proofs.Following.{sum-cons}
use Rattle.graph_search.specs.declared.graph.Edge.{Edge}
use Rattle.graph_search.specs.declared.paths.Potentials.{Potentials}
use Rattle.graph_search.specs.Graphs.{known_at, IsEdgePath, GoesBack, ArePotentials, cost_of_edge, cost_of_path, cost_of_all}
use Rattle.graph_search.proofs.Places.{all-get, some-same, none-some}
use Rattle.price_candidates.specs.Tried.{AreLeastSums}
use Rattle.cutoff_program.proofs.Lists.{all_so, all_both}
use Rattle.cutoff_program.proofs.Points.{different-both}
use Rattle.price_candidates.proofs.Spreading.{path-small}
use Rattle.price_bound.proofs.WayBack.{reverse-cons, one-way}
use Rattle.price_bound.specs.declared.flow_graph.FlowStep.{FlowStep}
use Rattle.price_bound.specs.Steps.{step_of, edges_in}
use Rattle.price_bound.specs.Graphs.{IsPermittedStep, ArePermittedSteps}
use Rattle.price_bound.specs.Spreads.{variable_of_step, variables_along}

-- the step whose edge stands there
pub step-at : (steps : List FlowStep) (j : ℕ) (e : Edge) → slice_get (edges_in steps) j ≡ Some e → (s : FlowStep) × (slice_get steps j ≡ Some s) × (s.edge ≡ e)
step-at [] j e h = absurd (none-some h)
step-at (s ∷ steps) zero e h = (s, refl, some-same h)
step-at (s ∷ steps) (suc j) e h = step-at steps j e h

pub edge-at : (steps : List FlowStep) (j : ℕ) (s : FlowStep) → slice_get steps j ≡ Some s → slice_get (edges_in steps) j ≡ Some s.edge
edge-at [] j s h = absurd (none-some h)
edge-at (t ∷ steps) zero s h = ap (λ (x : FlowStep). Some x.edge) (some-same h)
edge-at (t ∷ steps) (suc j) s h = edge-at steps j s h

cost-at : (edges : List Edge) (j : ℕ) (e : Edge) → slice_get edges j ≡ Some e → cost_of_edge edges j ≡ e.cost
cost-at [] j e h = absurd (none-some h)
cost-at (d ∷ edges) zero e h = ap (λ (x : Edge). x.cost) (some-same h)
cost-at (d ∷ edges) (suc j) e h = cost-at edges j e h

-- all edges together cost no more than the greatest term for each
pub costs-small : (most : ℕ) (steps : List FlowStep) → AllByRecursion (λ s. s.edge.cost ≤ most) steps → cost_of_all (edges_in steps) ≤ length steps * most
costs-small most [] all = omega arith
costs-small most (s ∷ steps) all =
    let ih = costs-small most steps all.1 in
    let c = sum_by-cons (λ (e : Edge). e.cost) s.edge (edges_in steps) in
    let p : suc (length steps) * most ≡ most + length steps * most = omega arith in
    let h = all.0 in
    omega arith

module _ (problem : Problem) (cutoff : Option Value) (box : List (Option Bool)) (n : ℕ) (f : Variable → ℕ) (steps : List FlowStep) (are : ArePermittedSteps problem cutoff box n f steps) where
  pub record HasStep (j : ℕ) (e : Edge) : Type 0 where
    pub k : ℕ
    pub v : Variable
    pub number : variable_of_step (slice_get steps j) ≡ k
    pub stands : slice_get (variables_of problem) k ≡ Some v
    pub of : v.flow ≡ n
    pub may : MayIn problem cutoff box k
    pub from : v.edge.from ≡ e.from
    pub to : v.edge.to ≡ e.to
    pub cost : e.cost ≡ f v

  pub has-step : (j : ℕ) (e : Edge) → slice_get (edges_in steps) j ≡ Some e → HasStep j e
  has-step j e h =
      let s = step-at steps j e h in
      let p = all-get (IsPermittedStep problem cutoff box n f) steps j s.0 are.each s.1 in
      record {
        k = s.0.variable;
        v = p.v;
        number = ap variable_of_step s.1;
        stands = p.stands;
        of = p.of;
        may = p.may;
        from = sym (ap (λ (x : FlowStep). x.edge.from) p.is) ∙ ap (λ (x : Edge). x.from) s.2;
        to = sym (ap (λ (x : FlowStep). x.edge.to) p.is) ∙ ap (λ (x : Edge). x.to) s.2;
        cost = sym (ap (λ (x : Edge). x.cost) s.2) ∙ ap (λ (x : FlowStep). x.edge.cost) p.is;
      }

  -- a path through the graph is a trail of the flow
  pub trail-of-path : (js : List ℕ) (u v : ℕ) → IsEdgePath (edges_in steps) u js v → IsTrailOf (variables_of problem) n (variables_along steps js) u v
  trail-of-path [] u v p = p
  trail-of-path (j ∷ js) u v p =
      let s = has-step j p.0 p.1 in
      let rest = trail-of-path js p.0.to v p.3 in
      (s.v, ap (slice_get (variables_of problem)) s.number ∙ s.stands, s.of, s.from ∙ p.2, subst (λ x. IsTrailOf (variables_of problem) n (variables_along steps js) x v) (sym s.to) rest)

  pub may-of-path : (js : List ℕ) (u v : ℕ) → IsEdgePath (edges_in steps) u js v → AllByRecursion (MayIn problem cutoff box) (variables_along steps js)
  may-of-path [] u v p = tt
  may-of-path (j ∷ js) u v p = let s = has-step j p.0 p.1 in (subst (MayIn problem cutoff box) (sym s.number) s.may, may-of-path js p.0.to v p.3)

  pub sum-of-path : (js : List ℕ) (u v : ℕ) → IsEdgePath (edges_in steps) u js v → sum_along (variables_of problem) f (variables_along steps js) ≡ cost_of_path (edges_in steps) js
  sum-of-path [] u v p = refl
  sum-of-path (j ∷ js) u v p =
      let s = has-step j p.0 p.1 in
      let ih = sum-of-path js p.0.to v p.3 in
      let a = sum-cons (variables_of problem) f (variable_of_step (slice_get steps j)) (variables_along steps js) s.v (ap (slice_get (variables_of problem)) s.number ∙ s.stands) in
      let b = sum_by-cons (cost_of_edge (edges_in steps)) j js in
      let c = cost-at (edges_in steps) j p.0 p.1 in
      let d = s.cost in
      omega arith

  -- and a trail that may be taken is a path through the graph
  pub record HasPathOf (ks : List ℕ) (u v : ℕ) : Type 0 where
    pub js : List ℕ
    pub path : IsEdgePath (edges_in steps) u js v
    pub cost : cost_of_path (edges_in steps) js ≡ sum_along (variables_of problem) f ks

  pub path-of-trail : (ks : List ℕ) (u v : ℕ) → IsTrailOf (variables_of problem) n ks u v → AllByRecursion (MayIn problem cutoff box) ks → HasPathOf ks u v
  path-of-trail [] u v t all = record { js = []; path = t; cost = refl }
  path-of-trail (k ∷ ks) u v t all =
      let w = t.0 in
      let r = path-of-trail ks w.edge.to v t.4 all.1 in
      let j = are.all k w t.1 t.2 all.0 in
      let e = edge-at steps j.0 (step_of f k w) j.1 in
      let a = sum-cons (variables_of problem) f k ks w t.1 in
      let b = sum_by-cons (cost_of_edge (edges_in steps)) j.0 r.js in
      let c : cost_of_edge (edges_in steps) j.0 ≡ f w = cost-at (edges_in steps) j.0 (step_of f k w).edge e in
      let d = r.cost in
      record { js = j.0 ∷ r.js; path = ((step_of f k w).edge, e, t.3, r.path); cost = omega arith }

  -- least costs through the graph are least sums of trails
  pub least-sums : (size : ℕ) (p : Potentials) → ArePotentials size (edges_in steps) 0 p → AreLeastSums problem cutoff box n f (known_at p.distance)
  least-sums size p is = record {
    reached = λ vertex sum e.
        let r = is.reached vertex sum e in
        (variables_along steps (reverse r.back), trail-of-path (reverse r.back) 0 vertex r.path, may-of-path (reverse r.back) 0 vertex r.path, sum-of-path (reverse r.back) 0 vertex r.path ∙ r.costs);
    least = λ vertex trail t all. by vertex (path-of-trail trail 0 vertex t all) (known_at p.distance vertex) refl;
  }
    where
      by : (vertex : ℕ) {ks : List ℕ} → HasPathOf ks 0 vertex → (o : Option ℕ) → known_at p.distance vertex ≡ o → (sum : ℕ) × (known_at p.distance vertex ≡ Some sum) × (sum ≤ sum_along (variables_of problem) f ks)
      by vertex h None e = absurd ((is.unreached vertex e).1 h.js h.path)
      by vertex h (Some sum) e = let l = (is.reached vertex sum e).least h.js h.path in let c = h.cost in (sum, e, (omega arith))

  -- The way back comes to no vertex twice.

  pub record IsOnWay (before : List (Option ℕ)) (most w : ℕ) : Type 0 where
    pub ts : List ℕ
    pub goes : GoesBack (edges_in steps) before 0 ts w
    pub few : length ts ≤ most

  pub record ComesOnce (before : List (Option ℕ)) (ks : List ℕ) : Type 0 where
    pub different : AreDifferent (0 ∷ comes_to (variables_of problem) (variables_along steps (reverse ks)))
    pub ways : AllByRecursion (IsOnWay before (length ks)) (0 ∷ comes_to (variables_of problem) (variables_along steps (reverse ks)))

  comes-append : (xs : List ℕ) (k : ℕ) (v : Variable) → slice_get (variables_of problem) k ≡ Some v → comes_to (variables_of problem) (xs ++ k ∷ []) ≡ comes_to (variables_of problem) xs ++ v.edge.to ∷ []
  comes-append [] k v e = comes_to-cons (variables_of problem) k [] v e
  comes-append (x ∷ xs) k v e = by (slice_get (variables_of problem) x) (comes-append xs k v e)
    where
      by : (o : Option Variable) → comes_to (variables_of problem) (xs ++ k ∷ []) ≡ comes_to (variables_of problem) xs ++ v.edge.to ∷ [] → with_vertex o (comes_to (variables_of problem) (xs ++ k ∷ [])) ≡ with_vertex o (comes_to (variables_of problem) xs) ++ v.edge.to ∷ []
      by None ih = ih
      by (Some w) ih = ap (λ l. w.edge.to ∷ l) ih

  along-append : (xs : List ℕ) (k : ℕ) → variables_along steps (xs ++ k ∷ []) ≡ variables_along steps xs ++ variable_of_step (slice_get steps k) ∷ []
  along-append [] k = refl
  along-append (x ∷ xs) k = ap (λ l. variable_of_step (slice_get steps x) ∷ l) (along-append xs k)

  once-more : (before : List (Option ℕ)) (k : ℕ) (ks : List ℕ) (v : ℕ) (g : GoesBack (edges_in steps) before 0 (k ∷ ks) v) → ComesOnce before ks → ComesOnce before (k ∷ ks)
  once-more before k ks v g ih =
      record {
        different = subst AreDifferent (sym list) (different-both earlier (v ∷ []) ih.different (tt, tt) (all_so (IsOnWay before (length ks)) (λ x. AllByRecursion (λ y. x ≢ y) (v ∷ [])) earlier other ih.ways));
        ways = subst (AllByRecursion (IsOnWay before (suc (length ks)))) (sym list) (all_both (IsOnWay before (suc (length ks))) earlier (v ∷ []) (all_so (IsOnWay before (length ks)) (IsOnWay before (suc (length ks))) earlier more ih.ways) (record { ts = k ∷ ks; goes = g; few = omega arith }, tt));
      }
    where
      earlier : List ℕ
      earlier = 0 ∷ comes_to (variables_of problem) (variables_along steps (reverse ks))

      s : HasStep k g.0
      s = has-step k g.0 g.2

      list : 0 ∷ comes_to (variables_of problem) (variables_along steps (reverse (k ∷ ks))) ≡ earlier ++ v ∷ []
      list = ap (λ l. 0 ∷ l) (
          ap (λ l. comes_to (variables_of problem) (variables_along steps l)) (reverse-cons k ks)
          ∙ ap (comes_to (variables_of problem)) (along-append (reverse ks) k)
          ∙ comes-append (variables_along steps (reverse ks)) (variable_of_step (slice_get steps k)) s.v (ap (slice_get (variables_of problem)) s.number ∙ s.stands)
          ∙ ap (λ x. comes_to (variables_of problem) (variables_along steps (reverse ks)) ++ x ∷ []) (s.to ∙ g.3))

      other : (x : ℕ) → IsOnWay before (length ks) x → AllByRecursion (λ y. x ≢ y) (v ∷ [])
      other x w = (
        (λ e.
            let same = ap length (one-way (edges_in steps) before 0 w.ts (k ∷ ks) v (subst (GoesBack (edges_in steps) before 0 w.ts) e w.goes) g) in
            let l : length (k ∷ ks) ≡ suc (length ks) = refl in
            let h = w.few in
            let bad : ⊥ = omega arith in bad),
        tt,
      )

      more : (x : ℕ) → IsOnWay before (length ks) x → IsOnWay before (suc (length ks)) x
      more x w = record { ts = w.ts; goes = w.goes; few = let h = w.few in omega arith }

  pub comes-once : (before : List (Option ℕ)) (ks : List ℕ) (v : ℕ) → GoesBack (edges_in steps) before 0 ks v → ComesOnce before ks
  comes-once before [] v g = record {
    different = ((tt, tt));
    ways = (record { ts = []; goes = (refl, subst (λ x. known_at before x ≡ None) g.0 g.1); few = omega arith }, tt);
  }
  comes-once before (k ∷ ks) v g = once-more before k ks v g (comes-once before ks g.0.from g.4)

  -- What the way back from a vertex gives: a path that may be taken, of the least sum.
  pub record IsFoundPath (v most : ℕ) (path : List ℕ) : Type 0 where
    pub is_path : IsPath (variables_of problem) n path 0 v
    pub allowed : AllByRecursion (MayIn problem cutoff box) path
    pub reached : sum_along (variables_of problem) f path ≡ most

  pub found-path : (size : ℕ) (p : Potentials) → ArePotentials size (edges_in steps) 0 p → (v most : ℕ) → known_at p.distance v ≡ Some most → (ks : List ℕ) → GoesBack (edges_in steps) p.before 0 ks v → IsFoundPath v most (variables_along steps (reverse ks))
  found-path size p is v most e ks g =
      let r = is.reached v most e in
      let same : r.back ≡ ks = one-way (edges_in steps) p.before 0 r.back ks v r.goes_back g in
      let path : IsEdgePath (edges_in steps) 0 (reverse ks) v = subst (λ l. IsEdgePath (edges_in steps) 0 (reverse l) v) same r.path in
      record {
        is_path = record { steps = trail-of-path (reverse ks) 0 v path; simple = (comes-once p.before ks v g).different };
        allowed = may-of-path (reverse ks) 0 v path;
        reached = sum-of-path (reverse ks) 0 v path ∙ ap (λ l. cost_of_path (edges_in steps) (reverse l)) (sym same) ∙ r.costs;
      }

  -- a path has no more edges than there are variables
  ones-along : (ks : List ℕ) (u v : ℕ) → IsTrailOf (variables_of problem) n ks u v → sum_along (variables_of problem) (λ v. 1) ks ≡ length ks
  ones-along [] u v t = refl
  ones-along (k ∷ ks) u v t =
      let ih = ones-along ks t.0.edge.to v t.4 in
      let a = sum-cons (variables_of problem) (λ v. 1) k ks t.0 t.1 in
      let l : length (k ∷ ks) ≡ suc (length ks) = refl in
      omega arith

  pub way-short : (before : List (Option ℕ)) (ks : List ℕ) (v : ℕ) → GoesBack (edges_in steps) before 0 ks v → IsEdgePath (edges_in steps) 0 (reverse ks) v → length ks ≤ length (variables_of problem)
  way-short before ks v g path =
      let trail = trail-of-path (reverse ks) 0 v path in
      let is : IsPath (variables_of problem) n (variables_along steps (reverse ks)) 0 v = record { steps = trail; simple = (comes-once before ks v g).different } in
      let small = path-small (variables_of problem) (λ v. 1) 1 n (variables_along steps (reverse ks)) 0 v (λ j w e. omega arith) is in
      let ones = ones-along (variables_along steps (reverse ks)) 0 v trail in
      let a = length-map (reverse ks) (λ j. variable_of_step (slice_get steps j)) in
      let b = length-reverse ks in
      omega arith
