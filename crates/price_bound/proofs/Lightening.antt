-- Loads that fit on a link are light.
use Rattle.std.proofs.Common.{◌≡◌, ℕ, suc, ◌+◌, ◌≤◌, ◌<◌, ◌==◌, ◌||◌, Bool, true, false, cond, pos, ◌≤ℤ◌, List, [], ◌∷◌, length, sum, Option, None, Some, slice_get, refl, sym, ◌∙◌, ap, arith}
use Rattle.std.proofs.lemmas.Int.{ints}
use Rattle.std.proofs.lemmas.Option.{slice_get_within}
use Rattle.std.proofs.lemmas.List.Sums.{sum_by-cons}
use Rattle.std.specs.List.{AllByRecursion}
use Rattle.merlin_model.specs.declared.policy.Value.{Value}
use Rattle.merlin_model.specs.Programs.{is_chosen}
use Rattle.merlin_model.specs.Trees.{fixed_at}
use Rattle.merlin_model.proofs.Members.{In, in_to, in_append-left, in_append-right}
use Rattle.cutoff_program.specs.declared.flow.Problem.{Problem}
use Rattle.cutoff_program.specs.declared.flow.Flow.{Flow}
use Rattle.cutoff_program.specs.declared.flow.Variable.{Variable}
use Rattle.cutoff_program.specs.Flows.{variables_of, last_of, rate_over, count_if, taken_from, room}
use Rattle.cutoff_program.specs.Trails.{edges_of, point_with}
use Rattle.cutoff_program.specs.Easy.{EachFlowHas, fixed_from, rate_if_fixed}
use Rattle.cutoff_program.proofs.Points.{point-sum, chosen-in, trail-different}
use Rattle.graph_search.proofs.Places.{some-same}
use Rattle.price_candidates.specs.Leaves.{capacity_at}
use Rattle.price_candidates.specs.Tried.{is_fixed_to_one, IsNoLess, IsLight}
use Rattle.price_candidates.proofs.Points.{trail-at, all-from}
use Rattle.price_bound.specs.Loads.{is_loaded, sum_where, load_on, IsAllowedPath, IsOfPaths}

-- what a flow's variable puts on a link
abbrev of_flow : ℕ → ℕ → Variable → ℕ
of_flow n link v = cond (v.flow == n) (rate_over link v) 0

-- A chosen part adds no more than all.
taken-where : (test : ℕ → Bool) (f g : Variable → ℕ) (k : ℕ) (vs : List Variable) (p : List Bool) → ((j i : ℕ) (v : Variable) → i ≡ k + j → slice_get vs j ≡ Some v → is_chosen p i ≡ true → (test i ≡ true) × (f v ≤ g v)) → taken_from k f vs p ≤ sum_where test g k vs
taken-where test f g k [] p h = omega arith
taken-where test f g k (v ∷ vs) p h = by (is_chosen p k) refl (taken-where test f g (k + 1) vs p (λ j i w e s c. h (suc j) i w (omega arith) s c))
  where
    by : (b : Bool) → is_chosen p k ≡ b → taken_from (k + 1) f vs p ≤ sum_where test g (k + 1) vs → count_if b (f v) + taken_from (k + 1) f vs p ≤ count_if (test k) (g v) + sum_where test g (k + 1) vs
    by true e ih =
        let r = h 0 k v (omega arith) refl e in
        let t : count_if (test k) (g v) ≡ g v = ap (λ b. count_if b (g v)) r.0 in
        let l = r.1 in
        omega arith
    by false e ih = omega arith

-- What is fixed of a flow adds no more than all of it.
fixed-where : (problem : Problem) (cutoff : Option Value) (box : List (Option Bool)) (point : List Bool) (n link k : ℕ) (vs : List Variable) → fixed_from problem cutoff box n link k vs ≤ sum_where (is_loaded point box) (of_flow n link) k vs
fixed-where problem cutoff box point n link k [] = omega arith
fixed-where problem cutoff box point n link k (v ∷ vs) =
    let ih = fixed-where problem cutoff box point n link (k + 1) vs in
    let here = by (fixed_at box k) (v.flow == n) (is_chosen point k) in
    omega arith
  where
    by : (o : Option Bool) (b c : Bool) → rate_if_fixed o b (rate_over link v) ≤ count_if (c || is_fixed_to_one o) (cond b (rate_over link v) 0)
    by None true c = omega arith
    by None false c = omega arith
    by (Some false) true c = omega arith
    by (Some false) false c = omega arith
    by (Some true) true true = omega arith
    by (Some true) true false = omega arith
    by (Some true) false c = omega arith

-- Flow by flow together no more than all.

module _ (test : ℕ → Bool) (link : ℕ) where
  abbrev by_flow : ℕ → List Variable → ℕ → List Flow → List ℕ
  by_flow k vs n [] = []
  by_flow k vs n (flow ∷ flows) = sum_where test (of_flow n link) k vs ∷ by_flow k vs (n + 1) flows

  abbrev one_by_flow : Bool → Variable → ℕ → List Flow → ℕ
  one_by_flow b v n [] = 0
  one_by_flow b v n (flow ∷ flows) = count_if b (of_flow n link v) + one_by_flow b v (n + 1) flows

  one-later : (b : Bool) (v : Variable) (n : ℕ) (flows : List Flow) → v.flow < n → one_by_flow b v n flows ≡ 0
  one-later b v n [] h = refl
  one-later b v n (flow ∷ flows) h = by b (v.flow == n) refl (one-later b v (n + 1) flows (omega arith))
    where
      by : (c d : Bool) → (v.flow == n) ≡ d → one_by_flow b v (n + 1) flows ≡ 0 → count_if c (cond d (rate_over link v) 0) + one_by_flow b v (n + 1) flows ≡ 0
      by c true e ih = let bad : ⊥ = grind arith in absurd bad
      by true false e ih = omega arith
      by false false e ih = omega arith

  one-most : (b : Bool) (v : Variable) (n : ℕ) (flows : List Flow) → one_by_flow b v n flows ≤ count_if b (rate_over link v)
  one-most b v n [] = omega arith
  one-most b v n (flow ∷ flows) = by b refl (v.flow == n) refl (one-most b v (n + 1) flows)
    where
      by : (c : Bool) → b ≡ c → (d : Bool) → (v.flow == n) ≡ d → one_by_flow b v (n + 1) flows ≤ count_if c (rate_over link v) → count_if c (cond d (rate_over link v) 0) + one_by_flow b v (n + 1) flows ≤ count_if c (rate_over link v)
      by c s true e ih =
          let low : v.flow < n + 1 = grind arith in
          let z = one-later b v (n + 1) flows low in
          omega arith
      by true s false e ih = omega arith
      by false s false e ih = omega arith

  none-by-flow : (k n : ℕ) (flows : List Flow) → sum (by_flow k [] n flows) ≡ 0
  none-by-flow k n [] = refl
  none-by-flow k n (flow ∷ flows) = let s = sum_by-cons (λ x. x) 0 (by_flow k [] (n + 1) flows) in let ih = none-by-flow k (n + 1) flows in omega arith

  first-by-flow : (k : ℕ) (v : Variable) (vs : List Variable) (n : ℕ) (flows : List Flow) → sum (by_flow k (v ∷ vs) n flows) ≡ one_by_flow (test k) v n flows + sum (by_flow (k + 1) vs n flows)
  first-by-flow k v vs n [] = refl
  first-by-flow k v vs n (flow ∷ flows) =
      let a = sum_by-cons (λ x. x) (sum_where test (of_flow n link) k (v ∷ vs)) (by_flow k (v ∷ vs) (n + 1) flows) in
      let b = sum_by-cons (λ x. x) (sum_where test (of_flow n link) (k + 1) vs) (by_flow (k + 1) vs (n + 1) flows) in
      let ih = first-by-flow k v vs (n + 1) flows in
      omega arith

  sum-by-flow : (k : ℕ) (vs : List Variable) (n : ℕ) (flows : List Flow) → sum (by_flow k vs n flows) ≤ sum_where test (rate_over link) k vs
  sum-by-flow k [] n flows = let z = none-by-flow k n flows in omega arith
  sum-by-flow k (v ∷ vs) n flows =
      let a = first-by-flow k v vs n flows in
      let b = one-most (test k) v n flows in
      let ih = sum-by-flow (k + 1) vs n flows in
      omega arith

module _ (problem : Problem) (cutoff : Option Value) (box : List (Option Bool)) (point : List Bool) (link : ℕ) where
  chosen-taken : (k : ℕ) → is_chosen point k ≡ true → is_loaded point box k ≡ true
  chosen-taken k e = ap (λ b. b || is_fixed_to_one (fixed_at box k)) e

  path-no-less : (n : ℕ) (flow : Flow) (path : List ℕ) → IsAllowedPath problem cutoff box n flow path → ((k : ℕ) → In k path → is_chosen point k ≡ true) → IsNoLess problem cutoff box link n flow (sum_where (is_loaded point box) (of_flow n link) 0 (variables_of problem))
  path-no-less n flow path is all = record {
    trail = path;
    through = record { steps = is.is_path.steps; allowed = is.allowed };
    of_trail =
        let s = point-sum (variables_of problem) (rate_over link) path low (trail-different (variables_of problem) n path 0 (last_of flow) is.is_path.steps is.is_path.simple.1) in
        let t = taken-where (is_loaded point box) (rate_over link) (of_flow n link) 0 (variables_of problem) (point_with (length (variables_of problem)) path) each in
        omega arith;
    of_fixed = fixed-where problem cutoff box point n link 0 (variables_of problem);
  }
    where
      low : AllByRecursion (λ k. k < length (variables_of problem)) path
      low = all-from (λ k. k < length (variables_of problem)) path (λ k i. let t = trail-at (variables_of problem) n path 0 (last_of flow) k is.is_path.steps i in slice_get_within (variables_of problem) k t.0 t.1)

      of : (v : Variable) → v.flow ≡ n → (b : Bool) → (v.flow == n) ≡ b → rate_over link v ≤ cond b (rate_over link v) 0
      of v h true e = omega arith
      of v h false e = let bad : ⊥ = grind arith in absurd bad

      each : (j i : ℕ) (v : Variable) → i ≡ 0 + j → slice_get (variables_of problem) j ≡ Some v → is_chosen (point_with (length (variables_of problem)) path) i ≡ true → (is_loaded point box i ≡ true) × (rate_over link v ≤ of_flow n link v)
      each j i v e s c =
          let inside = chosen-in (length (variables_of problem)) path i c in
          let t = trail-at (variables_of problem) n path 0 (last_of flow) i is.is_path.steps inside in
          let at_j : j ≡ i = omega arith in
          let same : t.0 ≡ v = some-same (sym t.1 ∙ ap (slice_get (variables_of problem)) (sym at_j) ∙ s) in
          (chosen-taken i (all i inside), of v (ap (λ (w : Variable). w.flow) (sym same) ∙ t.2) (v.flow == n) refl)

  each-no-less : (n : ℕ) (flows : List Flow) (paths : List (List ℕ)) → EachFlowHas (IsAllowedPath problem cutoff box) n flows paths → ((k : ℕ) → In k (edges_of paths) → is_chosen point k ≡ true) →
      EachFlowHas (IsNoLess problem cutoff box link) n flows (by_flow (is_loaded point box) link 0 (variables_of problem) n flows)
  each-no-less n [] [] each all = tt
  each-no-less n [] (path ∷ paths) each all = absurd each
  each-no-less n (flow ∷ flows) [] each all = absurd each
  each-no-less n (flow ∷ flows) (path ∷ paths) each all = (
    path-no-less n flow path each.0 (λ k i. all k (in_append-left path (edges_of paths) k i)),
    each-no-less (n + 1) flows paths each.1 (λ k i. all k (in_append-right path (edges_of paths) k i)),
  )

-- A load that fits is light.
pub fits-light : (problem : Problem) (cutoff : Option Value) (box : List (Option Bool)) (point : List Bool) (link : ℕ) → IsOfPaths problem cutoff box point → pos (load_on problem point box link) ≤ℤ room problem.objective cutoff (capacity_at problem link) → IsLight problem cutoff box link
fits-light problem cutoff box point link is h = record {
  loads = by_flow (is_loaded point box) link 0 (variables_of problem) 0 problem.flows;
  are_loads = each-no-less problem cutoff box point link 0 problem.flows is.paths is.are_paths (λ k i. (is.of.chosen k).1 (in_to (edges_of is.paths) k i));
  fits = let s = sum-by-flow (is_loaded point box) link 0 (variables_of problem) 0 problem.flows in omega (arith, ints);
}
