-- A flow that is added to the costs.
use Rattle.std.proofs.Common.{◌≡◌, ℕ, zero, suc, ◌+◌, ◌-◌, ◌*◌, ◌≤◌, ◌<◌, ◌^◌, lit<, ◌==◌, ◌⊎◌, inl, inr, Bool, true, false, cond, List, [], ◌∷◌, ◌++◌, map, take, length, reverse, replicate, Contains, Option, None, Some, slice_get, min, refl, sym, ◌∙◌, ap, subst, append_assoc, arith}
use Rattle.std.proofs.lemmas.Int.{clamps}
use Rattle.std.proofs.lemmas.List.{append-nil, length-replicate}
use Rattle.std.proofs.lemmas.Option.{slice_get_within}
use Rattle.std.specs.List.{AllByRecursion, range_with_len}
use Rattle.merlin_model.specs.declared.policy.Value.{Value}
use Rattle.merlin_model.specs.Programs.{is_chosen}
use Rattle.merlin_model.proofs.Members.{In, in_from, in_to, in_append, in_append-left, in_append-right}
use Rattle.cutoff_program.specs.declared.flow.Problem.{Problem}
use Rattle.cutoff_program.specs.declared.flow.Flow.{Flow}
use Rattle.cutoff_program.specs.Flows.{variables_of, last_of, cost_of_variable}
use Rattle.cutoff_program.specs.Trails.{edges_of}
use Rattle.cutoff_program.specs.Limits.{IsProblem}
use Rattle.cutoff_program.specs.Easy.{EachFlowHas}
use Rattle.cutoff_program.proofs.Lists.{all_so}
use Rattle.graph_search.specs.Graphs.{known_at, GoesBack}
use Rattle.price_candidates.specs.Leaves.{flow_weights, IsPotential}
use Rattle.price_candidates.specs.Tried.{AreLeastSums, IsReached, IsLeastPath, capped, missing, only}
use Rattle.price_candidates.proofs.Spreading.{path-small, least-reached, least-unreached}
use Rattle.graph_search.proofs.Places.{take-next}
use Rattle.price_bound.specs.declared.flow_graph.FlowStep.{FlowStep}
use Rattle.price_bound.specs.declared.measure.Measure.{Measure}
use Rattle.price_bound.specs.declared.measure.Measure.TheVariants.{Cost}
use Rattle.price_bound.specs.declared.spread.Spread.{Spread}
use Rattle.price_bound.specs.declared.costs.Costs.{Costs}
use Rattle.price_bound.specs.Asked.{measured}
use Rattle.price_bound.specs.Steps.{edges_in}
use Rattle.price_bound.specs.Graphs.{IsPermittedStep}
use Rattle.price_bound.specs.Spreads.{IsFlowSpread, IsMarked, variables_along, variable_of_step}
use Rattle.price_bound.specs.Numbers.{AreCosts, IsCutAt}
use Rattle.price_bound.proofs.WayBack.{reverse-cons}
use Rattle.price_bound.proofs.Sizes.{measured-small}
use Rattle.price_bound.proofs.Trails.{least-sums, found-path, way-short, IsFoundPath}
use Rattle.price_bound.proofs.Flat.{with_flow, flat-more, small-with, each-more, each-so, length-taken, map-known}

pub capped-most : (most : ℕ) (o : Option ℕ) → capped most o ≤ most
capped-most most None = omega arith
capped-most most (Some d) = grind (arith, clamps)

-- The variables of a way back, in the one order or the other.

along-more : (steps : List FlowStep) (done : List ℕ) (k : ℕ) → variables_along steps (done ++ k ∷ []) ≡ variables_along steps done ++ variable_of_step (slice_get steps k) ∷ []
along-more steps [] k = refl
along-more steps (x ∷ done) k = ap (λ l. variable_of_step (slice_get steps x) ∷ l) (along-more steps done k)

turned : (steps : List FlowStep) (k : ℕ) (ks : List ℕ) → variables_along steps (reverse (k ∷ ks)) ≡ variables_along steps (reverse ks) ++ variable_of_step (slice_get steps k) ∷ []
turned steps k ks = ap (variables_along steps) (reverse-cons k ks) ∙ along-more steps (reverse ks) k

to-turned : (steps : List FlowStep) (ks : List ℕ) (x : ℕ) → In x (variables_along steps ks) → In x (variables_along steps (reverse ks))
to-turned steps [] x i = i
to-turned steps (k ∷ ks) x i = subst (In x) (sym (turned steps k ks)) (by i (to-turned steps ks x))
  where
    by : In x (variables_along steps (k ∷ ks)) → (In x (variables_along steps ks) → In x (variables_along steps (reverse ks))) → In x (variables_along steps (reverse ks) ++ variable_of_step (slice_get steps k) ∷ [])
    by (inl e) ih = in_append-right (variables_along steps (reverse ks)) (variable_of_step (slice_get steps k) ∷ []) x (inl e)
    by (inr i) ih = in_append-left (variables_along steps (reverse ks)) (variable_of_step (slice_get steps k) ∷ []) x (ih i)

from-turned : (steps : List FlowStep) (ks : List ℕ) (x : ℕ) → In x (variables_along steps (reverse ks)) → In x (variables_along steps ks)
from-turned steps [] x i = i
from-turned steps (k ∷ ks) x i = by (in_append (variables_along steps (reverse ks)) (variable_of_step (slice_get steps k) ∷ []) x (subst (In x) (turned steps k ks) i)) (from-turned steps ks x)
  where
    by : In x (variables_along steps (reverse ks)) ⊎ In x (variable_of_step (slice_get steps k) ∷ []) → (In x (variables_along steps (reverse ks)) → In x (variables_along steps ks)) → In x (variables_along steps (k ∷ ks))
    by (inl i) ih = inr (ih i)
    by (inr (inl e)) ih = inl e
    by (inr (inr b)) ih = absurd b

edges-more : (paths : List (List ℕ)) (path : List ℕ) → edges_of (paths ++ path ∷ []) ≡ edges_of paths ++ path
edges-more [] path = append-nil path
edges-more (p ∷ paths) path = ap (λ l. p ++ l) (edges-more paths path) ∙ sym (append_assoc p (edges_of paths) path)

pub none-costs : (problem : Problem) (cutoff : Option Value) (box : List (Option Bool)) (count : ℕ) → count ≡ length (variables_of problem) → AreCosts problem cutoff box 0 (record { numbers = []; point = replicate count false })
none-costs problem cutoff box count size = record {
  at = λ n u. 0;
  small = record { start = λ n. refl; low = λ n u. omega arith };
  flat = refl;
  paths = [];
  are_paths = tt;
  of = record { size = length-replicate count false ∙ size; chosen = λ k. (λ e. absurd (none count k e), λ c. absurd (in_from [] k c)) };
}
  where
    none : (n k : ℕ) → is_chosen (replicate n false) k ≡ true → ⊥
    none zero k e = let bad : false ≡ true → ⊥ = λ x. cc in bad e
    none (suc n) zero e = let bad : false ≡ true → ⊥ = λ x. cc in bad e
    none (suc n) (suc k) e = none n k e

module _ (problem : Problem) (cutoff : Option Value) (box : List (Option Bool)) (n : ℕ) (measure : Measure) (flow : Flow) (spread : Spread) (is : IsProblem problem) (sp : IsFlowSpread problem cutoff box n (measured problem measure) flow spread) where
  pub end-is : spread.graph.vertices - 1 ≡ last_of flow
  end-is = let s = sp.graph.size in omega arith

  pub sums : AreLeastSums problem cutoff box n (measured problem measure) (known_at spread.least.distance)
  sums = least-sums problem cutoff box n (measured problem measure) spread.graph.steps sp.graph.are spread.graph.vertices spread.least sp.least

  pub distances-are : length spread.least.distance ≡ last_of flow + 1
  distances-are = sp.least.distances ∙ sp.graph.size

  pub record IsReachedEnd (most : ℕ) : Type 0 where
    pub ks : List ℕ
    pub goes : GoesBack (edges_in spread.graph.steps) spread.least.before 0 ks (last_of flow)
    pub short : length ks ≤ length (variables_of problem)
    pub low : most ≤ 2 ^ 60
    pub found : IsFoundPath problem cutoff box n (measured problem measure) spread.graph.steps sp.graph.are (last_of flow) most (variables_along spread.graph.steps (reverse ks))

  pub reached-end : (most : ℕ) → known_at spread.least.distance (last_of flow) ≡ Some most → IsReachedEnd most
  reached-end most e =
      let r = sp.least.reached (last_of flow) most e in
      let found = found-path problem cutoff box n (measured problem measure) spread.graph.steps sp.graph.are spread.graph.vertices spread.least sp.least (last_of flow) most e r.back r.goes_back in
      let small = path-small (variables_of problem) (measured problem measure) (10 ^ 9) n (variables_along spread.graph.steps (reverse r.back)) 0 (last_of flow) (λ j v s. measured-small problem measure j v is s) found.is_path in
      let few = is.few_variables in
      let large : 32768 * 10 ^ 9 ≤ 2 ^ 60 = (let l : 32768 * 10 ^ 9 < 2 ^ 60 = lit< tt in omega arith) in
      let mul : length (variables_of problem) * 10 ^ 9 ≤ 32768 * 10 ^ 9 = omega arith in
      let same = found.reached in
      record {
        ks = r.back;
        goes = r.goes_back;
        short = way-short problem cutoff box n (measured problem measure) spread.graph.steps sp.graph.are spread.least.before r.back (last_of flow) r.goes_back r.path;
        low = omega arith;
        found = found;
      }

  pub steps-within : (point : List Bool) → length point ≡ length (variables_of problem) → AllByRecursion (λ s. s.variable < length point) spread.graph.steps
  steps-within point size = all_so (IsPermittedStep problem cutoff box n (measured problem measure)) (λ s. s.variable < length point) spread.graph.steps (λ s p. let h = slice_get_within (variables_of problem) s.variable p.v p.stands in omega arith) sp.graph.are.each

-- One more flow has its costs and its path.
pub costs-more : (problem : Problem) (cutoff : Option Value) (box : List (Option Bool)) (n : ℕ) (flow : Flow) (spread : Spread) (is : IsProblem problem) (sp : IsFlowSpread problem cutoff box n (measured problem Cost) flow spread) → slice_get problem.flows n ≡ Some flow →
    (most : ℕ) → known_at spread.least.distance (last_of flow) ≡ Some most → (r : IsReachedEnd problem cutoff box n Cost flow spread is sp most) → (old : Costs) (numbers : List ℕ) (point : List Bool) → AreCosts problem cutoff box n old → numbers ≡ old.numbers ++ map (capped most) spread.least.distance →
    IsMarked (variables_along spread.graph.steps r.ks) old.point point → AreCosts problem cutoff box (n + 1) (record { numbers = numbers; point = point })
costs-more problem cutoff box n flow spread is sp stands most e r old numbers point are more marked = record {
  at = at;
  small = small-with are.at n new are.small start (λ u. let h = capped-most most (known_at spread.least.distance u) in let l = r.low in omega arith);
  flat =
      more ∙ ap (λ l. l ++ map (capped most) spread.least.distance) are.flat
      ∙ ap (λ l. flow_weights are.at 0 (take n problem.flows) ++ l) (map-known (capped most) spread.least.distance ∙ ap (λ m. map new (range_with_len 0 m)) (distances-are problem cutoff box n Cost flow spread is sp))
      ∙ sym (flat-more are.at problem.flows n flow new stands);
  paths = are.paths ++ path ∷ [];
  are_paths = subst (λ flows. EachFlowHas (IsLeastPath problem cutoff box at) 0 flows (are.paths ++ path ∷ [])) (sym (take-next problem.flows n flow stands))
      (each-more (IsLeastPath problem cutoff box at) 0 (take n problem.flows) are.paths flow path
      (each-so (IsLeastPath problem cutoff box are.at) (IsLeastPath problem cutoff box at) n 0 (take n problem.flows) are.paths earlier (let l = length-taken problem.flows n flow stands in omega arith) are.are_paths)
      (subst (λ m. IsLeastPath problem cutoff box at m flow path) (let l = length-taken problem.flows n flow stands in let e : n ≡ 0 + length (take n problem.flows) = omega arith in e) own));
  of = record { size = marked.size ∙ are.of.size; chosen = λ k. (to k, from k) };
}
  where
    new : ℕ → ℕ
    new u = capped most (known_at spread.least.distance u)

    at : ℕ → ℕ → ℕ
    at = with_flow are.at n new

    path : List ℕ
    path = variables_along spread.graph.steps (reverse r.ks)

    reached : IsReached problem cutoff box n flow (cost_of_variable problem) new
    reached = least-reached problem cutoff box n flow (cost_of_variable problem) most (known_at spread.least.distance) (sums problem cutoff box n Cost flow spread is sp) e

    start : new 0 ≡ 0
    start = reached.potential.start

    last : new (last_of flow) ≡ most
    last = ap (capped most) e ∙ (let i : min most most ≡ most = grind (arith, clamps) in i)

    own-by : (b : Bool) → b ≡ true → IsPotential problem cutoff box n (cost_of_variable problem) (λ u. cond b (new u) (are.at n u))
    own-by true e = reached.potential
    own-by false e = let bad : false ≡ true → ⊥ = λ x. cc in absurd (bad e)

    own : IsLeastPath problem cutoff box at n flow path
    own = record {
      potential = own-by (n == n) (let same : (n == n) ≡ true = grind arith in same);
      is_path = r.found.is_path;
      allowed = r.found.allowed;
      reached = r.found.reached ∙ sym last ∙ (let same : (n == n) ≡ true = grind arith in sym (ap (λ b. cond b (new (last_of flow)) (are.at n (last_of flow))) same));
    }

    earlier : (m : ℕ) (f : Flow) (p : List ℕ) → m < n → IsLeastPath problem cutoff box are.at m f p → IsLeastPath problem cutoff box at m f p
    earlier m f p h l = record {
      potential = subst (λ b. IsPotential problem cutoff box m (cost_of_variable problem) (λ u. cond b (new u) (are.at m u))) (sym other) l.potential;
      is_path = l.is_path;
      allowed = l.allowed;
      reached = l.reached ∙ sym (ap (λ b. cond b (new (last_of f)) (are.at m (last_of f))) other);
    }
      where
        other : (m == n) ≡ false
        other = grind arith

    to : (k : ℕ) → is_chosen point k ≡ true → Contains (edges_of (are.paths ++ path ∷ [])) k
    to k c = by ((marked.chosen k).0 c)
      where
        by : (is_chosen old.point k ≡ true) ⊎ Contains (variables_along spread.graph.steps r.ks) k → Contains (edges_of (are.paths ++ path ∷ [])) k
        by (inl o) = in_to (edges_of (are.paths ++ path ∷ [])) k (subst (In k) (sym (edges-more are.paths path)) (in_append-left (edges_of are.paths) path k (in_from (edges_of are.paths) k ((are.of.chosen k).0 o))))
        by (inr m) = in_to (edges_of (are.paths ++ path ∷ [])) k (subst (In k) (sym (edges-more are.paths path)) (in_append-right (edges_of are.paths) path k (to-turned spread.graph.steps r.ks k (in_from (variables_along spread.graph.steps r.ks) k m))))

    from : (k : ℕ) → Contains (edges_of (are.paths ++ path ∷ [])) k → is_chosen point k ≡ true
    from k c = by (in_append (edges_of are.paths) path k (subst (In k) (edges-more are.paths path) (in_from (edges_of (are.paths ++ path ∷ [])) k c)))
      where
        by : In k (edges_of are.paths) ⊎ In k path → is_chosen point k ≡ true
        by (inl i) = (marked.chosen k).1 (inl ((are.of.chosen k).1 (in_to (edges_of are.paths) k i)))
        by (inr i) = (marked.chosen k).1 (inr (in_to (variables_along spread.graph.steps r.ks) k (from-turned spread.graph.steps r.ks k i)))

-- A flow whose end has no distance is cut.
pub cut-is : (problem : Problem) (cutoff : Option Value) (box : List (Option Bool)) (n : ℕ) (flow : Flow) (spread : Spread) (is : IsProblem problem) → IsFlowSpread problem cutoff box n (measured problem Cost) flow spread → slice_get problem.flows n ≡ Some flow →
    known_at spread.least.distance (last_of flow) ≡ None → (numbers : List ℕ) → numbers ≡ flow_weights (only n (λ vertex. missing (known_at spread.least.distance vertex))) 0 problem.flows → IsCutAt problem cutoff box numbers
cut-is problem cutoff box n flow spread is sp stands none numbers flat = record {
  n = n;
  flow = flow;
  at = λ vertex. missing (known_at spread.least.distance vertex);
  stands = stands;
  unreached = least-unreached problem cutoff box n flow (cost_of_variable problem) (known_at spread.least.distance) (sums problem cutoff box n Cost flow spread is sp) none;
  flat = flat;
}
