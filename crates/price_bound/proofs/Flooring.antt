-- A flow that is added to what is tried of a link.
use Rattle.std.proofs.Common.{◌≡◌, ℕ, ◌+◌, ◌≤◌, ◌<◌, ◌^◌, ◌==◌, ◌⊎◌, inl, inr, Bool, true, false, cond, List, [], ◌++◌, map, length, replicate, Option, None, Some, slice_get, min, refl, sym, ◌∙◌, ap, subst, arith}
use Rattle.std.proofs.lemmas.Int.{clamps}
use Rattle.std.specs.List.{range_with_len}
use Rattle.merlin_model.specs.declared.policy.Value.{Value}
use Rattle.std.specs.Result.{OnOk}
use Rattle.std.specs.declared.result.Result.{Result}
use Rattle.std.specs.declared.result.Result.TheVariants.{Ok, Err}
use Rattle.merlin_model.specs.declared.name.OutOfMemory.{OutOfMemory}
use Rattle.cutoff_program.specs.declared.flow.Problem.{Problem}
use Rattle.cutoff_program.specs.declared.flow.Flow.{Flow}
use Rattle.cutoff_program.specs.Flows.{variables_of, last_of, rate_over}
use Rattle.cutoff_program.specs.Limits.{IsProblem}
use Rattle.cutoff_program.specs.Easy.{fixed_from}
use Rattle.graph_search.specs.Graphs.{known_at}
use Rattle.graph_search.proofs.Places.{none-some, some-same, le-or-lt}
use Rattle.price_candidates.specs.Tried.{IsReached, IsFloorByPath, IsFloorByFixed, IsFloorAt, capped}
use Rattle.price_candidates.proofs.Spreading.{least-reached}
use Rattle.price_bound.specs.declared.measure.Measure.TheVariants.{Rate}
use Rattle.price_bound.specs.declared.spread.Spread.{Spread}
use Rattle.price_bound.specs.Asked.{measured}
use Rattle.price_bound.specs.Spreads.{IsFlowSpread}
use Rattle.price_bound.specs.Numbers.{AreFloors, EachIsReached}
use Rattle.price_bound.proofs.Flat.{with_flow, flat-more, small-with, map-known, zeros-from}
use Rattle.price_bound.proofs.Costing.{capped-most, sums, distances-are, reached-end}

pub none-floors : (problem : Problem) (cutoff : Option Value) (box : List (Option Bool)) (link : ℕ) → AreFloors problem cutoff box link 0 []
none-floors problem cutoff box link = record {
  at = λ n u. 0;
  small = record { start = λ n. refl; low = λ n u. omega arith };
  flat = refl;
  floors = λ n flow h s. let bad : ⊥ = omega arith in absurd bad;
}

abbrev pub IsFloorOf : Problem → Option Value → List (Option Bool) → ℕ → ℕ → Flow → (ℕ → ℕ) → Type 0
IsFloorOf problem cutoff box link n flow new = IsFloorByPath problem cutoff box link n flow new ⊎ IsFloorByFixed problem cutoff box link n flow new

floors-more : (problem : Problem) (cutoff : Option Value) (box : List (Option Bool)) (link n : ℕ) (flow : Flow) (new : ℕ → ℕ) (old numbers : List ℕ) → slice_get problem.flows n ≡ Some flow → AreFloors problem cutoff box link n old → new 0 ≡ 0 → ((u : ℕ) → new u ≤ 2 ^ 60) →
    IsFloorOf problem cutoff box link n flow new → numbers ≡ old ++ map new (range_with_len 0 (last_of flow + 1)) → AreFloors problem cutoff box link (n + 1) numbers
floors-more problem cutoff box link n flow new old numbers stands are start low own more = record {
  at = with_flow are.at n new;
  small = small-with are.at n new are.small start low;
  flat = more ∙ ap (λ l. l ++ map new (range_with_len 0 (last_of flow + 1))) are.flat ∙ sym (flat-more are.at problem.flows n flow new stands);
  floors = λ m g h s. by m g h s (m == n) refl;
}
  where
    by : (m : ℕ) (g : Flow) → m < n + 1 → slice_get problem.flows m ≡ Some g → (b : Bool) → (m == n) ≡ b → IsFloorAt problem cutoff box link (with_flow are.at n new) m g
    by m g h s true e =
        let at : m ≡ n = grind arith in
        let same : g ≡ flow = some-same (sym s ∙ ap (slice_get problem.flows) at ∙ stands) in
        subst (λ b. IsFloorOf problem cutoff box link m g (λ u. cond b (new u) (are.at m u))) (sym e)
        (subst (λ i. IsFloorOf problem cutoff box link i g new) (sym at) (subst (λ f. IsFloorOf problem cutoff box link n f new) (sym same) own))
    by m g h s false e =
        let low_m : m < n = grind arith in
        subst (λ b. IsFloorOf problem cutoff box link m g (λ u. cond b (new u) (are.at m u))) (sym e) (are.floors m g low_m s)

module _ (problem : Problem) (cutoff : Option Value) (box : List (Option Bool)) (link n : ℕ) (flow : Flow) (spread : Spread) (is : IsProblem problem) (sp : IsFlowSpread problem cutoff box n (measured problem (Rate link)) flow spread) (stands : slice_get problem.flows n ≡ Some flow) where
  -- a flow that has a path is reached
  pub is-reached : EachIsReached problem cutoff box → known_at spread.least.distance (last_of flow) ≡ None → ⊥
  is-reached each e =
      let t = each n flow stands in
      let l = (sums problem cutoff box n (Rate link) flow spread is sp).least (last_of flow) t.0 t.1.steps t.1.allowed in
      none-some (sym e ∙ l.1)

  reached : (most : ℕ) → known_at spread.least.distance (last_of flow) ≡ Some most → IsReached problem cutoff box n flow (rate_over link) (λ u. capped most (known_at spread.least.distance u))
  reached most e = least-reached problem cutoff box n flow (rate_over link) most (known_at spread.least.distance) (sums problem cutoff box n (Rate link) flow spread is sp) e

  last : (most : ℕ) → known_at spread.least.distance (last_of flow) ≡ Some most → capped most (known_at spread.least.distance (last_of flow)) ≡ most
  last most e = ap (capped most) e ∙ (let i : min most most ≡ most = grind (arith, clamps) in i)

  pub floor-by-path : (most : ℕ) → known_at spread.least.distance (last_of flow) ≡ Some most → fixed_from problem cutoff box n link 0 (variables_of problem) ≤ most → (old numbers : List ℕ) → AreFloors problem cutoff box link n old → numbers ≡ old ++ map (capped most) spread.least.distance →
      AreFloors problem cutoff box link (n + 1) numbers
  floor-by-path most e h old numbers are more =
      let r = reached most e in
      let low = (reached-end problem cutoff box n (Rate link) flow spread is sp most e).low in
      let same = last most e in
      floors-more problem cutoff box link n flow (λ u. capped most (known_at spread.least.distance u)) old numbers stands are r.potential.start (λ u. let c = capped-most most (known_at spread.least.distance u) in omega arith)
      (inl (record { reached = r; no_more = omega arith }))
      (more ∙ ap (λ l. old ++ l) (map-known (capped most) spread.least.distance ∙ ap (λ m. map (λ u. capped most (known_at spread.least.distance u)) (range_with_len 0 m)) (distances-are problem cutoff box n (Rate link) flow spread is sp)))

  pub floor-by-fixed : (most : ℕ) → known_at spread.least.distance (last_of flow) ≡ Some most → most < fixed_from problem cutoff box n link 0 (variables_of problem) → (old numbers : List ℕ) → AreFloors problem cutoff box link n old →
      numbers ≡ old ++ (let zero_of : ℕ = 0 in replicate (length spread.least.distance) zero_of) → AreFloors problem cutoff box link (n + 1) numbers
  floor-by-fixed most e h old numbers are more =
      let r = reached most e in
      let same = last most e in
      floors-more problem cutoff box link n flow (λ u. 0) old numbers stands are refl (λ u. omega arith)
      (inr (record { sums = λ u. capped most (known_at spread.least.distance u); reached = r; no_less = omega arith; zero_at = λ u. refl }))
      (more ∙ ap (λ l. old ++ l) (zeros-from 0 (length spread.least.distance) ∙ ap (λ m. map (λ u. 0) (range_with_len 0 m)) (distances-are problem cutoff box n (Rate link) flow spread is sp)))

  -- one or the other
  pub floor-added : (most fixed : ℕ) → known_at spread.least.distance (last_of flow) ≡ Some most → fixed ≡ fixed_from problem cutoff box n link 0 (variables_of problem) → (old : List ℕ) → AreFloors problem cutoff box link n old → (result : Result (Unit {0}) OutOfMemory) (numbers : List ℕ) →
      (fixed ≤ most → OnOk result (numbers ≡ old ++ map (capped most) spread.least.distance)) → (most < fixed → OnOk result (numbers ≡ old ++ (let zero_of : ℕ = 0 in replicate (length spread.least.distance) zero_of))) → OnOk result (AreFloors problem cutoff box link (n + 1) numbers)
  floor-added most fixed e same old are (Err x) numbers by_path by_fixed = tt
  floor-added most fixed e same old are (Ok x) numbers by_path by_fixed = by (le-or-lt fixed most)
    where
      by : (fixed ≤ most) ⊎ (most < fixed) → AreFloors problem cutoff box link (n + 1) numbers
      by (inl h) = floor-by-path most e (omega arith) old numbers are (by_path h)
      by (inr h) = floor-by-fixed most e (omega arith) old numbers are (by_fixed h)
