-- The bound, flow by flow from the last to the first.
use Rattle.std.proofs.Common.{◌≡◌, ◌≢◌, ℕ, zero, suc, ◌+◌, ◌*◌, ◌^◌, ◌≤◌, ◌<◌, Bool, List, [], ◌∷◌, length, drop, sum, Option, None, Some, slice_get, get_or, sum_by, refl, sym, ap, subst, arith}
use Rattle.std.proofs.lemmas.List.Sums.{sum_by-cons}
use Rattle.std.specs.List.{AllByRecursion}
use Rattle.merlin_model.specs.declared.network.DirectedLink.{DirectedLink}
use Rattle.merlin_model.specs.declared.policy.Objective.TheVariants as objective
use Rattle.merlin_model.specs.declared.policy.Value.{Value}
use Rattle.merlin_model.specs.declared.policy.Value.TheVariants.{Whole, Ratio}
use Rattle.merlin_model.specs.Assignments.{greatest_ratio}
use Rattle.cutoff_program.specs.Flows.{last_of}
use Rattle.cutoff_program.specs.declared.flow.Flow.{Flow}
use Rattle.cutoff_program.specs.declared.flow.Problem.{Problem}
use Rattle.cutoff_program.specs.Limits.{IsProblem}
use Rattle.cutoff_program.specs.Easy.{IsTrailThrough, EachFlowHas}
use Rattle.cutoff_program.proofs.Lists.{all_any}
use Rattle.program_walks.specs.declared.paths.LeastPath.{LeastPath}
use Rattle.program_walks.specs.Paths.{IsChosenIn, IsLeastPath}
use Rattle.program_walks.specs.Loads.{load_by, load_on_link, cost_on_link, AreSmallLoads, value_by_walks}
use Rattle.program_walks.specs.Bounds.{IsLeastShare, IsLeastCost, IsSumOfCosts, IsGreatestOfShares, IsWithoutTrail, HasFlowWithoutTrail, IsBoundOver, IsBoundAs, IsSeparateBound}
use Rattle.program_walks.specs.Widths.{wide_point, IsGreatestIf, IsBoundIf}
use Rattle.program_walks.proofs.Leasts.{cost-small}
use Rattle.program_walks.proofs.Turning.{get-some}
use Rattle.program_walks.proofs.Dropping.{drop-one, no_flow}
use Rattle.program_walks.proofs.Narrowing.{wide-through, through-wide}

abbrev pub flow_at : Problem → ℕ → Flow
flow_at problem k = get_or problem.flows k no_flow

pub flow-stands : (problem : Problem) (k : ℕ) → k < length problem.flows → slice_get problem.flows k ≡ Some (flow_at problem k)
flow-stands problem k h = get-some problem.flows k no_flow h

each-back : {X : Type 0} (Q : ℕ → Flow → X → Type 0) (flows : List Flow) (place number : ℕ) (x : X) (xs : List X) → number ≡ place + 1 → place < length flows → EachFlowHas Q number (drop number flows) xs → Q place (get_or flows place no_flow) x →
    EachFlowHas Q place (drop place flows) (x ∷ xs)
each-back Q flows place number x xs e h each q =
    subst (λ fs. EachFlowHas Q place fs (x ∷ xs)) (sym (drop-one flows place number no_flow h e)) (q, subst (λ n. EachFlowHas Q n (drop number flows) xs) e each)

-- Costs.

-- the costs of the flows from a number on
pub record IsSumFrom (problem : Problem) (number total : ℕ) : Type 0 where
  pub costs : List ℕ
  pub are : EachFlowHas (IsLeastCost problem) number (drop number problem.flows) costs
  pub is : total ≡ sum costs
  pub small : total + number * 2 ^ 45 ≤ length problem.flows * 2 ^ 45

pub least-cost : (problem : Problem) (point : List Bool) (n : ℕ) (flow : Flow) (found : LeastPath) → IsProblem problem → point ≡ wide_point problem 0 → IsLeastPath problem point n flow found → IsLeastCost problem n flow found.cost
least-cost problem point n flow found is e l = record {
  trail = found.path;
  through = wide-through problem is n flow 0 found.path (record { steps = l.is_path.steps; allowed = subst (λ p. AllByRecursion (IsChosenIn p) found.path) e l.chosen });
  reached = l.costs;
  no_less = λ other t.
      let w = through-wide problem is n flow other t in
      l.no_less other (record { steps = w.steps; allowed = subst (λ p. AllByRecursion (IsChosenIn p) other) (sym e) w.allowed });
}

pub no-cost : (problem : Problem) (point : List Bool) (n : ℕ) (flow : Flow) → IsProblem problem → point ≡ wide_point problem 0 → ((trail : List ℕ) → ¬ IsTrailThrough problem (IsChosenIn point) n flow trail) → IsWithoutTrail problem n flow
no-cost problem point n flow is e none trail t =
    let w = through-wide problem is n flow trail t in
    none trail (record { steps = w.steps; allowed = subst (λ p. AllByRecursion (IsChosenIn p) trail) (sym e) w.allowed })

pub path-small : (problem : Problem) (point : List Bool) (n : ℕ) (flow : Flow) (found : LeastPath) → IsProblem problem → IsLeastPath problem point n flow found → found.cost ≤ 2 ^ 45
path-small problem point n flow found is l = let s = cost-small problem n found.path 0 (last_of flow) is l.is_path in let c = l.costs in omega (arith, s, c)

pub no-costs : (problem : Problem) (number : ℕ) → number ≡ length problem.flows → IsSumFrom problem number 0
no-costs problem number e = record {
  costs = [];
  are = subst (λ fs. EachFlowHas (IsLeastCost problem) number fs []) (sym (past problem.flows number (omega (arith, e)))) tt;
  is = refl;
  small = let z : 0 + number * 2 ^ 45 ≡ number * 2 ^ 45 = omega arith in let w = ap (λ n. n * 2 ^ 45) e in omega (arith, z, w);
}
  where
    past : (flows : List Flow) (i : ℕ) → length flows ≤ i → drop i flows ≡ []
    past [] zero h = refl
    past [] (suc i) h = refl
    past (f ∷ flows) zero h = absurd (omega arith)
    past (f ∷ flows) (suc i) h = past flows i (omega arith)

pub cost-more : (problem : Problem) (place number total more cost : ℕ) → number ≡ place + 1 → number ≤ length problem.flows → IsSumFrom problem number total → IsLeastCost problem place (flow_at problem place) cost → cost ≤ 2 ^ 45 → more ≡ total + cost → IsSumFrom problem place more
cost-more problem place number total more cost e h s l small is = record {
  costs = cost ∷ s.costs;
  are = each-back (IsLeastCost problem) problem.flows place number cost s.costs e (omega (arith, e, h)) s.are l;
  is = let t = s.is in let c = sum_by-cons (λ (x : ℕ). x) cost s.costs in both _ _ _ _ _ is t c;
  small = less _ _ _ _ _ _ e s.small small is;
}
  where
    both : (m t c s all : ℕ) → m ≡ t + c → t ≡ s → all ≡ c + s → m ≡ all
    both m t c s all x y z = omega arith

    less : (n p t m c len : ℕ) → n ≡ p + 1 → t + n * 2 ^ 45 ≤ len * 2 ^ 45 → c ≤ 2 ^ 45 → m ≡ t + c → m + p * 2 ^ 45 ≤ len * 2 ^ 45
    less n p t m c len x y z w = omega arith

flows-few : (flows : List Flow) → length flows ≤ sum_by (λ flow. last_of flow + 1) flows
flows-few [] = omega arith
flows-few (f ∷ flows) = let h = flows-few flows in let s = sum_by-cons (λ (flow : Flow). last_of flow + 1) f flows in more _ _ _ _ h s
  where
    more : (n r l all : ℕ) → n ≤ r → all ≡ l + 1 + r → suc n ≤ all
    more n r l all x y = omega arith

pub total-fits : (problem : Problem) (number total cost : ℕ) → IsProblem problem → IsSumFrom problem number total → cost ≤ 2 ^ 45 → total + cost < 2 ^ 64
total-fits problem number total cost is s small =
    let f = flows-few problem.flows in
    let r = is.few_rows in
    let t = s.small in
    fits _ _ _ _ _ f r t small
  where
    fits : (len rows links t n : ℕ) → len ≤ rows → rows + links < 16384 → t + n * 2 ^ 45 ≤ len * 2 ^ 45 → cost ≤ 2 ^ 45 → t + cost < 2 ^ 64
    fits len rows links t n x y z w = let few : len ≤ 16384 = omega arith in omega (arith, few, z, w)

pub all-costs : (problem : Problem) (number total : ℕ) → number ≡ 0 → IsSumFrom problem number total → IsSumOfCosts problem total
all-costs problem number total e s = (s.costs, subst (λ n. EachFlowHas (IsLeastCost problem) n (drop n problem.flows) s.costs) e s.are, s.is)

-- Shares.

pub record IsGreatestFrom (problem : Problem) (number : ℕ) (greatest : ℕ × ℕ) : Type 0 where
  pub shares : List (ℕ × ℕ)
  pub are : EachFlowHas (IsLeastShare problem) number (drop number problem.flows) shares
  pub is : greatest ≡ greatest_ratio shares

pub no-shares : (problem : Problem) (number : ℕ) → number ≡ length problem.flows → IsGreatestFrom problem number (0, 1)
no-shares problem number e = record {
  shares = [];
  are = subst (λ fs. EachFlowHas (IsLeastShare problem) number fs []) (sym (past problem.flows number (omega (arith, e)))) tt;
  is = refl;
}
  where
    past : (flows : List Flow) (i : ℕ) → length flows ≤ i → drop i flows ≡ []
    past [] zero h = refl
    past [] (suc i) h = refl
    past (f ∷ flows) zero h = absurd (omega arith)
    past (f ∷ flows) (suc i) h = past flows i (omega arith)

pub share-more : (problem : Problem) (place number : ℕ) (greatest more share : ℕ × ℕ) → number ≡ place + 1 → number ≤ length problem.flows → IsGreatestFrom problem number greatest → IsLeastShare problem place (flow_at problem place) share →
    ((rest : List (ℕ × ℕ)) → greatest ≡ greatest_ratio rest → more ≡ greatest_ratio (share ∷ rest)) → IsGreatestFrom problem place more
share-more problem place number greatest more share e h s l is = record {
  shares = share ∷ s.shares;
  are = each-back (IsLeastShare problem) problem.flows place number share s.shares e (omega (arith, e, h)) s.are l;
  is = is s.shares s.is;
}

pub all-shares : (problem : Problem) (number : ℕ) (greatest : ℕ × ℕ) → number ≡ 0 → IsGreatestFrom problem number greatest → IsGreatestOfShares problem greatest
all-shares problem number greatest e s = (s.shares, subst (λ n. EachFlowHas (IsLeastShare problem) n (drop n problem.flows) s.shares) e s.are, s.is)

pub ratio-by : (problem : Problem) (found : Option (ℕ × ℕ)) (load capacity : ℕ) → IsGreatestIf problem found → found ≡ Some (load, capacity) → problem.objective ≡ objective.Ratio → IsBoundAs problem.objective problem (Ratio load capacity)
ratio-by problem found load capacity g e o = subst (λ x. IsBoundAs x problem (Ratio load capacity)) (sym o) ((load, capacity), subst (IsGreatestIf problem) e g, refl)

pub reserved-by : (problem : Problem) (found : Option (ℕ × ℕ)) (load below : ℕ) → IsGreatestIf problem found → found ≡ Some (load, below) → problem.objective ≡ objective.Reserved → IsBoundAs problem.objective problem (Whole load)
reserved-by problem found load below g e o = subst (λ x. IsBoundAs x problem (Whole load)) (sym o) ((load, below), subst (IsGreatestIf problem) e g, refl)

pub flow-without : (problem : Problem) (n : ℕ) → n < length problem.flows → IsWithoutTrail problem n (flow_at problem n) → HasFlowWithoutTrail problem
flow-without problem n h none = record { n = n; flow = flow_at problem n; stands = flow-stands problem n h; none = none }

-- Without a flow.

none-over : (problem : Problem) (value : Value) (flows : List Flow) → length flows ≡ 0 → value ≡ value_by_walks problem [] → IsBoundOver flows problem value
none-over problem value [] e is = is
none-over problem value (f ∷ flows) e is = let bad : ⊥ = omega (arith, e) in absurd bad

pub bound-none : (problem : Problem) (value : Value) → length problem.flows ≡ 0 → value ≡ value_by_walks problem [] → IsSeparateBound problem (Some value)
bound-none problem value e is = none-over problem value problem.flows e is

some-over : (problem : Problem) (value : Value) (flows : List Flow) → length flows ≢ 0 → IsBoundAs problem.objective problem value → IsBoundOver flows problem value
some-over problem value [] other is = absurd (other refl)
some-over problem value (f ∷ flows) other is = is

pub bound-some : (problem : Problem) (found : Option Value) → length problem.flows ≢ 0 → IsBoundIf problem found → IsSeparateBound problem found
bound-some problem None other is = is
bound-some problem (Some value) other is = some-over problem value problem.flows other is

pub nothing-loaded : (flows : List Flow) (u v : ℕ) → load_by flows [] u v ≡ 0
nothing-loaded [] u v = refl
nothing-loaded (f ∷ flows) u v = refl

nothing-costs : (problem : Problem) (links : List DirectedLink) → sum_by (cost_on_link problem []) links ≡ 0
nothing-costs problem [] = refl
nothing-costs problem (l ∷ links) =
    let s = sum_by-cons (cost_on_link problem []) l links in
    let h = nothing-costs problem links in
    let e : cost_on_link problem [] l ≡ 0 * l.weight = ap (λ n. n * l.weight) (nothing-loaded problem.flows l.from l.to) in
    let z : 0 * l.weight ≡ 0 = omega arith in
    omega (arith, s, h, e, z)

pub nothing-small : (problem : Problem) → AreSmallLoads problem []
nothing-small problem = record {
  loads = all_any (λ link. load_on_link problem [] link ≤ 2 ^ 45) problem.links (λ link. let e = nothing-loaded problem.flows link.from link.to in omega (arith, e));
  costs = let e = nothing-costs problem problem.links in omega (arith, e);
}

-- nothing is below it
pub nothing-cost : (problem : Problem) → sum_by (cost_on_link problem []) problem.links ≡ 0
nothing-cost problem = nothing-costs problem problem.links
