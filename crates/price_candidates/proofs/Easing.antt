-- What is tried decides each easy box.
use Rattle.std.proofs.Common.{◌≡◌, ◌≢◌, ℕ, zero, suc, ◌+◌, ◌≤◌, ◌<◌, ◌⊎◌, inl, inr, Bool, true, false, ℤ, pos, negsuc, ◌-ℤ◌, ◌≤ℤ◌, ◌<ℤ◌, List, [], ◌∷◌, length, Option, None, Some, slice_get, get_or, add-one, sum_by, refl, sym, ◌∙◌, ap, subst, arith}
use Rattle.std.proofs.lemmas.Int.{ints, clamps}
use Rattle.std.specs.List.{AllByRecursion}
use Rattle.std.specs.List.Sorted.{IsStrictlyIncreasing}
use Rattle.std.specs.Int.{int_min}
use Rattle.merlin_model.specs.declared.policy.Objective.{Objective}
use Rattle.merlin_model.specs.declared.policy.Objective.TheVariants as objective
use Rattle.merlin_model.specs.declared.network.DirectedLink.{DirectedLink}
use Rattle.merlin_model.specs.declared.policy.Value.{Value}
use Rattle.merlin_model.specs.Programs.{is_chosen, IsSolution}
use Rattle.merlin_model.specs.Trees.{fixed_at, RefutesBox, IsBox}
use Rattle.merlin_model.proofs.Members.{In, in_to, all_in, in_append}
use Rattle.cutoff_program.specs.declared.flow.Problem.{Problem}
use Rattle.cutoff_program.specs.declared.flow.Flow.{Flow}
use Rattle.cutoff_program.specs.declared.flow.Variable.{Variable}
use Rattle.cutoff_program.specs.Flows.{variables_of, program_at, room, last_of, cost_of_variable, length_of, one_less, cutoff_right, count_if, taken_from}
use Rattle.cutoff_program.specs.Trails.{IsTrailOf, sum_along, IsPath}
use Rattle.cutoff_program.specs.Flows.{rate_over}
use Rattle.cutoff_program.specs.Easy.{MayAt, MayIn, EachFlowHas, IsLeastSum, HasNoPermittedPath, CostsTooMuch, Cut, Dear, Over, IsOnShortestPath, IsUncoupled, IsEasy}
use Rattle.cutoff_program.specs.Limits.{IsProblem}
use Rattle.price_candidates.specs.Leaves.{Lengths, leaf_from, priced_right, IsPotential, AreSmallNumbers, amounts_from}
use Rattle.price_candidates.specs.Tried.{IsLeastPath, IsTried, HasTriedLinks, lengths_by, edges_of, HasEdgesOf, IsBetter, HasFailed, IsLight, IsDecidedBy, ByLengths, ByLink, ByPoint}
use Rattle.price_candidates.proofs.Places.{some_some, none_some}
use Rattle.price_candidates.proofs.Following.{sum-cons}
use Rattle.price_candidates.proofs.Deciding.{each-at, lengths-refute, light-fits, link-exists, overload-refutes}
use Rattle.price_candidates.proofs.Points.{along, along-append, along-sum, chosen-taken, ArePaths}
use Rattle.price_candidates.proofs.Solving.{marks-of, point-sum, solves}

-- Along a permitted trail numbers rise by no more than its sum.
pub climb : (problem : Problem) (cutoff : Option Value) (box : List (Option Bool)) (n : ℕ) (f : Variable → ℕ) (at : ℕ → ℕ) → IsPotential problem cutoff box n f at → (ks : List ℕ) (a b : ℕ) → IsTrailOf (variables_of problem) n ks a b →
    AllByRecursion (MayIn problem cutoff box) ks → at b ≤ at a + sum_along (variables_of problem) f ks
climb problem cutoff box n f at potential [] a b steps may = let s = ap at steps in omega arith
climb problem cutoff box n f at potential (k ∷ ks) a b steps may =
    let v = steps.0 in
    let ih = climb problem cutoff box n f at potential ks v.edge.to b steps.4 may.1 in
    let r = potential.rises k v steps.1 steps.2 may.0 in
    let s = ap at steps.3 in
    let c = sum-cons (variables_of problem) f k ks v steps.1 in
    omega arith

-- Facts of each flow.

pub each-map : {X : Type 0} (Q R : ℕ → Flow → X → Type 0) (n : ℕ) (flows : List Flow) (xs : List X) → ((i : ℕ) (flow : Flow) (x : X) → Q i flow x → R i flow x) → EachFlowHas Q n flows xs → EachFlowHas R n flows xs
each-map Q R n [] [] h each = tt
each-map Q R n [] (x ∷ xs) h each = absurd each
each-map Q R n (flow ∷ flows) [] h each = absurd each
each-map Q R n (flow ∷ flows) (x ∷ xs) h each = (h n flow x each.0, each-map Q R (n + 1) flows xs h each.1)

pub each-flow : {X : Type 0} (Q : ℕ → Flow → X → Type 0) (n j : ℕ) (flows : List Flow) (xs : List X) (flow : Flow) → EachFlowHas Q n flows xs → slice_get flows j ≡ Some flow → (x : X) × Q (n + j) flow x
each-flow Q n j [] xs flow each e = absurd (none_some e)
each-flow Q n j (f ∷ flows) [] flow each e = absurd each
each-flow Q n zero (f ∷ flows) (x ∷ xs) flow each e = (x, subst (λ i. Q i flow x) (let at : n ≡ n + 0 = omega arith in at) (subst (λ g. Q n g x) (some_some e) each.0))
each-flow Q n (suc j) (f ∷ flows) (x ∷ xs) flow each e =
    let r = each-flow Q (n + 1) j flows xs flow each.1 e in
    (r.0, subst (λ i. Q i flow r.0) (let at : n + 1 + j ≡ n + suc j = omega arith in at) r.1)

-- the path on which a variable lies
pub record HasPath (Q : ℕ → Flow → List ℕ → Type 0) (n : ℕ) (flows : List Flow) (k : ℕ) : Type 0 where
  pub i : ℕ
  pub j : ℕ
  pub flow : Flow
  pub path : List ℕ
  pub is : i ≡ n + j
  pub stands : slice_get flows j ≡ Some flow
  pub has : Q i flow path
  pub lies : In k path

pub has-path : (Q : ℕ → Flow → List ℕ → Type 0) (n : ℕ) (flows : List Flow) (paths : List (List ℕ)) (k : ℕ) → EachFlowHas Q n flows paths → In k (edges_of paths) → HasPath Q n flows k
has-path Q n [] [] k each i = absurd i
has-path Q n [] (path ∷ paths) k each i = absurd each
has-path Q n (flow ∷ flows) [] k each i = absurd each
has-path Q n (flow ∷ flows) (path ∷ paths) k each i = by (in_append path (edges_of paths) k i) (λ r. has-path Q (n + 1) flows paths k each.1 r)
  where
    by : In k path ⊎ In k (edges_of paths) → (In k (edges_of paths) → HasPath Q (n + 1) flows k) → HasPath Q n (flow ∷ flows) k
    by (inl l) ih = record { i = n; j = 0; flow = flow; path = path; is = omega arith; stands = refl; has = each.0; lies = l }
    by (inr r) ih = let h = ih r in record { i = h.i; j = suc h.j; flow = h.flow; path = h.path; is = let s = h.is in omega arith; stands = h.stands; has = h.has; lies = h.lies }

-- The chosen variables in ascending order.

abbrev keep : Bool → ℕ → List ℕ → List ℕ
keep true n ks = n ∷ ks
keep false n ks = ks

abbrev chosen_list : ℕ → List Variable → List Bool → List ℕ
chosen_list n [] point = []
chosen_list n (v ∷ vs) point = keep (is_chosen point n) n (chosen_list (n + 1) vs point)

list-low : (m n : ℕ) (vs : List Variable) (point : List Bool) → m ≤ n → AllByRecursion (λ k. m ≤ k) (chosen_list n vs point)
list-low m n [] point h = tt
list-low m n (v ∷ vs) point h = by (is_chosen point n) (list-low m (n + 1) vs point (omega arith))
  where
    by : (b : Bool) → AllByRecursion (λ k. m ≤ k) (chosen_list (n + 1) vs point) → AllByRecursion (λ k. m ≤ k) (keep b n (chosen_list (n + 1) vs point))
    by true ih = (h, ih)
    by false ih = ih

ascend-cons : (x : ℕ) (xs : List ℕ) → AllByRecursion (λ k. x + 1 ≤ k) xs → IsStrictlyIncreasing xs → IsStrictlyIncreasing (x ∷ xs)
ascend-cons x [] all up k h = let bad : ⊥ = omega arith in absurd bad
ascend-cons x (y ∷ ys) all up zero h = let a = all.0 in omega arith
ascend-cons x (y ∷ ys) all up (suc k) h =
    let far : get_or (x ∷ y ∷ ys) (suc k + 1) 0 ≡ get_or (y ∷ ys) (k + 1) 0 = ap (λ n. get_or (x ∷ y ∷ ys) n 0) (add-one (suc k)) ∙ sym (ap (λ n. get_or (y ∷ ys) n 0) (add-one k)) in
    let next = up k (omega arith) in
    omega arith

list-ascends : (n : ℕ) (vs : List Variable) (point : List Bool) → IsStrictlyIncreasing (chosen_list n vs point)
list-ascends n [] point = λ k h. let bad : ⊥ = omega arith in absurd bad
list-ascends n (v ∷ vs) point = by (is_chosen point n) (list-ascends (n + 1) vs point)
  where
    by : (b : Bool) → IsStrictlyIncreasing (chosen_list (n + 1) vs point) → IsStrictlyIncreasing (keep b n (chosen_list (n + 1) vs point))
    by true ih = ascend-cons n (chosen_list (n + 1) vs point) (list-low (n + 1) (n + 1) vs point (omega arith)) ih
    by false ih = ih

list-chosen : (n : ℕ) (vs : List Variable) (point : List Bool) → AllByRecursion (λ k. is_chosen point k ≡ true) (chosen_list n vs point)
list-chosen n [] point = tt
list-chosen n (v ∷ vs) point = by (is_chosen point n) refl (list-chosen (n + 1) vs point)
  where
    by : (b : Bool) → is_chosen point n ≡ b → AllByRecursion (λ k. is_chosen point k ≡ true) (chosen_list (n + 1) vs point) → AllByRecursion (λ k. is_chosen point k ≡ true) (keep b n (chosen_list (n + 1) vs point))
    by true e ih = (e, ih)
    by false e ih = ih

list-sum : (all : List Variable) (f : Variable → ℕ) (n : ℕ) (vs : List Variable) (point : List Bool) → ((i j : ℕ) (v : Variable) → i ≡ n + j → slice_get vs j ≡ Some v → slice_get all i ≡ Some v) → sum_along all f (chosen_list n vs point) ≡ taken_from n f vs point
list-sum all f n [] point h = refl
list-sum all f n (v ∷ vs) point h = by (is_chosen point n) (list-sum all f (n + 1) vs point (λ i j w e s. h i (suc j) w (omega arith) s))
  where
    by : (b : Bool) → sum_along all f (chosen_list (n + 1) vs point) ≡ taken_from (n + 1) f vs point → sum_along all f (keep b n (chosen_list (n + 1) vs point)) ≡ count_if b (f v) + taken_from (n + 1) f vs point
    by true ih = let c = sum-cons all f n (chosen_list (n + 1) vs point) v (h n 0 v (omega arith) refl) in omega arith
    by false ih = omega arith

all-map : {X : Type 0} (P Q : X → Type 0) (xs : List X) → ((x : X) → P x → Q x) → AllByRecursion P xs → AllByRecursion Q xs
all-map P Q [] h all = tt
all-map P Q (x ∷ xs) h all = (h x all.0, all-map P Q xs h all.1)

-- Costs.

pub costs-sum : (problem : Problem) (cutoff : Option Value) (box : List (Option Bool)) (at : ℕ → ℕ → ℕ) (n : ℕ) (flows : List Flow) (paths : List (List ℕ)) → EachFlowHas (IsLeastPath problem cutoff box at) n flows paths →
    along (variables_of problem) (λ v. pos (cost_of_variable problem v)) (edges_of paths) ≡ pos (amounts_from (λ i flow. at i (last_of flow)) n flows)
costs-sum problem cutoff box at n [] [] each = refl
costs-sum problem cutoff box at n [] (path ∷ paths) each = absurd each
costs-sum problem cutoff box at n (flow ∷ flows) [] each = absurd each
costs-sum problem cutoff box at n (flow ∷ flows) (path ∷ paths) each =
    let a = along-append (variables_of problem) (λ v. pos (cost_of_variable problem v)) path (edges_of paths) in
    let b = along-sum (variables_of problem) (cost_of_variable problem) path in
    let c = each.0.reached in
    let ih = costs-sum problem cutoff box at (n + 1) flows paths each.1 in
    omega (arith, ints)

no-amounts : (n : ℕ) (flows : List Flow) → amounts_from (λ i flow. 0) n flows ≡ 0
no-amounts n [] = refl
no-amounts n (flow ∷ flows) = let ih = no-amounts (n + 1) flows in omega arith

none-taken : (n : ℕ) (vs : List Variable) (point : List Bool) → taken_from n (λ v. 0) vs point ≡ 0
none-taken n [] point = refl
none-taken n (v ∷ vs) point = by (is_chosen point n) (none-taken (n + 1) vs point)
  where
    by : (b : Bool) → taken_from (n + 1) (λ v. 0) vs point ≡ 0 → count_if b 0 + taken_from (n + 1) (λ v. 0) vs point ≡ 0
    by true ih = omega arith
    by false ih = omega arith

module _ (problem : Problem) (cutoff : Option Value) (box : List (Option Bool)) (by_cost : ℕ → ℕ → ℕ) (paths : List (List ℕ)) (point : List Bool) (form : IsProblem problem) (in_box : IsBox (program_at problem cutoff) box)
    (tried : IsTried problem cutoff box by_cost paths) (of : HasEdgesOf problem paths point) where
  are-paths : ArePaths (variables_of problem) 0 problem.flows paths
  are-paths = each-map (IsLeastPath problem cutoff box by_cost) (λ n flow path. IsPath (variables_of problem) n path 0 (last_of flow)) 0 problem.flows paths (λ i flow x q. q.is_path) tried.are_paths

  find : (k : ℕ) → In k (edges_of paths) → HasPath (IsLeastPath problem cutoff box by_cost) 0 problem.flows k
  find k i = has-path (IsLeastPath problem cutoff box by_cost) 0 problem.flows paths k tried.are_paths i

  pub may-all : (k : ℕ) → In k (edges_of paths) → MayIn problem cutoff box k
  may-all k i = let h = find k i in all_in (MayIn problem cutoff box) h.path k h.has.allowed h.lies

  -- the sums of lengths
  lengths : Objective → ℕ
  lengths o = amounts_from (λ n flow. lengths_by o by_cost n (last_of flow)) 0 problem.flows

  lengths-taken : (o : Objective) → taken_from 0 (length_of o problem) (variables_of problem) point ≡ lengths o
  unfolding lengths
  lengths-taken objective.Shortest =
      let a = sym (chosen-taken 0 (cost_of_variable problem) (variables_of problem) point) ∙ point-sum problem paths point (λ v. pos (cost_of_variable problem v)) are-paths of ∙ costs-sum problem cutoff box by_cost 0 problem.flows paths tried.are_paths in
      omega (arith, ints)
  lengths-taken objective.Ratio = none-taken 0 (variables_of problem) point ∙ sym (no-amounts 0 problem.flows)
  lengths-taken objective.Reserved = none-taken 0 (variables_of problem) point ∙ sym (no-amounts 0 problem.flows)

  lengths-range : (o : Objective) → AreSmallNumbers (lengths_by o by_cost)
  lengths-range objective.Shortest = tried.costs
  lengths-range objective.Ratio = record { start = λ n. refl; low = λ n u. omega arith }
  lengths-range objective.Reserved = record { start = λ n. refl; low = λ n u. omega arith }

  lengths-potential : (o : Objective) (n : ℕ) (flow : Flow) → slice_get problem.flows n ≡ Some flow → IsPotential problem cutoff box n (length_of o problem) (lengths_by o by_cost n)
  lengths-potential objective.Shortest n flow s =
      let h = each-flow (IsLeastPath problem cutoff box by_cost) 0 n problem.flows paths flow tried.are_paths s in
      subst (λ i. IsPotential problem cutoff box i (cost_of_variable problem) (by_cost i)) (let at : 0 + n ≡ n = omega arith in at) h.1.potential
  lengths-potential objective.Ratio n flow s = record { start = refl; rises = λ k v e f may. omega arith }
  lengths-potential objective.Reserved n flow s = record { start = refl; rises = λ k v e f may. omega arith }

  -- lengths past the cutoff row's right side refute
  too-long : priced_right problem cutoff Lengths <ℤ pos (lengths problem.objective) → RefutesBox (program_at problem cutoff) box (leaf_from problem (lengths_by problem.objective by_cost) Lengths)
  unfolding lengths
  too-long over =
      lengths-refute problem cutoff box (lengths_by problem.objective by_cost) form in_box (lengths-range problem.objective) (lengths-potential problem.objective)
      (λ n flow. lengths_by problem.objective by_cost n (last_of flow)) (λ n flow s. omega arith) over

  dear : CostsTooMuch problem cutoff box → RefutesBox (program_at problem cutoff) box (leaf_from problem (lengths_by problem.objective by_cost) Lengths)
  unfolding lengths
  dear d = too-long (
      let total = sum_by (length_of problem.objective problem) (variables_of problem) in
      let a = ap (λ c. cutoff_right c total) d.at in
      let b = ap (λ o. amounts_from (λ n flow. lengths_by o by_cost n (last_of flow)) 0 problem.flows) d.shortest in
      let c = each-at (λ n flow cost. IsLeastSum problem (MayIn problem cutoff box) n flow (cost_of_variable problem) cost) 0 problem.flows d.costs (λ n flow. by_cost n (last_of flow)) d.least (λ i j flow x e s q. low i j flow x e s q) in
      let z = d.too_much in
      let m = less d.z (pos total) in
      omega (arith, ints))
    where
      less : (z : ℕ) (t : ℤ) → int_min t (one_less z) <ℤ pos z
      less zero t = omega (arith, ints, clamps)
      less (suc n) t = omega (arith, ints, clamps)

      low : (i j : ℕ) (flow : Flow) (x : ℕ) → i ≡ 0 + j → slice_get problem.flows j ≡ Some flow → IsLeastSum problem (MayIn problem cutoff box) i flow (cost_of_variable problem) x → x ≤ by_cost i (last_of flow)
      low i j flow x e s q =
          let h = each-flow (IsLeastPath problem cutoff box by_cost) 0 j problem.flows paths flow tried.are_paths s in
          let h' = subst (λ n. IsLeastPath problem cutoff box by_cost n flow h.0) (sym e) h.1 in
          let l = q.no_less h.0 (record { steps = h'.is_path.steps; allowed = h'.allowed }) in
          let r = h'.reached in
          omega arith

  -- where nothing is fixed that could be 1, the chosen variables lie on least paths
  on-least : ((k : ℕ) → MayAt problem cutoff k → fixed_at box k ≡ None) → (k : ℕ) → In k (edges_of paths) → IsOnShortestPath problem cutoff k
  on-least free k i =
      let h = find k i in
      record {
        n = h.i;
        flow = h.flow;
        stands = (let at : h.i ≡ h.j = let s = h.is in omega arith in ap (slice_get problem.flows) at) ∙ h.stands;
        trail = h.path;
        through = record { steps = h.has.is_path.steps; allowed = all-map (MayIn problem cutoff box) (MayAt problem cutoff) h.path (λ x m. m.0) h.has.allowed };
        least = λ other through.
            let c = climb problem cutoff box h.i (cost_of_variable problem) (by_cost h.i) h.has.potential other 0 (last_of h.flow) through.steps (all-map (MayAt problem cutoff) (MayIn problem cutoff box) other (λ x m. (m, not_shut x m)) through.allowed) in
            let s = h.has.potential.start in
            let r = h.has.reached in
            omega arith;
        lies = in_to h.path k h.lies;
      }
    where
      not_shut : (x : ℕ) → MayAt problem cutoff x → fixed_at box x ≢ Some false
      not_shut x m e = none_some (sym (free x m) ∙ e)

  free-loads : ((k : ℕ) → MayAt problem cutoff k → fixed_at box k ≡ None) → IsUncoupled problem cutoff → (link : ℕ) (directed : DirectedLink) → slice_get problem.links link ≡ Some directed → pos (taken_from 0 (rate_over link) (variables_of problem) point) ≤ℤ room problem.objective cutoff directed.capacity
  free-loads free uncoupled link directed stands =
      let marks = marks-of problem paths point of in
      let u = uncoupled link directed stands (chosen_list 0 (variables_of problem) point) (list-ascends 0 (variables_of problem) point) (all-map (λ k. is_chosen point k ≡ true) (IsOnShortestPath problem cutoff) (chosen_list 0 (variables_of problem) point) (λ k e. on-least free k (marks.to k e)) (list-chosen 0 (variables_of problem) point)) in
      let s = list-sum (variables_of problem) (rate_over link) 0 (variables_of problem) point (λ i j v e s. (let at : i ≡ j = omega arith in ap (slice_get (variables_of problem)) at) ∙ s) in
      omega (arith, ints)

  -- a point whose loads fit is better, or the lengths refute
  pub fitting : ((link : ℕ) (directed : DirectedLink) → slice_get problem.links link ≡ Some directed → pos (taken_from 0 (rate_over link) (variables_of problem) point) ≤ℤ room problem.objective cutoff directed.capacity) →
      RefutesBox (program_at problem cutoff) box (leaf_from problem (lengths_by problem.objective by_cost) Lengths) ⊎ IsBetter problem cutoff point
  unfolding lengths
  fitting loads = by (priced_right problem cutoff Lengths -ℤ pos (lengths problem.objective)) refl
    where
      by : (d : ℤ) → priced_right problem cutoff Lengths -ℤ pos (lengths problem.objective) ≡ d → RefutesBox (program_at problem cutoff) box (leaf_from problem (lengths_by problem.objective by_cost) Lengths) ⊎ IsBetter problem cutoff point
      by (pos m) e = inr (solves problem cutoff paths point form are-paths of (λ k i. (may-all k i).0) loads (let t = lengths-taken problem.objective in omega (arith, ints)))
      by (negsuc m) e = inl (too-long (omega (arith, ints)))

  not-cut : HasNoPermittedPath problem cutoff box → ⊥
  not-cut c =
      let h = each-flow (IsLeastPath problem cutoff box by_cost) 0 c.n problem.flows paths c.flow tried.are_paths c.stands in
      let h' = subst (λ n. IsLeastPath problem cutoff box by_cost n c.flow h.0) (let at : 0 + c.n ≡ c.n = omega arith in at) h.1 in
      c.none h.0 (record { steps = h'.is_path.steps; allowed = h'.allowed })

  -- where lengths don't refute, and of each link what was tried fails or it is light, and the point is no solution, the box isn't easy
  pub undecided-not-easy : (¬ RefutesBox (program_at problem cutoff) box (leaf_from problem (lengths_by problem.objective by_cost) Lengths)) →
      ((link : ℕ) → link < length problem.links → HasFailed problem cutoff box link ⊎ IsLight problem cutoff box link) → (¬ IsSolution (program_at problem cutoff) point) → ¬ IsEasy problem cutoff box
  undecided-not-easy no_lengths no_link no_point (inl (Cut c)) = not-cut c
  undecided-not-easy no_lengths no_link no_point (inl (Dear d)) = no_lengths (dear d)
  undecided-not-easy no_lengths no_link no_point (inl (Over o)) = by (no_link o.place (link-exists problem cutoff box o))
    where
      by : HasFailed problem cutoff box o.place ⊎ IsLight problem cutoff box o.place → ⊥
      by (inl f) = f.fails (overload-refutes problem cutoff box f.at form in_box o f.tried)
      by (inr l) = light-fits problem cutoff box o l
  undecided-not-easy no_lengths no_link no_point (inr both) = by (fitting (free-loads both.1 both.0))
    where
      by : RefutesBox (program_at problem cutoff) box (leaf_from problem (lengths_by problem.objective by_cost) Lengths) ⊎ IsBetter problem cutoff point → ⊥
      by (inl r) = no_lengths r
      by (inr b) = no_point b.solution

  pub easy-decided : (links : HasTriedLinks problem cutoff box) → IsEasy problem cutoff box → IsDecidedBy problem cutoff box by_cost links point
  easy-decided links (inl (Cut c)) = absurd (not-cut c)
  easy-decided links (inl (Dear d)) = ByLengths (dear d)
  easy-decided links (inl (Over o)) =
      let exists = link-exists problem cutoff box o in
      ByLink o.place exists (overload-refutes problem cutoff box (links o.place exists).at form in_box o (links o.place exists).tried)
  easy-decided links (inr both) = by (fitting (free-loads both.1 both.0))
    where
      by : RefutesBox (program_at problem cutoff) box (leaf_from problem (lengths_by problem.objective by_cost) Lengths) ⊎ IsBetter problem cutoff point → IsDecidedBy problem cutoff box by_cost links point
      by (inl r) = ByLengths r
      by (inr b) = ByPoint b
