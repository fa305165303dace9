-- Solutions give paths.
use Rattle.std.proofs.Common.{◌≡◌, ◌≢◌, ℕ, suc, ◌+◌, ◌^◌, ◌≤◌, ◌<◌, ◌==◌, ◌⊎◌, inl, inr, Bool, true, false, ℤ, pos, ◌≤ℤ◌, List, [], ◌∷◌, ◌++◌, length, map, Option, Some, slice_get, get_or, refl, sym, ◌∙◌, ap, ap₂, subst, arith}
use Rattle.std.proofs.lemmas.Int.{ints}
use Rattle.std.specs.List.{AllByRecursion}
use Rattle.merlin_model.specs.declared.policy.Objective.{Objective}
use Rattle.merlin_model.specs.declared.policy.Value.{Value}
use Rattle.merlin_model.specs.Networks.{AreDifferent}
use Rattle.merlin_model.specs.Programs.{is_chosen, IsSolution}
use Rattle.merlin_model.proofs.Members.{In, in_from, all_in, in_append-left, in_append-right}
use Rattle.cutoff_program.specs.Flows.{Flow, Problem, Variable, variable_of, variables_from, variables_of, last_of, rate_over, cost_of_variable, count_if, taken_from, room, load_at, loads_from, program_at, cutoff_of, takes, is_below}
use Rattle.cutoff_program.specs.Limits.{IsProblem}
use Rattle.cutoff_program.specs.Trails.{IsTrailOf, sum_along, comes_to, IsPath, ArePathsFrom, ArePaths, IsNeatFlow, AreNeatFrom, IsNeat, edges_of, point_with, loads_along, value_along, AreOverChosenEdges, AreWithinPoint}
use Rattle.cutoff_program.proofs.Lists.{all_both, all_left, all_right, all_map, all_any, all_so, some_some, stands, chosen_within}
use Rattle.cutoff_program.proofs.Following.{balanced, each-at}
use Rattle.cutoff_program.proofs.Shortening.{shorten, comes_to-cons}
use Rattle.cutoff_program.proofs.Rooms.{false_true, irreflexive, room-most}
use Rattle.cutoff_program.proofs.Values.{AreNoMore, lower-value}
use Rattle.cutoff_program.proofs.Variables.{IsVariable, are_variables, costs-small, over-small}
use Rattle.cutoff_program.proofs.Solutions.{IsWithin, solution-met}
use Rattle.cutoff_program.proofs.Cutoffs.{positive-loads, value-taken, loads-are, sums-small}
use Rattle.cutoff_program.proofs.Points.{point-length, in-chosen, chosen-in, point-sum, IsOf, trail-of, trail-different}
use Rattle.cutoff_program.proofs.Balance.{AreBalancedFrom, rows-balanced}
use Rattle.cutoff_program.proofs.Forth.{edges-below, edges-different, loads-no_more, fits-no_more, value-is}

-- Paths that are found.

pub record AreFound (variables : List Variable) (point : List Bool) (n : ℕ) (flows : List Flow) : Type 0 where
  pub paths : List (List ℕ)
  pub are_paths : ArePathsFrom variables n flows paths
  pub chosen : AreOverChosenEdges point paths

pub find_paths : (variables : List Variable) (point : List Bool) (n : ℕ) (flows : List Flow) → AllByRecursion (λ v. v.edge.from ≢ v.edge.to) variables → AreBalancedFrom variables point n flows → AreFound variables point n flows
find_paths variables point n [] apart all = record { paths = []; are_paths = tt; chosen = tt }
find_paths variables point n (flow ∷ flows) apart all =
    let trail = balanced variables n point 0 (last_of flow) apart all.0 in
    let path = shorten variables n trail.trail 0 (last_of flow) trail.steps in
    let rest = find_paths variables point (n + 1) flows apart all.1 in
    record {
      paths = path.path ∷ rest.paths;
      are_paths = (path.is_path, rest.are_paths);
      chosen = all_both (λ k. is_chosen point k ≡ true) path.path (edges_of rest.paths) (path.among (is_chosen point) trail.chosen) rest.chosen;
    }

-- What chosen edges add is at most what the point adds: the point of the paths is 1 only where the point is.

if-more : (a b : Bool) (x : ℕ) → (a ≡ true → b ≡ true) → count_if a x ≤ count_if b x
if-more false b x h = omega arith
if-more true b x h = let e : count_if b x ≡ x = ap (λ c. count_if c x) (h refl) in omega arith

taken-more : (n : ℕ) (f : Variable → ℕ) (vs : List Variable) (p q : List Bool) → ((k : ℕ) → is_chosen p k ≡ true → is_chosen q k ≡ true) → taken_from n f vs p ≤ taken_from n f vs q
taken-more n f [] p q h = omega arith
taken-more n f (v ∷ vs) p q h = let ih = taken-more (n + 1) f vs p q h in let one = if-more (is_chosen p n) (is_chosen q n) (f v) (h n) in omega arith

pub chosen-sums : (problem : Problem) (point : List Bool) (paths : List (List ℕ)) (f : Variable → ℕ) → ArePaths problem paths → AreOverChosenEdges point paths →
    sum_along (variables_of problem) f (edges_of paths) ≤ taken_from 0 f (variables_of problem) point
chosen-sums problem point paths f are chosen =
    let same = point-sum (variables_of problem) f (edges_of paths) (edges-below (variables_of problem) 0 problem.flows paths are) (edges-different (variables_of problem) 0 problem.flows paths are) in
    let more = taken-more 0 f (variables_of problem) (point_with (length (variables_of problem)) (edges_of paths)) point
    (λ k c. all_in (λ k. is_chosen point k ≡ true) (edges_of paths) k chosen (chosen-in (length (variables_of problem)) (edges_of paths) k c)) in
    omega arith

-- One path: where the edges of a path are among those of another, both are one.

trail-end : (variables : List Variable) (flow k : ℕ) (ks : List ℕ) (from to : ℕ) → IsTrailOf variables flow (k ∷ ks) from to → In to (comes_to variables (k ∷ ks))
trail-end variables flow k [] from to t = subst (In to) (sym (comes_to-cons variables k [] t.0 t.1)) (inl (sym t.4))
trail-end variables flow k (j ∷ ks) from to t = subst (In to) (sym (comes_to-cons variables k (j ∷ ks) t.0 t.1)) (inr (trail-end variables flow j ks t.0.edge.to to t.4))

starts-in : (variables : List Variable) (flow : ℕ) (ks : List ℕ) (from to j : ℕ) (w : Variable) → IsTrailOf variables flow ks from to → In j ks → slice_get variables j ≡ Some w → In w.edge.from (from ∷ comes_to variables ks)
starts-in variables flow [] from to j w t i s = absurd i
starts-in variables flow (k ∷ ks) from to j w t (inl e) s =
    let same : w ≡ t.0 = some_some (sym s ∙ ap (slice_get variables) e ∙ t.1) in
    inl (ap (λ v. v.edge.from) same ∙ t.3)
starts-in variables flow (k ∷ ks) from to j w t (inr i) s = inr (subst (In w.edge.from) (sym (comes_to-cons variables k ks t.0 t.1)) (starts-in variables flow ks t.0.edge.to to j w t.4 i s))

others : (k : ℕ) (ks js : List ℕ) → AllByRecursion (λ j. k ≢ j) js → AllByRecursion (λ j. In j (k ∷ ks)) js → AllByRecursion (λ j. In j ks) js
others k ks [] apart all = tt
others k ks (j ∷ js) apart all = (by all.0, others k ks js apart.1 all.1)
  where
    by : (j ≡ k) ⊎ In j ks → In j ks
    by (inl e) = absurd (apart.0 (sym e))
    by (inr i) = i

pub one-path : (variables : List Variable) (flow : ℕ) (ks js : List ℕ) (from to : ℕ) → IsPath variables flow ks from to → IsPath variables flow js from to → AllByRecursion (λ j. In j ks) js → js ≡ ks
one-path variables flow [] [] from to p q all = refl
one-path variables flow [] (j ∷ js) from to p q all = absurd all.0
one-path variables flow (k ∷ ks) [] from to p q all =
    absurd (all_in (λ x. from ≢ x) (comes_to variables (k ∷ ks)) from p.simple.0 (subst (λ x. In x (comes_to variables (k ∷ ks))) (sym q.steps) (trail-end variables flow k ks from to p.steps)) refl)
one-path variables flow (k ∷ ks) (j ∷ js) from to p q all = by all.0 (same (one-path variables flow ks js p.steps.0.edge.to to))
  where
    v : Variable
    v = p.steps.0

    w : Variable
    w = q.steps.0

    comes : AreDifferent (from ∷ (v.edge.to ∷ comes_to variables ks))
    comes = subst (λ xs. AreDifferent (from ∷ xs)) (comes_to-cons variables k ks v p.steps.1) p.simple

    goes : AreDifferent (from ∷ (w.edge.to ∷ comes_to variables js))
    goes = subst (λ xs. AreDifferent (from ∷ xs)) (comes_to-cons variables j js w q.steps.1) q.simple

    rest : j ≡ k → AllByRecursion (λ i. In i ks) js
    rest e = others k ks js (subst (λ x. AllByRecursion (λ i. x ≢ i) js) e (trail-different variables flow (j ∷ js) from to q.steps q.simple.1).0) all.1

    same : (IsPath variables flow ks v.edge.to to → IsPath variables flow js v.edge.to to → AllByRecursion (λ i. In i ks) js → js ≡ ks) → j ≡ k → (j ∷ js ≡ k ∷ ks)
    same ih e =
        let one : w ≡ v = some_some (sym q.steps.1 ∙ ap (slice_get variables) e ∙ p.steps.1) in
        ap₂ (λ x xs. x ∷ xs) e
        (ih (record { steps = p.steps.4; simple = comes.1 })
        (subst (λ x. IsPath variables flow js x to) (ap (λ x. x.edge.to) one) (record { steps = q.steps.4; simple = goes.1 })) (rest e))

    by : (j ≡ k) ⊎ In j ks → (j ≡ k → (j ∷ js ≡ k ∷ ks)) → j ∷ js ≡ k ∷ ks
    by (inl e) go = go e
    by (inr i) go =
        let there : In w.edge.from (v.edge.to ∷ comes_to variables ks) = starts-in variables flow ks v.edge.to to j w p.steps.4 i q.steps.1 in
        absurd (all_in (λ x. from ≢ x) (v.edge.to ∷ comes_to variables ks) w.edge.from comes.0 there (sym q.steps.3))

-- A neat point is the point of the paths over its chosen edges.

all-contained : (variables : List Variable) (point : List Bool) (n : ℕ) (flow : Flow) (neat : IsNeatFlow variables point n flow) (ks : List ℕ) → AllByRecursion (IsOf variables n) ks → AllByRecursion (λ k. is_chosen point k ≡ true) ks →
    AllByRecursion (λ k. In k neat.path) ks
all-contained variables point n flow neat [] of chosen = tt
all-contained variables point n flow neat (k ∷ ks) of chosen =
    (in_from neat.path k ((neat.chosen k of.0.0 of.0.1 of.0.2).0 chosen.0), all-contained variables point n flow neat ks of.1 chosen.1)

neat-edges : (variables : List Variable) (point : List Bool) (n : ℕ) (flows : List Flow) (paths : List (List ℕ)) → ArePathsFrom variables n flows paths → AreOverChosenEdges point paths → AreNeatFrom variables point n flows →
    (k : ℕ) (v : Variable) → slice_get variables k ≡ Some v → n ≤ v.flow → v.flow < n + length flows → is_chosen point k ≡ true → In k (edges_of paths)
neat-edges variables point n [] [] are chosen neat k v s low high c = let bad : ⊥ = omega arith in absurd bad
neat-edges variables point n (flow ∷ flows) (path ∷ paths) are chosen neat k v s low high c = by (v.flow == n) refl (neat-edges variables point (n + 1) flows paths are.1 (all_right (λ k. is_chosen point k ≡ true) path (edges_of paths) chosen) neat.1 k v s)
  where
    one : path ≡ neat.0.path
    one = one-path variables n neat.0.path path 0 (last_of flow) neat.0.is_path are.0
        (all-contained variables point n flow neat.0 path (trail-of variables n path 0 (last_of flow) are.0.steps) (all_left (λ k. is_chosen point k ≡ true) path (edges_of paths) chosen))

    by : (b : Bool) → (v.flow == n) ≡ b → (n + 1 ≤ v.flow → v.flow < n + 1 + length flows → is_chosen point k ≡ true → In k (edges_of paths)) → In k (path ++ edges_of paths)
    by true e ih = let same : v.flow ≡ n = grind arith in in_append-left path (edges_of paths) k (subst (In k) (sym one) (in_from neat.0.path k ((neat.0.chosen k v s same).0 c)))
    by false e ih = let other : v.flow ≢ n = grind arith in in_append-right path (edges_of paths) k (ih (omega arith) (omega arith) c)
neat-edges variables point n [] (path ∷ paths) are chosen neat k v s low high c = absurd are
neat-edges variables point n (flow ∷ flows) [] are chosen neat k v s low high c = absurd are

same-list : (xs ys : List Bool) → length xs ≡ length ys → ((k : ℕ) → get_or xs k false ≡ get_or ys k false) → xs ≡ ys
same-list [] [] e h = refl
same-list (x ∷ xs) (y ∷ ys) e h = ap₂ (λ b bs. b ∷ bs) (h 0) (same-list xs ys (omega arith) (λ k. h (suc k)))
same-list [] (y ∷ ys) e h = let bad : ⊥ = omega arith in absurd bad
same-list (x ∷ xs) [] e h = let bad : ⊥ = omega arith in absurd bad

flows-below : (n : ℕ) (flows : List Flow) → AllByRecursion (λ v. v.flow < n + length flows) (variables_from n flows)
flows-below n [] = tt
flows-below n (flow ∷ flows) =
    all_both (λ v. v.flow < n + suc (length flows)) (map (variable_of n flow.rate) flow.edges) (variables_from (n + 1) flows)
    (all_map (λ v. v.flow < n + suc (length flows)) (variable_of n flow.rate) flow.edges (all_any (λ e. n < n + suc (length flows)) flow.edges (λ e. omega arith)))
    (all_so (λ v. v.flow < n + 1 + length flows) (λ v. v.flow < n + suc (length flows)) (variables_from (n + 1) flows) (λ v h. omega arith) (flows-below (n + 1) flows))

both-true : (a b : Bool) → (a ≡ true → b ≡ true) → (b ≡ true → a ≡ true) → a ≡ b
both-true true b h g = sym (h refl)
both-true false true h g = g refl
both-true false false h g = refl

pub neat-point : (problem : Problem) (point : List Bool) (paths : List (List ℕ)) → length point ≡ length (variables_of problem) → ArePaths problem paths → AreOverChosenEdges point paths → IsNeat problem point →
    point ≡ point_with (length (variables_of problem)) (edges_of paths)
neat-point problem point paths size are chosen neat =
    same-list point (point_with (length (variables_of problem)) (edges_of paths)) (size ∙ sym (point-length (length (variables_of problem)) (edges_of paths)))
    (λ k. both-true (is_chosen point k) (is_chosen (point_with (length (variables_of problem)) (edges_of paths)) k) (to k)
    (λ c. all_in (λ k. is_chosen point k ≡ true) (edges_of paths) k chosen (chosen-in (length (variables_of problem)) (edges_of paths) k c)))
  where
    to : (k : ℕ) → is_chosen point k ≡ true → is_chosen (point_with (length (variables_of problem)) (edges_of paths)) k ≡ true
    to k c =
        let inside : k < length (variables_of problem) = (let h = chosen_within point k c in omega arith) in
        let s = stands (variables_of problem) k inside in
        let below : s.0.flow < 0 + length problem.flows = each-at (λ v. v.flow < 0 + length problem.flows) (variables_of problem) k s.0 (flows-below 0 problem.flows) s.1 in
        in-chosen (length (variables_of problem)) (edges_of paths) k inside (neat-edges (variables_of problem) point 0 problem.flows paths are chosen neat k s.0 s.1 (omega arith) below c)

-- Together.

within-capacity : (o : Objective) (cutoff : Option Value) (loads : List (ℕ × ℕ)) → AllByRecursion (IsWithin o cutoff) loads → AllByRecursion (λ l. l.0 ≤ l.1) loads
within-capacity o cutoff [] all = tt
within-capacity o cutoff (l ∷ loads) all = (chain l.0 l.1 (room o cutoff l.1) all.0 (room-most o cutoff l.1), within-capacity o cutoff loads all.1)
  where
    chain : (m n : ℕ) (r : ℤ) → pos m ≤ℤ r → r ≤ℤ pos n → m ≤ n
    chain m n r h g = omega (arith, ints)

pub are_within : (problem : Problem) (cutoff : Option Value) (point : List Bool) (paths : List (List ℕ)) → IsProblem problem → IsSolution (program_at problem cutoff) point → ArePaths problem paths → AreOverChosenEdges point paths → AreWithinPoint problem point paths
are_within problem cutoff point paths is solution are chosen =
    let m = solution-met problem cutoff point solution in
    let less = loads-no_more (λ l. sum_along (variables_of problem) (rate_over l) (edges_of paths)) (load_at problem point) (λ l. chosen-sums problem point paths (rate_over l) are chosen) 0 problem.links in
    record {
      fits = fits-no_more (loads_along problem (edges_of paths)) (loads_from (load_at problem point) 0 problem.links) less (within-capacity problem.objective cutoff (loads_from (load_at problem point) 0 problem.links) m.links);
      no_more = by (is_below (cutoff_of problem point) value) refl less;
      neat = λ neat. sym (value-is problem is paths are) ∙ ap (cutoff_of problem) (sym (neat-point problem point paths m.size are chosen neat));
    }
  where
    value : Value
    value = value_along problem (edges_of paths)

    small : (f : Variable → ℕ) → AllByRecursion (λ v. f v ≤ 10 ^ 9) (variables_of problem) → sum_along (variables_of problem) f (edges_of paths) < 2 ^ 64
    small f h = let s = sums-small problem f point is h in let c = chosen-sums problem point paths f are chosen in below _ _ _ c s
      where
        below : (a b c : ℕ) → a ≤ b → b < c → a < c
        below a b c h g = omega arith

    taken : takes problem.objective value ≡ true
    taken = value-taken problem.objective (sum_along (variables_of problem) (cost_of_variable problem) (edges_of paths)) (loads_along problem (edges_of paths)) (small (cost_of_variable problem) (costs-small problem is))
        (loads-are (λ l. sum_along (variables_of problem) (rate_over l) (edges_of paths)) (λ l. small (rate_over l) (over-small problem l is)) 0 problem.links is.links)

    by : (b : Bool) → is_below (cutoff_of problem point) value ≡ b → AreNoMore (loads_along problem (edges_of paths)) (loads_from (load_at problem point) 0 problem.links) → is_below (cutoff_of problem point) value ≡ false
    by false e less = e
    by true e less =
        let self = lower-value problem.objective value (sum_along (variables_of problem) (cost_of_variable problem) (edges_of paths)) (taken_from 0 (cost_of_variable problem) (variables_of problem) point)
        (loads_along problem (edges_of paths)) (loads_from (load_at problem point) 0 problem.links) taken (chosen-sums problem point paths (cost_of_variable problem) are chosen) less
        (positive-loads (load_at problem point) 0 problem.links is.links) e in
        absurd (false_true (sym (irreflexive problem.objective value taken) ∙ self))

pub has_chosen : (problem : Problem) (cutoff : Option Value) (point : List Bool) → IsProblem problem → IsSolution (program_at problem cutoff) point → (paths : List (List ℕ)) × ArePaths problem paths × AreOverChosenEdges point paths
has_chosen problem cutoff point is solution =
    let m = solution-met problem cutoff point solution in
    let apart = all_so (IsVariable problem.links) (λ v. v.edge.from ≢ v.edge.to) (variables_of problem) (λ v i. i.apart) (are_variables problem is) in
    let f = find_paths (variables_of problem) point 0 problem.flows apart (rows-balanced problem point is m.flows) in
    (f.paths, f.are_paths, f.chosen)
