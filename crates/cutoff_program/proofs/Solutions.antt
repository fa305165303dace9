-- Solutions of the program, by what its rows say.
use Rattle.std.proofs.Common.{◌≡◌, ℕ, zero, suc, ◌+◌, ◌≤◌, ◌<◌, Bool, true, false, ℤ, pos, ◌≤ℤ◌, int_le, List, [], ◌∷◌, ◌++◌, length, map, Option, None, Some, slice_get, sum_by, refl, sym, ◌∙◌, ap, subst, arith}
use Rattle.std.proofs.lemmas.Int.{ints}
use Rattle.std.proofs.lemmas.List.{length-map}
use Rattle.std.specs.List.{AllByRecursion}
use Rattle.merlin_model.specs.declared.network.DirectedLink.{DirectedLink}
use Rattle.merlin_model.specs.declared.policy.Objective.{Objective}
use Rattle.merlin_model.specs.declared.policy.Objective.TheVariants as objective
use Rattle.merlin_model.specs.declared.policy.Value.{Value}
use Rattle.merlin_model.specs.Programs.{Row, is_chosen, left_side, Compares, IsSolution}
use Rattle.cutoff_program.specs.Flows.{Problem, Variable, variables_of, rate_over, length_of, cost_of_variable, room, cutoff_right, flow_rows_from, link_rows_from, cutoff_row, fits_over, fits_on, may_be_one, program_at, taken_from, load_at, loads_from}
use Rattle.cutoff_program.proofs.Lists.{all_both, all_left, all_right, stands, map-at, chosen_within, none_some, some_some}
use Rattle.cutoff_program.proofs.Sums.{left-taken, coefficient_if-zero, sum-zero, coefficient_if-at}
use Rattle.cutoff_program.proofs.Variables.{over-full}
use Rattle.cutoff_program.proofs.Values.{counted}

abbrev pub Meets : List Bool → Row → Type 0
Meets point row = Compares row.is_equality (left_side row.entries point) row.right

abbrev pub IsWithin : Objective → Option Value → ℕ × ℕ → Type 0
IsWithin o cutoff l = pos l.0 ≤ℤ room o cutoff l.1

abbrev pub total_of : Problem → ℕ
total_of problem = sum_by (length_of problem.objective problem) (variables_of problem)

pub record IsMet (problem : Problem) (cutoff : Option Value) (point : List Bool) : Type 0 where
  pub size : length point ≡ length (variables_of problem)
  pub flows : AllByRecursion (Meets point) (flow_rows_from problem 0 problem.flows)
  pub links : AllByRecursion (IsWithin problem.objective cutoff) (loads_from (load_at problem point) 0 problem.links)
  pub length : pos (counted problem.objective (taken_from 0 (cost_of_variable problem) (variables_of problem) point)) ≤ℤ cutoff_right cutoff (total_of problem)

-- The link rows.

links-to : (problem : Problem) (cutoff : Option Value) (point : List Bool) (n : ℕ) (links : List DirectedLink) → AllByRecursion (Meets point) (link_rows_from problem cutoff n links) →
    AllByRecursion (IsWithin problem.objective cutoff) (loads_from (load_at problem point) n links)
links-to problem cutoff point n [] all = tt
links-to problem cutoff point n (directed ∷ links) all =
    (subst (λ z. z ≤ℤ room problem.objective cutoff directed.capacity) (left-taken (rate_over n) (variables_of problem) point) all.0, links-to problem cutoff point (n + 1) links all.1)

links-from : (problem : Problem) (cutoff : Option Value) (point : List Bool) (n : ℕ) (links : List DirectedLink) → AllByRecursion (IsWithin problem.objective cutoff) (loads_from (load_at problem point) n links) →
    AllByRecursion (Meets point) (link_rows_from problem cutoff n links)
links-from problem cutoff point n [] all = tt
links-from problem cutoff point n (directed ∷ links) all =
    (subst (λ z. z ≤ℤ room problem.objective cutoff directed.capacity) (sym (left-taken (rate_over n) (variables_of problem) point)) all.0, links-from problem cutoff point (n + 1) links all.1)

-- What the cutoff row counts.

pub length-counted : (o : Objective) (problem : Problem) (point : List Bool) → taken_from 0 (length_of o problem) (variables_of problem) point ≡ counted o (taken_from 0 (cost_of_variable problem) (variables_of problem) point)
length-counted objective.Shortest problem point = refl
length-counted objective.Ratio problem point = coefficient_if-zero 0 (length_of objective.Ratio problem) (variables_of problem) point (λ v. refl)
length-counted objective.Reserved problem point = coefficient_if-zero 0 (length_of objective.Reserved problem) (variables_of problem) point (λ v. refl)

pub nothing-counted : (o : Objective) (problem : Problem) → o ≡ objective.Ratio → sum_by (length_of o problem) (variables_of problem) ≡ 0
nothing-counted o problem e = ap (λ x. sum_by (length_of x problem) (variables_of problem)) e ∙ sum-zero (length_of objective.Ratio problem) (variables_of problem) (λ v. refl)

left-length : (problem : Problem) (cutoff : Option Value) (point : List Bool) → left_side (cutoff_row problem cutoff).entries point ≡ pos (counted problem.objective (taken_from 0 (cost_of_variable problem) (variables_of problem) point))
left-length problem cutoff point = left-taken (length_of problem.objective problem) (variables_of problem) point ∙ ap pos (length-counted problem.objective problem point)

pub solution-met : (problem : Problem) (cutoff : Option Value) (point : List Bool) → IsSolution (program_at problem cutoff) point → IsMet problem cutoff point
solution-met problem cutoff point s =
    let rest = all_right (Meets point) (flow_rows_from problem 0 problem.flows) (link_rows_from problem cutoff 0 problem.links ++ cutoff_row problem cutoff ∷ []) s.meets in
    let last = all_right (Meets point) (link_rows_from problem cutoff 0 problem.links) (cutoff_row problem cutoff ∷ []) rest in
    record {
      size = s.size ∙ length-map (variables_of problem) (may_be_one problem cutoff);
      flows = all_left (Meets point) (flow_rows_from problem 0 problem.flows) (link_rows_from problem cutoff 0 problem.links ++ cutoff_row problem cutoff ∷ []) s.meets;
      links = links-to problem cutoff point 0 problem.links (all_left (Meets point) (link_rows_from problem cutoff 0 problem.links) (cutoff_row problem cutoff ∷ []) rest);
      length = subst (λ z. z ≤ℤ cutoff_right cutoff (total_of problem)) (left-length problem cutoff point) last.0;
    }

-- A chosen variable fits the link that it crosses, since the load does.

le-true : (x y : ℤ) → x ≤ℤ y → int_le x y ≡ true
le-true x y h = grind (arith, ints)

load-within : (o : Objective) (cutoff : Option Value) (load : ℕ → ℕ) (n : ℕ) (links : List DirectedLink) (l : ℕ) (directed : DirectedLink) → AllByRecursion (IsWithin o cutoff) (loads_from load n links) → slice_get links l ≡ Some directed →
    pos (load (n + l)) ≤ℤ room o cutoff directed.capacity
load-within o cutoff load n [] l directed all e = absurd (none_some e)
load-within o cutoff load n (w ∷ links) zero directed all e =
    let at : n ≡ n + 0 = omega arith in
    subst (λ x. pos (load (n + 0)) ≤ℤ room o cutoff x.capacity) (some_some e) (subst (λ m. pos (load m) ≤ℤ room o cutoff w.capacity) at all.0)
load-within o cutoff load n (w ∷ links) (suc l) directed all e =
    let at : n + 1 + l ≡ n + suc l = omega arith in
    subst (λ m. pos (load m) ≤ℤ room o cutoff directed.capacity) at (load-within o cutoff load (n + 1) links l directed all.1 e)

pub chosen-fits : (problem : Problem) (cutoff : Option Value) (point : List Bool) → length point ≡ length (variables_of problem) →
    AllByRecursion (IsWithin problem.objective cutoff) (loads_from (load_at problem point) 0 problem.links) →
    (k : ℕ) → is_chosen point k ≡ true → is_chosen (map (may_be_one problem cutoff) (variables_of problem)) k ≡ true
chosen-fits problem cutoff point size links k c = map-at (may_be_one problem cutoff) (variables_of problem) k v false e ∙ by v.edge.crosses refl
  where
    inside : k < length (variables_of problem)
    inside = let h = chosen_within point k c in omega arith

    v : Variable
    v = (stands (variables_of problem) k inside).0

    e : slice_get (variables_of problem) k ≡ Some v
    e = (stands (variables_of problem) k inside).1

    at : (l : ℕ) → v.edge.crosses ≡ Some l → (o : Option DirectedLink) → slice_get problem.links l ≡ o → fits_over problem.objective cutoff v.rate o ≡ true
    at l x None g = refl
    at l x (Some directed) g =
        let load = load-within problem.objective cutoff (load_at problem point) 0 problem.links l directed links g in
        let zero : 0 + l ≡ l = omega arith in
        let here : pos (load_at problem point l) ≤ℤ room problem.objective cutoff directed.capacity = subst (λ m. pos (load_at problem point m) ≤ℤ room problem.objective cutoff directed.capacity) zero load in
        let mine : rate_over l v ≤ load_at problem point l = coefficient_if-at 0 (rate_over l) (variables_of problem) point k v e (ap (is_chosen point) (plain k) ∙ c) in
        let full : rate_over l v ≡ v.rate = over-full l v x in
        le-true (pos v.rate) (room problem.objective cutoff directed.capacity) (chain _ _ _ _ full mine here)
      where
        plain : (j : ℕ) → 0 + j ≡ j
        plain j = omega arith

        chain : (a b d : ℕ) (r : ℤ) → a ≡ b → a ≤ d → pos d ≤ℤ r → pos b ≤ℤ r
        chain a b d r x y z = omega (arith, ints)

    by : (o : Option ℕ) → v.edge.crosses ≡ o → fits_on problem cutoff v.rate o ≡ true
    by None x = refl
    by (Some l) x = at l x (slice_get problem.links l) refl

pub met-solution : (problem : Problem) (cutoff : Option Value) (point : List Bool) → IsMet problem cutoff point → IsSolution (program_at problem cutoff) point
met-solution problem cutoff point m = record {
  size = m.size ∙ sym (length-map (variables_of problem) (may_be_one problem cutoff));
  within = chosen-fits problem cutoff point m.size m.links;
  meets = all_both (Meets point) (flow_rows_from problem 0 problem.flows) (link_rows_from problem cutoff 0 problem.links ++ cutoff_row problem cutoff ∷ []) m.flows
      (all_both (Meets point) (link_rows_from problem cutoff 0 problem.links) (cutoff_row problem cutoff ∷ []) (links-from problem cutoff point 0 problem.links m.links)
      (subst (λ z. z ≤ℤ cutoff_right cutoff (total_of problem)) (sym (left-length problem cutoff point)) m.length, tt));
}
