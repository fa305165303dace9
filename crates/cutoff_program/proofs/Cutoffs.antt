-- The laws of cutoffs.
use Rattle.std.proofs.Common.{◌≡◌, ℕ, ◌+◌, ◌-◌, ◌^◌, ◌≤◌, ◌<◌, Bool, true, false, cond, ℤ, pos, ◌≤ℤ◌, int_le, List, [], ◌∷◌, ◌++◌, length, map, Option, None, Some, slice_get, max, refl, sym, ◌∙◌, ap, ap₂, subst, arith}
use Rattle.std.proofs.lemmas.Int.{ints}
use Rattle.std.proofs.lemmas.Bool.{lt-ltb}
use Rattle.std.proofs.lemmas.List.{length-map}
use Rattle.std.proofs.Math.Nat.{mul-le-mul_right}
use Rattle.std.specs.List.{AllByRecursion, AllZip}
use Rattle.merlin_model.specs.declared.network.DirectedLink.{DirectedLink}
use Rattle.merlin_model.specs.declared.policy.Objective.{Objective}
use Rattle.merlin_model.specs.declared.policy.Objective.TheVariants as objective
use Rattle.merlin_model.specs.declared.policy.Value.{Value}
use Rattle.merlin_model.specs.Rates.{greatest_of}
use Rattle.merlin_model.specs.Assignments.{greatest_ratio, ratio_lt}
use Rattle.merlin_model.specs.Programs.{Row, is_chosen, IsNarrowerRow, IsNarrower, is_lower, Takes, HasCutoffs}
use Rattle.merlin_model.proofs.Fitting.{and-both}
use Rattle.cutoff_program.specs.Flows.{Problem, Variable, variables_of, rate_over, cost_of_variable, room, cutoff_right, flow_rows_from, link_rows_from, link_row, cutoff_row, fits_over, fits_on, may_be_one, program_at, taken_from, load_at, loads_from, cutoff_of, takes, is_below, value_by}
use Rattle.cutoff_program.specs.Limits.{IsLinkWithin, IsProblem}
use Rattle.cutoff_program.proofs.Lists.{zip_both, zip_same, map-at, stands, chosen_within, all_so}
use Rattle.cutoff_program.proofs.Rooms.{false_true, irreflexive, transitive, room-more, room-most, room-none, right-more, right-most, both_ways, up_to-below, up_to-level}
use Rattle.cutoff_program.proofs.Values.{under, under-loads, under-length}
use Rattle.cutoff_program.proofs.Sums.{taken-most, sum-bound}
use Rattle.cutoff_program.proofs.Variables.{costs-small, over-small}
use Rattle.cutoff_program.proofs.Solutions.{IsWithin, total_of, solution-met, met-solution, nothing-counted}

-- Narrower.

same_row : (row : Row) → IsNarrowerRow row row
same_row row = record { entries = refl; is_equality = refl; right = omega (arith, ints); still = λ e. refl }

links-narrow : (problem : Problem) (a b : Option Value) → ((capacity : ℕ) → room problem.objective a capacity ≤ℤ room problem.objective b capacity) → (n : ℕ) (links : List DirectedLink) →
    AllZip IsNarrowerRow (link_rows_from problem a n links) (link_rows_from problem b n links)
links-narrow problem a b h n [] = tt
links-narrow problem a b h n (directed ∷ links) = (record { entries = refl; is_equality = refl; right = h directed.capacity; still = λ e. absurd (false_true e) }, links-narrow problem a b h (n + 1) links)

le-of : (x y : ℤ) → int_le x y ≡ true → x ≤ℤ y
le-of x y h = grind (arith, ints)

le-true : (x y : ℤ) → x ≤ℤ y → int_le x y ≡ true
le-true x y h = grind (arith, ints)

fits-more : (problem : Problem) (a b : Option Value) → ((capacity : ℕ) → room problem.objective a capacity ≤ℤ room problem.objective b capacity) → (rate : ℕ) (c : Option ℕ) → fits_on problem a rate c ≡ true → fits_on problem b rate c ≡ true
fits-more problem a b h rate None e = refl
fits-more problem a b h rate (Some l) e = by (slice_get problem.links l) e
  where
    by : (o : Option DirectedLink) → fits_over problem.objective a rate o ≡ true → fits_over problem.objective b rate o ≡ true
    by None e = refl
    by (Some directed) e = le-true (pos rate) (room problem.objective b directed.capacity) (through _ _ _ (le-of (pos rate) (room problem.objective a directed.capacity) e) (h directed.capacity))
      where
        through : (x y z : ℤ) → x ≤ℤ y → y ≤ℤ z → x ≤ℤ z
        through x y z p q = omega (arith, ints)

upper-more : (problem : Problem) (a b : Option Value) → ((capacity : ℕ) → room problem.objective a capacity ≤ℤ room problem.objective b capacity) → (k : ℕ) →
    is_chosen (map (may_be_one problem a) (variables_of problem)) k ≡ true → is_chosen (map (may_be_one problem b) (variables_of problem)) k ≡ true
upper-more problem a b h k e =
    map-at (may_be_one problem b) (variables_of problem) k s.0 false s.1 ∙ fits-more problem a b h s.0.rate s.0.edge.crosses (sym (map-at (may_be_one problem a) (variables_of problem) k s.0 false s.1) ∙ e)
  where
    s : (v : Variable) × (slice_get (variables_of problem) k ≡ Some v)
    s = stands (variables_of problem) k (let i = chosen_within (map (may_be_one problem a) (variables_of problem)) k e in let l = length-map (variables_of problem) (may_be_one problem a) in omega arith)

pub narrower : (problem : Problem) (a b : Option Value) → ((capacity : ℕ) → room problem.objective a capacity ≤ℤ room problem.objective b capacity) → cutoff_right a (total_of problem) ≤ℤ cutoff_right b (total_of problem) →
    IsNarrower (program_at problem a) (program_at problem b)
narrower problem a b h g = record {
  rows = zip_both IsNarrowerRow (flow_rows_from problem 0 problem.flows) (link_rows_from problem a 0 problem.links ++ cutoff_row problem a ∷ []) (flow_rows_from problem 0 problem.flows) (link_rows_from problem b 0 problem.links ++ cutoff_row problem b ∷ [])
      (zip_same IsNarrowerRow (flow_rows_from problem 0 problem.flows) same_row)
      (zip_both IsNarrowerRow (link_rows_from problem a 0 problem.links) (cutoff_row problem a ∷ []) (link_rows_from problem b 0 problem.links) (cutoff_row problem b ∷ [])
      (links-narrow problem a b h 0 problem.links) (record { entries = refl; is_equality = refl; right = g; still = λ e. absurd (false_true e) }, tt));
  size = length-map (variables_of problem) (may_be_one problem a) ∙ sym (length-map (variables_of problem) (may_be_one problem b));
  upper = upper-more problem a b h;
}

-- Equal.

links-same : (problem : Problem) (a b : Option Value) → ((capacity : ℕ) → room problem.objective a capacity ≡ room problem.objective b capacity) → (n : ℕ) (links : List DirectedLink) → link_rows_from problem a n links ≡ link_rows_from problem b n links
links-same problem a b h n [] = refl
links-same problem a b h n (directed ∷ links) =
    ap₂ (λ r rows. record { entries = (link_row problem a n directed).entries; is_equality = false; right = r } ∷ rows) (h directed.capacity) (links-same problem a b h (n + 1) links)

fits-same : (problem : Problem) (a b : Option Value) → ((capacity : ℕ) → room problem.objective a capacity ≡ room problem.objective b capacity) → (rate : ℕ) (c : Option ℕ) → fits_on problem a rate c ≡ fits_on problem b rate c
fits-same problem a b h rate None = refl
fits-same problem a b h rate (Some l) = by (slice_get problem.links l)
  where
    by : (o : Option DirectedLink) → fits_over problem.objective a rate o ≡ fits_over problem.objective b rate o
    by None = refl
    by (Some directed) = ap (int_le (pos rate)) (h directed.capacity)

upper-same : (problem : Problem) (a b : Option Value) → ((capacity : ℕ) → room problem.objective a capacity ≡ room problem.objective b capacity) → (vs : List Variable) → map (may_be_one problem a) vs ≡ map (may_be_one problem b) vs
upper-same problem a b h [] = refl
upper-same problem a b h (v ∷ vs) = ap₂ (λ x xs. x ∷ xs) (fits-same problem a b h v.rate v.edge.crosses) (upper-same problem a b h vs)

pub same-program : (problem : Problem) (a b : Option Value) → ((capacity : ℕ) → room problem.objective a capacity ≡ room problem.objective b capacity) → cutoff_right a (total_of problem) ≡ cutoff_right b (total_of problem) →
    program_at problem a ≡ program_at problem b
same-program problem a b h g =
    ap₂ (λ rows upper. record { rows = flow_rows_from problem 0 problem.flows ++ rows; upper = upper })
    (ap₂ (λ rows r. rows ++ record { entries = (cutoff_row problem a).entries; is_equality = false; right = r } ∷ []) (links-same problem a b h 0 problem.links) g)
    (upper-same problem a b h (variables_of problem))

-- The value of a point is taken.

ratio-all : (P : ℕ × ℕ → Type 0) (loads : List (ℕ × ℕ)) → P (0, 1) → AllByRecursion P loads → P (greatest_ratio loads)
ratio-all P [] none all = none
ratio-all P (l ∷ loads) none all = by (ratio_lt l (greatest_ratio loads)) (ratio-all P loads none all.1)
  where
    by : (c : Bool) → P (greatest_ratio loads) → P (cond c (greatest_ratio loads) l)
    by true g = g
    by false g = all.0

greatest-most : (m : ℕ) (loads : List (ℕ × ℕ)) → AllByRecursion (λ l. l.0 ≤ m) loads → greatest_of (map (λ l. l.0) loads) ≤ m
greatest-most m [] all = omega arith
greatest-most m (l ∷ loads) all = both l.0 (greatest_of (map (λ l. l.0) loads)) all.0 (greatest-most m loads all.1)
  where
    both : (x y : ℕ) → x ≤ m → y ≤ m → max x y ≤ m
    both x y g k = omega arith

-- loads of links that are bounded, over capacities
pub record IsLoad (l : ℕ × ℕ) : Type 0 where
  pub load : l.0 < 2 ^ 64
  pub positive : 0 < l.1
  pub capacity : l.1 < 2 ^ 64

pub loads-are : (load : ℕ → ℕ) → ((l : ℕ) → load l < 2 ^ 64) → (n : ℕ) (links : List DirectedLink) → AllByRecursion IsLinkWithin links → AllByRecursion IsLoad (loads_from load n links)
loads-are load h n [] all = tt
loads-are load h n (directed ∷ links) all = (record { load = h n; positive = all.0.positive; capacity = let s = all.0.small in omega arith }, loads-are load h (n + 1) links all.1)

pub sums-small : (problem : Problem) (f : Variable → ℕ) (point : List Bool) → IsProblem problem → AllByRecursion (λ v. f v ≤ 10 ^ 9) (variables_of problem) → taken_from 0 f (variables_of problem) point < 2 ^ 64
sums-small problem f point is h =
    let t = taken-most 0 f (variables_of problem) point in
    let s = sum-bound f (10 ^ 9) (variables_of problem) h in
    let few = mul-le-mul_right (10 ^ 9) is.few_variables in
    omega arith

pub value-taken : (o : Objective) (length : ℕ) (loads : List (ℕ × ℕ)) → length < 2 ^ 64 → AllByRecursion IsLoad loads → takes o (value_by o length loads) ≡ true
value-taken objective.Shortest length loads h all = lt-ltb length (2 ^ 64) h
value-taken objective.Reserved length loads h all =
    lt-ltb (greatest_of (map (λ l. l.0) loads)) (2 ^ 64) (let g = greatest-most (2 ^ 64 - 1) loads (all_so IsLoad (λ l. l.0 ≤ 2 ^ 64 - 1) loads (λ l i. let x = i.load in omega arith) all) in omega arith)
value-taken objective.Ratio length loads h all =
    let g = ratio-all IsLoad loads (record { load = omega arith; positive = omega arith; capacity = omega arith }) all in
    and-both _ _ (and-both _ _ (lt-ltb (greatest_ratio loads).0 (2 ^ 64) g.load) (lt-ltb 0 (greatest_ratio loads).1 g.positive)) (lt-ltb (greatest_ratio loads).1 (2 ^ 64) g.capacity)

pub positive-loads : (load : ℕ → ℕ) (n : ℕ) (links : List DirectedLink) → AllByRecursion IsLinkWithin links → AllByRecursion (λ l. 0 < l.1) (loads_from load n links)
positive-loads load n [] all = tt
positive-loads load n (directed ∷ links) all = (all.0.positive, positive-loads load (n + 1) links all.1)

within-none : (o : Objective) (loads : List (ℕ × ℕ)) → AllByRecursion (IsWithin o None) loads → AllByRecursion (λ l. l.0 ≤ l.1) loads
within-none o [] all = tt
within-none o (l ∷ loads) all = (of_z l.0 l.1 (subst (λ r. pos l.0 ≤ℤ r) (room-none o l.1) all.0), within-none o loads all.1)
  where
    of_z : (x y : ℕ) → pos x ≤ℤ pos y → x ≤ y
    of_z x y h = omega (arith, ints)

pub has_cutoffs : (problem : Problem) → IsProblem problem → HasCutoffs Value (program_at problem) (takes problem.objective) is_below (cutoff_of problem)
has_cutoffs problem is = record {
  irreflexive = irreflexive o;
  transitive = transitive o;
  level = λ x y t u h g. same-program problem (Some x) (Some y)
      (λ capacity. both_ways _ _ (room-more o x y capacity (up_to-level o x y t u g)) (room-more o y x capacity (up_to-level o y x u t h)))
      (both_ways _ _ (right-more o x y (total_of problem) (up_to-level o x y t u g) none) (right-more o y x (total_of problem) (up_to-level o y x u t h) none));
  narrows = narrows;
  lowers = λ z point t s. let m = solution-met problem (Some z) point s in under o z (length_at point) (total_of problem) (loads_at point) t m.links m.length;
  reaches = λ z point t s g.
      let m = solution-met problem None point s in
      met-solution problem (Some z) point (record {
        size = m.size;
        flows = m.flows;
        links = under-loads o z (length_at point) (loads_at point) t (positive-loads (load_at problem point) 0 problem.links is.links) (within-none o (loads_at point) m.links) g;
        length = under-length o z (length_at point) (total_of problem) (loads_at point) t (of_z _ _ m.length) g;
      });
  taken = λ z point t e. value-taken o (length_at point) (loads_at point) (sums-small problem (cost_of_variable problem) point is (costs-small problem is))
      (loads-are (load_at problem point) (λ l. sums-small problem (rate_over l) point is (over-small problem l is)) 0 problem.links is.links);
}
  where
    o : Objective
    o = problem.objective

    none : o ≡ objective.Ratio → total_of problem ≡ 0
    none = nothing-counted o problem

    length_at : List Bool → ℕ
    length_at point = taken_from 0 (cost_of_variable problem) (variables_of problem) point

    loads_at : List Bool → List (ℕ × ℕ)
    loads_at point = loads_from (load_at problem point) 0 problem.links

    of_z : (x y : ℕ) → pos x ≤ℤ pos y → x ≤ y
    of_z x y h = omega (arith, ints)

    narrows : (a b : Option Value) → Takes (takes o) a → Takes (takes o) b → is_lower is_below a b ≡ true → IsNarrower (program_at problem a) (program_at problem b)
    narrows (Some x) (Some y) t u h = narrower problem (Some x) (Some y) (λ capacity. room-more o x y capacity (up_to-below o x y t u h)) (right-more o x y (total_of problem) (up_to-below o x y t u h) none)
    narrows (Some x) None t u h = narrower problem (Some x) None (λ capacity. subst (λ r. room o (Some x) capacity ≤ℤ r) (sym (room-none o capacity)) (room-most o (Some x) capacity)) (right-most (Some x) (total_of problem))
    narrows None b t u h = absurd (false_true h)
