-- Boxes without an open variable.
use Rattle.std.proofs.Common.{◌≡◌, ℕ, zero, suc, ◌+◌, ◌≤◌, ◌<◌, ◌^◌, ◌==◌, nat_lt, nat_abs, ◌⊎◌, inl, inr, Bool, true, false, ℤ, pos, negsuc, ◌+ℤ◌, ◌-ℤ◌, ◌*ℤ◌, ◌<ℤ◌, List, [], ◌∷◌, map, length, Option, None, Some, get_or, refl, sym, ◌∙◌, ap, subst, arith}
use Rattle.std.proofs.lemmas.Int.{ints}
use Rattle.std.proofs.lemmas.List.{get_or_past, length-map}
use Rattle.std.specs.List.{AllByRecursion, range_with_len}
use Rattle.merlin_model.specs.declared.policy.Value.{Value}
use Rattle.merlin_model.specs.Programs.{Program, Row, no_row, row_at, variables, is_chosen, total, coefficient_if, left_side, Compares, IsSolution}
use Rattle.merlin_model.specs.Trees.{fixed_at, IsOpen, IsBox, coefficient_in, weighted_coefficient, least_addition, least_value, IsPositiveOnBounds, RefutesBox}
use Rattle.merlin_model.proofs.Members.{In}
use Rattle.merlin_model.proofs.Sums.{taken-zero, taken-add, taken-mul, total-add, total-mul, total-same, total-zero, total-outside, total-inside, coefficient_in-cons}
use Rattle.cutoff_program.specs.declared.flow.Problem.{Problem}
use Rattle.cutoff_program.specs.declared.flow.Variable.{Variable}
use Rattle.cutoff_program.specs.Flows.{variables_of, program_at, last_of, length_of, count_if, taken_from}
use Rattle.cutoff_program.specs.Trails.{IsPath, IsNeat}
use Rattle.cutoff_program.specs.Flows.{rate_over}
use Rattle.cutoff_program.specs.Easy.{MayIn}
use Rattle.cutoff_program.specs.Limits.{IsProblem}
use Rattle.price_candidates.specs.Tried.{point_with, IsTried, IsLeastPath, edges_of, HasEdgesOf, IsBetter, one_weight, is_fixed_to_one, point_in, IsSettled, Broken, Unbroken}
use Rattle.price_candidates.proofs.Points.{ArePaths}
use Rattle.price_candidates.proofs.Solving.{Meets, fits-link, fits-cutoff, marks-of, solves, point-neat}
use Rattle.price_candidates.proofs.Spreading.{paths-marked}
use Rattle.price_candidates.proofs.Easing.{each-map, may-all}

-- The left side of a row is the sum over the variables. (As in the proof that refuted boxes are empty.)

one_place : (point : List Bool) (n u : ℕ) (z : ℤ) → length point ≡ n →
    total (map (λ v. coefficient_if (is_chosen point v) (coefficient_if (u == v) z)) (range_with_len 0 n)) ≡ coefficient_if (is_chosen point u) z
one_place point n u z size = by (nat_lt u n) refl
  where
    by : (b : Bool) → nat_lt u n ≡ b → total (map (λ v. coefficient_if (is_chosen point v) (coefficient_if (u == v) z)) (range_with_len 0 n)) ≡ coefficient_if (is_chosen point u) z
    by true e = total-inside (is_chosen point) u z 0 n (omega arith) (grind arith)
    by false e =
        let past : n ≤ u = grind arith in
        let none : is_chosen point u ≡ false = get_or_past point u false (omega arith) in
        total-outside (is_chosen point) u z 0 n (inr (omega arith)) ∙ sym (ap (λ b. coefficient_if b z) none)

row_sum : (point : List Bool) (n : ℕ) (entries : List (ℕ × ℤ)) → length point ≡ n →
    total (map (λ v. coefficient_if (is_chosen point v) (coefficient_in v entries)) (range_with_len 0 n)) ≡ left_side entries point
row_sum point n [] size = total-zero _ (range_with_len 0 n) (λ v. taken-zero (is_chosen point v))
row_sum point n (e ∷ es) size =
    total-same _ (λ v. coefficient_if (is_chosen point v) (coefficient_if (e.0 == v) e.1) +ℤ coefficient_if (is_chosen point v) (coefficient_in v es)) (range_with_len 0 n)
    (λ v. ap (coefficient_if (is_chosen point v)) (coefficient_in-cons v e es) ∙ taken-add (is_chosen point v) (coefficient_if (e.0 == v) e.1) (coefficient_in v es))
    ∙ total-add (λ v. coefficient_if (is_chosen point v) (coefficient_if (e.0 == v) e.1)) (λ v. coefficient_if (is_chosen point v) (coefficient_in v es)) (range_with_len 0 n)
    ∙ ap (λ t. t +ℤ total (map (λ v. coefficient_if (is_chosen point v) (coefficient_in v es)) (range_with_len 0 n))) (one_place point n e.0 e.1 size)
    ∙ ap (λ t. coefficient_if (is_chosen point e.0) e.1 +ℤ t) (row_sum point n es size)

pub one-at : (box : List (Option Bool)) (k : ℕ) → is_chosen (point_in box) k ≡ is_fixed_to_one (fixed_at box k)
one-at [] k = refl
one-at (f ∷ box) zero = refl
one-at (f ∷ box) (suc k) = one-at box k

pub upper-exists : (program : Program) (k : ℕ) → is_chosen program.upper k ≡ true → k < variables program
upper-exists program k e = by (nat_lt k (variables program)) refl
  where
    by : (b : Bool) → nat_lt k (variables program) ≡ b → k < variables program
    by true s = grind arith
    by false s = absurd (let false-true : false ≡ true → ⊥ = λ x. cc in let past : variables program ≤ k = grind arith in false-true (sym (get_or_past program.upper k false past) ∙ e))

module _ (program : Program) (box : List (Option Bool)) (in_box : IsBox program box) (closed : (k : ℕ) → ¬ IsOpen program box k) where
  addition-is : (v : ℕ) (c : ℤ) → least_addition (fixed_at box v) (is_chosen program.upper v) c ≡ coefficient_if (is_chosen (point_in box) v) c
  addition-is v c = by (fixed_at box v) (is_chosen program.upper v) refl refl ∙ ap (λ b. coefficient_if b c) (sym (one-at box v))
    where
      by : (f : Option Bool) (u : Bool) → fixed_at box v ≡ f → is_chosen program.upper v ≡ u → least_addition f u c ≡ coefficient_if (is_fixed_to_one f) c
      by (Some true) u e s = refl
      by (Some false) u e s = refl
      by None true e s = absurd (closed v (record { exists = upper-exists program v s; free = e; may_be_one = s }))
      by None false e s = refl

  left : ℕ → ℤ
  left row = left_side (row_at program row).entries (point_in box)

  least-alone : (row : ℕ) (w : ℤ) → least_value program box (one_weight row w) ≡ w *ℤ left row
  unfolding left
  least-alone row w =
      total-same (λ v. least_addition (fixed_at box v) (is_chosen program.upper v) (weighted_coefficient program (one_weight row w) v)) (λ v. w *ℤ coefficient_if (is_chosen (point_in box) v) (coefficient_in v (row_at program row).entries)) (range_with_len 0 (variables program))
      (λ v. addition-is v (weighted_coefficient program (one_weight row w) v) ∙ ap (coefficient_if (is_chosen (point_in box) v)) (just (w *ℤ coefficient_in v (row_at program row).entries)) ∙ taken-mul (is_chosen (point_in box) v) w (coefficient_in v (row_at program row).entries))
      ∙ total-mul w (λ v. coefficient_if (is_chosen (point_in box) v) (coefficient_in v (row_at program row).entries)) (range_with_len 0 (variables program))
      ∙ ap (λ t. w *ℤ t) (row_sum (point_in box) (variables program) (row_at program row).entries (length-map box is_fixed_to_one ∙ in_box.size))
    where
      just : (t : ℤ) → t +ℤ pos 0 ≡ t
      just t = omega (arith, ints)

  -- a row one_weight refutes where its weighted left side is past its weighted right side
  alone-refutes : (row : ℕ) (w : ℤ) → row < length program.rows → nat_abs w ≤ 2 ^ 60 → IsPositiveOnBounds (row_at program row).is_equality w → (w *ℤ (row_at program row).right) <ℤ (w *ℤ left row) → RefutesBox program box (one_weight row w)
  alone-refutes row w exists low sign over = record {
    ascend = λ k h. let bad : ⊥ = omega arith in absurd bad;
    exist = (exists, tt);
    small = (low, tt);
    signs = (sign, tt);
    exceeds = let l = least-alone row w in omega (arith, ints);
  }

  row-settled : (row : ℕ) → row < length program.rows → IsSettled program box ⊎ Compares (row_at program row).is_equality (left row) (row_at program row).right
  row-settled row exists = by (row_at program row).is_equality refl ((row_at program row).right -ℤ left row) refl
    where
      above : (b : Bool) → IsPositiveOnBounds b (pos 1)
      above true = λ e. let bad : ⊥ = omega (arith, ints) in bad
      above false = omega (arith, ints)

      below : (b : Bool) → b ≡ true → IsPositiveOnBounds b (negsuc 0)
      below true e = λ e. let bad : ⊥ = omega (arith, ints) in bad
      below false e = absurd (let false-true : false ≡ true → ⊥ = λ x. cc in false-true e)

      by : (b : Bool) → (row_at program row).is_equality ≡ b → (d : ℤ) → (row_at program row).right -ℤ left row ≡ d → IsSettled program box ⊎ Compares b (left row) (row_at program row).right
      by true e (pos zero) s = inr (omega (arith, ints))
      by true e (pos (suc m)) s = inl (Broken row (negsuc 0) exists (inr refl) (alone-refutes row (negsuc 0) exists (omega arith) (below (row_at program row).is_equality e) (omega (arith, ints))))
      by true e (negsuc m) s = inl (Broken row (pos 1) exists (inl refl) (alone-refutes row (pos 1) exists (omega arith) (above (row_at program row).is_equality) (omega (arith, ints))))
      by false e (pos m) s = inr (omega (arith, ints))
      by false e (negsuc m) s = inl (Broken row (pos 1) exists (inl refl) (alone-refutes row (pos 1) exists (omega arith) (above (row_at program row).is_equality) (omega (arith, ints))))

  rows-settled : (n : ℕ) (rest : List Row) → n + length rest ≤ length program.rows → ((j : ℕ) → row_at program (n + j) ≡ get_or rest j no_row) → IsSettled program box ⊎ AllByRecursion (Meets (point_in box)) rest
  unfolding left
  rows-settled n [] room same = inr tt
  rows-settled n (row ∷ rest) room same = by (row-settled n (omega arith)) (rows-settled (n + 1) rest (omega arith) (λ j. (let s : n + 1 + j ≡ n + suc j = omega arith in ap (row_at program) s) ∙ same (suc j)))
    where
      here : row_at program n ≡ row
      here = (let s : n ≡ n + 0 = omega arith in ap (row_at program) s) ∙ same 0

      by : IsSettled program box ⊎ Compares (row_at program n).is_equality (left n) (row_at program n).right → IsSettled program box ⊎ AllByRecursion (Meets (point_in box)) rest → IsSettled program box ⊎ AllByRecursion (Meets (point_in box)) (row ∷ rest)
      by (inl s) r = inl s
      by (inr c) (inl s) = inl s
      by (inr c) (inr r) = inr (subst (Meets (point_in box)) here c, r)

  pub settled : IsSettled program box
  settled = by (rows-settled 0 program.rows (omega arith) (λ j. let s : 0 + j ≡ j = omega arith in ap (row_at program) s))
    where
      within : (v : ℕ) (f : Option Bool) → fixed_at box v ≡ f → is_fixed_to_one f ≡ true → is_chosen program.upper v ≡ true
      within v (Some true) e s = in_box.within v e
      within v (Some false) e s = absurd (let false-true : false ≡ true → ⊥ = λ x. cc in false-true s)
      within v None e s = absurd (let false-true : false ≡ true → ⊥ = λ x. cc in false-true s)

      by : IsSettled program box ⊎ AllByRecursion (Meets (point_in box)) program.rows → IsSettled program box
      by (inl s) = s
      by (inr all) = Unbroken (record { size = length-map box is_fixed_to_one ∙ in_box.size; within = λ v e. within v (fixed_at box v) refl (sym (one-at box v) ∙ e); meets = all })

-- Paths among what is fixed to 1 are no more than that.

taken-le : (n : ℕ) (f : Variable → ℕ) (vs : List Variable) (p q : List Bool) → ((k : ℕ) → is_chosen p k ≡ true → is_chosen q k ≡ true) → taken_from n f vs p ≤ taken_from n f vs q
taken-le n f [] p q h = omega arith
taken-le n f (v ∷ vs) p q h = by (is_chosen p n) (is_chosen q n) (h n) (taken-le (n + 1) f vs p q h)
  where
    by : (a b : Bool) → (a ≡ true → b ≡ true) → taken_from (n + 1) f vs p ≤ taken_from (n + 1) f vs q → count_if a (f v) + taken_from (n + 1) f vs p ≤ count_if b (f v) + taken_from (n + 1) f vs q
    by true true h ih = omega arith
    by true false h ih = absurd (let false-true : false ≡ true → ⊥ = λ x. cc in false-true (h refl))
    by false b h ih = omega arith

pub closed-better : (problem : Problem) (cutoff : Option Value) (box : List (Option Bool)) (by_cost : ℕ → ℕ → ℕ) (paths : List (List ℕ)) (point : List Bool) → IsProblem problem → IsBox (program_at problem cutoff) box →
    IsTried problem cutoff box by_cost paths → HasEdgesOf problem paths point → ((k : ℕ) → ¬ IsOpen (program_at problem cutoff) box k) → IsSolution (program_at problem cutoff) (point_in box) → IsBetter problem cutoff point
closed-better problem cutoff box by_cost paths point form in_box tried of closed solution =
    solves problem cutoff paths point form are of (λ k i. (may k i).0)
    (λ link directed s. let f = fits-link problem cutoff (point_in box) solution link directed s in let l = taken-le 0 (rate_over link) (variables_of problem) point (point_in box) among in omega (arith, ints))
    (let f = fits-cutoff problem cutoff (point_in box) solution in let l = taken-le 0 (length_of problem.objective problem) (variables_of problem) point (point_in box) among in omega (arith, ints))
  where
    are : ArePaths (variables_of problem) 0 problem.flows paths
    are = each-map (IsLeastPath problem cutoff box by_cost) (λ n flow path. IsPath (variables_of problem) n path 0 (last_of flow)) 0 problem.flows paths (λ i flow x q. q.is_path) tried.are_paths

    may : (k : ℕ) → In k (edges_of paths) → MayIn problem cutoff box k
    may k i = may-all problem cutoff box by_cost paths point form in_box tried of k i

    among : (k : ℕ) → is_chosen point k ≡ true → is_chosen (point_in box) k ≡ true
    among k e = one-at box k ∙ by (fixed_at box k) refl (may k ((marks-of problem paths point of).to k e))
      where
        by : (f : Option Bool) → fixed_at box k ≡ f → MayIn problem cutoff box k → is_fixed_to_one f ≡ true
        by (Some true) s m = refl
        by (Some false) s m = absurd (m.1 s)
        by None s m = absurd (closed k (record { exists = upper-exists (program_at problem cutoff) k m.0; free = s; may_be_one = m.0 }))

-- The same, for what tests each of what is tried.

pub closed-decided : (problem : Problem) (cutoff : Option Value) (box : List (Option Bool)) (by_cost : ℕ → ℕ → ℕ) (paths : List (List ℕ)) (point : List Bool) → IsProblem problem → IsBox (program_at problem cutoff) box →
    IsTried problem cutoff box by_cost paths → HasEdgesOf problem paths point → ((k : ℕ) → ¬ IsOpen (program_at problem cutoff) box k) →
    ((row : ℕ) (weight : ℤ) → row < length (program_at problem cutoff).rows → (weight ≡ pos 1) ⊎ (weight ≡ negsuc 0) → ¬ RefutesBox (program_at problem cutoff) box (one_weight row weight)) → IsBetter problem cutoff point
closed-decided problem cutoff box by_cost paths point form in_box tried of closed no_row_alone = by (settled (program_at problem cutoff) box in_box closed)
  where
    by : IsSettled (program_at problem cutoff) box → IsBetter problem cutoff point
    by (Broken row weight exists is r) = absurd (no_row_alone row weight exists is r)
    by (Unbroken solution) = closed-better problem cutoff box by_cost paths point form in_box tried of closed solution

pub tried-marked : (problem : Problem) (cutoff : Option Value) (box : List (Option Bool)) (by_cost : ℕ → ℕ → ℕ) (paths : List (List ℕ)) → IsTried problem cutoff box by_cost paths → HasEdgesOf problem paths (point_with (length (variables_of problem)) (edges_of paths))
tried-marked problem cutoff box by_cost paths tried =
    paths-marked problem paths (each-map (IsLeastPath problem cutoff box by_cost) (λ n flow path. IsPath (variables_of problem) n path 0 (last_of flow)) 0 problem.flows paths (λ i flow x q. q.is_path) tried.are_paths)

pub tried-neat : (problem : Problem) (cutoff : Option Value) (box : List (Option Bool)) (by_cost : ℕ → ℕ → ℕ) (paths : List (List ℕ)) (point : List Bool) → IsProblem problem → IsBox (program_at problem cutoff) box →
    IsTried problem cutoff box by_cost paths → HasEdgesOf problem paths point → IsNeat problem point
tried-neat problem cutoff box by_cost paths point form in_box tried of =
    point-neat problem paths point (each-map (IsLeastPath problem cutoff box by_cost) (λ n flow path. IsPath (variables_of problem) n path 0 (last_of flow)) 0 problem.flows paths (λ i flow x q. q.is_path) tried.are_paths) of
