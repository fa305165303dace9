-- The least value of a leaf over a box, flow by flow.
use Rattle.std.proofs.Common.{◌≡◌, ◌≢◌, ℕ, zero, suc, ◌+◌, ◌<◌, ◌==◌, Bool, true, false, ℤ, pos, ◌+ℤ◌, ◌≤ℤ◌, List, [], ◌∷◌, map, length, Option, None, Some, slice_get, get_or, refl, ◌∙◌, ap, arith}
use Rattle.std.proofs.lemmas.Int.{ints, clamps}
use Rattle.std.proofs.lemmas.List.{length-map}
use Rattle.std.specs.List.{range_with_len}
use Rattle.merlin_model.specs.declared.policy.Value.{Value}
use Rattle.merlin_model.specs.declared.certificate.Weight.{Weight}
use Rattle.merlin_model.specs.Programs.{is_chosen, total, coefficient_if}
use Rattle.merlin_model.specs.Trees.{fixed_at, weighted_coefficient, least_addition, least_value}
use Rattle.merlin_model.proofs.Sums.{total-add, total-zero, total-inside}
use Rattle.cutoff_program.specs.declared.flow.Problem.{Problem}
use Rattle.cutoff_program.specs.declared.flow.Flow.{Flow}
use Rattle.cutoff_program.specs.declared.flow.Variable.{Variable}
use Rattle.cutoff_program.specs.Flows.{variables_of, program_at, last_of, may_be_one}
use Rattle.cutoff_program.specs.Flows.{rate_over}
use Rattle.cutoff_program.specs.Easy.{rate_if_fixed, fixed_from}
use Rattle.price_candidates.specs.Leaves.{amounts_from}
use Rattle.price_candidates.proofs.Places.{some_some, none_some}
use Rattle.price_candidates.proofs.Columns.{ends_from}

-- sums over variables with their numbers
abbrev pub sum_from : ℕ → (ℕ → Variable → ℤ) → List Variable → ℤ
sum_from k f [] = pos 0
sum_from k f (v ∷ vs) = f k v +ℤ sum_from (k + 1) f vs

pub range-sum : (g : ℕ → ℤ) (f : ℕ → Variable → ℤ) (k : ℕ) (vs : List Variable) → ((i j : ℕ) (v : Variable) → i ≡ k + j → slice_get vs j ≡ Some v → g i ≡ f i v) → total (map g (range_with_len k (length vs))) ≡ sum_from k f vs
range-sum g f k [] h = refl
range-sum g f k (v ∷ vs) h =
    let here : g k ≡ f k v = h k 0 v (omega arith) refl in
    let rest = range-sum g f (k + 1) vs (λ i j v e s. h i (suc j) v (omega arith) s) in
    omega (arith, ints)

pub sum_from-nonneg : (f : ℕ → Variable → ℤ) (k : ℕ) (vs : List Variable) → ((i j : ℕ) (v : Variable) → i ≡ k + j → slice_get vs j ≡ Some v → pos 0 ≤ℤ f i v) → pos 0 ≤ℤ sum_from k f vs
sum_from-nonneg f k [] h = omega (arith, ints)
sum_from-nonneg f k (v ∷ vs) h =
    let here = h k 0 v (omega arith) refl in
    let rest = sum_from-nonneg f (k + 1) vs (λ i j v e s. h i (suc j) v (omega arith) s) in
    omega (arith, ints)

-- the sum is the sum of its parts by flow
pub exchange : (m : ℕ) (f : ℕ → Variable → ℤ) (k : ℕ) (vs : List Variable) → ((j : ℕ) (v : Variable) → slice_get vs j ≡ Some v → v.flow < m) →
    total (map (λ n. sum_from k (λ i v. coefficient_if (v.flow == n) (f i v)) vs) (range_with_len 0 m)) ≡ sum_from k f vs
exchange m f k [] h = total-zero (λ n. pos 0) (range_with_len 0 m) (λ n. refl)
exchange m f k (v ∷ vs) h =
    let sum = total-add (λ n. coefficient_if (v.flow == n) (f k v)) (λ n. sum_from (k + 1) (λ i v. coefficient_if (v.flow == n) (f i v)) vs) (range_with_len 0 m) in
    let here = total-inside (λ u. true) v.flow (f k v) 0 m (omega arith) (let l = h 0 v refl in omega arith) in
    let rest = exchange m f (k + 1) vs (λ j v s. h (suc j) v s) in
    omega (arith, ints)

pub sum-parts : (part : ℕ → ℤ) (y : ℕ → ℕ → ℕ) (amount : ℕ → Flow → ℕ) (n : ℕ) (flows : List Flow) →
    ((i j : ℕ) (flow : Flow) → i ≡ n + j → slice_get flows j ≡ Some flow → pos (amount i flow) ≤ℤ (part i +ℤ pos (y i (last_of flow)))) →
    pos (amounts_from amount n flows) ≤ℤ (total (map part (range_with_len n (length flows))) +ℤ pos (ends_from y n flows))
sum-parts part y amount n [] h = omega (arith, ints)
sum-parts part y amount n (flow ∷ flows) h =
    let here = h n 0 flow (omega arith) refl in
    let rest = sum-parts part y amount (n + 1) flows (λ i j flow e s. h i (suc j) flow (omega arith) s) in
    omega (arith, ints)

-- What a variable adds.

abbrev pub adds : Problem → Option Value → List (Option Bool) → List Weight → ℕ → Variable → ℤ
adds problem cutoff box weights k v = least_addition (fixed_at box k) (may_be_one problem cutoff v) (weighted_coefficient (program_at problem cutoff) weights k)

mapped-at : (f : Variable → Bool) (vs : List Variable) (j : ℕ) (v : Variable) → slice_get vs j ≡ Some v → get_or (map f vs) j false ≡ f v
mapped-at f [] j v e = absurd (none_some e)
mapped-at f (w ∷ vs) zero v e = ap f (some_some e)
mapped-at f (w ∷ vs) (suc j) v e = mapped-at f vs j v e

pub upper-at : (problem : Problem) (cutoff : Option Value) (k : ℕ) (v : Variable) → slice_get (variables_of problem) k ≡ Some v → is_chosen (program_at problem cutoff).upper k ≡ may_be_one problem cutoff v
upper-at problem cutoff k v e = mapped-at (may_be_one problem cutoff) (variables_of problem) k v e

pub least-by-variable : (problem : Problem) (cutoff : Option Value) (box : List (Option Bool)) (weights : List Weight) →
    least_value (program_at problem cutoff) box weights ≡ sum_from 0 (adds problem cutoff box weights) (variables_of problem)
least-by-variable problem cutoff box weights =
    ap (λ m. total (map (λ v. least_addition (fixed_at box v) (is_chosen (program_at problem cutoff).upper v) (weighted_coefficient (program_at problem cutoff) weights v)) (range_with_len 0 m))) (length-map (variables_of problem) (may_be_one problem cutoff))
    ∙ range-sum (λ v. least_addition (fixed_at box v) (is_chosen (program_at problem cutoff).upper v) (weighted_coefficient (program_at problem cutoff) weights v)) (adds problem cutoff box weights) 0 (variables_of problem)
    (λ i j v e s. ap (λ b. least_addition (fixed_at box i) b (weighted_coefficient (program_at problem cutoff) weights i)) (upper-at problem cutoff i v (let at : i ≡ j = omega arith in ap (slice_get (variables_of problem)) at ∙ s)))

pub adds-nonneg : (fixed : Option Bool) (upper : Bool) (c : ℤ) → (upper ≡ true → fixed ≢ Some false → pos 0 ≤ℤ c) → (fixed ≡ Some true → upper ≡ true) → pos 0 ≤ℤ least_addition fixed upper c
adds-nonneg (Some true) upper c h w = h (w refl) (λ e. cc)
adds-nonneg (Some false) upper c h w = omega (arith, ints)
adds-nonneg None true c h w = let p : pos 0 ≤ℤ c = h refl (λ e. cc) in omega (arith, ints, clamps)
adds-nonneg None false c h w = omega (arith, ints)

taken-nonneg : (b : Bool) (z : ℤ) → (b ≡ true → pos 0 ≤ℤ z) → pos 0 ≤ℤ coefficient_if b z
taken-nonneg true z h = h refl
taken-nonneg false z h = omega (arith, ints)

pub part-nonneg : (n : ℕ) (f : ℕ → Variable → ℤ) (vs : List Variable) → ((k : ℕ) (v : Variable) → slice_get vs k ≡ Some v → v.flow ≡ n → pos 0 ≤ℤ f k v) → pos 0 ≤ℤ sum_from 0 (λ i v. coefficient_if (v.flow == n) (f i v)) vs
part-nonneg n f vs h = sum_from-nonneg (λ i v. coefficient_if (v.flow == n) (f i v)) 0 vs
    (λ i j v e s. taken-nonneg (v.flow == n) (f i v) (λ b. h i v (let at : i ≡ j = omega arith in ap (slice_get vs) at ∙ s) (grind arith)))

-- what is fixed is added, where a variable's coefficient is its term
pub part-fixed : (problem : Problem) (cutoff : Option Value) (box : List (Option Bool)) (weights : List Weight) (n link k : ℕ) (vs : List Variable) →
    ((i j : ℕ) (v : Variable) → i ≡ k + j → slice_get vs j ≡ Some v → v.flow ≡ n → weighted_coefficient (program_at problem cutoff) weights i ≡ pos (rate_over link v)) →
    pos (fixed_from problem cutoff box n link k vs) ≤ℤ sum_from k (λ i v. coefficient_if (v.flow == n) (adds problem cutoff box weights i v)) vs
part-fixed problem cutoff box weights n link k [] h = omega (arith, ints)
part-fixed problem cutoff box weights n link k (v ∷ vs) h =
    by (fixed_at box k) (v.flow == n) (may_be_one problem cutoff v) (λ e. h k 0 v (omega arith) refl (grind arith))
    (part-fixed problem cutoff box weights n link (k + 1) vs (λ i j w e s. h i (suc j) w (omega arith) s))
  where
    f : ℕ
    f = fixed_from problem cutoff box n link (k + 1) vs

    c : ℤ
    c = weighted_coefficient (program_at problem cutoff) weights k

    by : (fixed : Option Bool) (b upper : Bool) → (b ≡ true → c ≡ pos (rate_over link v)) → {t : ℤ} → pos f ≤ℤ t →
        pos (rate_if_fixed fixed b (rate_over link v) + f) ≤ℤ (coefficient_if b (least_addition fixed upper c) +ℤ t)
    by None true true e h = let p = e refl in omega (arith, ints, clamps)
    by None true false e h = omega (arith, ints)
    by None false upper e h = omega (arith, ints)
    by (Some true) true upper e h = let p = e refl in omega (arith, ints)
    by (Some true) false upper e h = omega (arith, ints)
    by (Some false) true upper e h = omega (arith, ints)
    by (Some false) false upper e h = omega (arith, ints)
