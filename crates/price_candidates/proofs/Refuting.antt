-- Leaves that are made from numbers at vertices refute.
use Rattle.std.proofs.Common.{◌≡◌, ◌≢◌, ℕ, ◌+◌, ◌≤◌, ◌<◌, ◌^◌, ◌==◌, inl, inr, Bool, true, false, ℤ, pos, ◌+ℤ◌, ◌≤ℤ◌, ◌<ℤ◌, List, [], ◌∷◌, ◌++◌, map, length, Option, Some, slice_get, sym, ◌∙◌, ap, arith}
use Rattle.std.proofs.lemmas.Int.{ints}
use Rattle.std.proofs.lemmas.Option.{slice_get_within}
use Rattle.std.specs.List.{AllByRecursion, range_with_len}
use Rattle.merlin_model.specs.declared.network.DirectedLink.{DirectedLink}
use Rattle.merlin_model.specs.declared.policy.Value.{Value}
use Rattle.merlin_model.specs.declared.certificate.Weight.{Weight}
use Rattle.merlin_model.specs.Programs.{coefficient_if, is_chosen}
use Rattle.merlin_model.specs.Trees.{fixed_at, weighted_coefficient, weighted_right, least_value, RefutesBox, IsBox}
use Rattle.cutoff_program.specs.declared.flow.Problem.{Problem}
use Rattle.cutoff_program.specs.declared.flow.Flow.{Flow}
use Rattle.cutoff_program.specs.declared.flow.Variable.{Variable}
use Rattle.cutoff_program.specs.Flows.{variables_of, program_at, last_of, may_be_one, count_if, is_on}
use Rattle.cutoff_program.specs.Flows.{rate_over}
use Rattle.cutoff_program.specs.Limits.{IsProblem}
use Rattle.price_candidates.specs.Leaves.{Pricing, IsPriced, flow_weights, link_weights, row_weights, leaf_from, price_of, priced_right, link_of, prices_lengths, Adds, amounts_from, AreSmallNumbers}
use Rattle.price_candidates.proofs.Places.{flow-of}
use Rattle.price_candidates.proofs.Dots.{ascends, exist, small, signs}
use Rattle.price_candidates.proofs.Columns.{column, rights, row-size}
use Rattle.price_candidates.proofs.Parts.{sum_from, exchange, sum-parts, adds, upper-at, least-by-variable, adds-nonneg, part-nonneg, part-fixed}

pub all-append : {X : Type 0} (P : X → Type 0) (xs ys : List X) → AllByRecursion P xs → AllByRecursion P ys → AllByRecursion P (xs ++ ys)
all-append P [] ys a b = b
all-append P (x ∷ xs) ys a b = (a.0, all-append P xs ys a.1 b)

small-map : (f : ℕ → ℕ) (us : List ℕ) → ((u : ℕ) → f u ≤ 2 ^ 60) → AllByRecursion (λ m. m ≤ 2 ^ 60) (map f us)
small-map f [] h = tt
small-map f (u ∷ us) h = (h u, small-map f us h)

small-flows : (y : ℕ → ℕ → ℕ) (n : ℕ) (flows : List Flow) → ((n u : ℕ) → y n u ≤ 2 ^ 60) → AllByRecursion (λ m. m ≤ 2 ^ 60) (flow_weights y n flows)
small-flows y n [] h = tt
small-flows y n (flow ∷ flows) h =
    all-append (λ m. m ≤ 2 ^ 60) (map (λ u. y n u) (range_with_len 0 (last_of flow + 1))) (flow_weights y (n + 1) flows)
    (small-map (λ u. y n u) (range_with_len 0 (last_of flow + 1)) (h n)) (small-flows y (n + 1) flows h)

small-count : (b : Bool) → count_if b 1 ≤ 2 ^ 60
small-count true = omega arith
small-count false = omega arith

small-links : (link : Option ℕ) (n : ℕ) (links : List DirectedLink) → AllByRecursion (λ m. m ≤ 2 ^ 60) (link_weights link n links)
small-links link n [] = tt
small-links link n (directed ∷ links) = (small-count (is_on n link), small-links link (n + 1) links)

small-rows : (problem : Problem) (y : ℕ → ℕ → ℕ) (pricing : Pricing) → ((n u : ℕ) → y n u ≤ 2 ^ 60) → AllByRecursion (λ m. m ≤ 2 ^ 60) (row_weights problem y pricing)
small-rows problem y pricing h =
    all-append (λ m. m ≤ 2 ^ 60) (flow_weights y 0 problem.flows) (link_weights (link_of pricing) 0 problem.links ++ count_if (prices_lengths pricing) 1 ∷ []) (small-flows y 0 problem.flows h)
    (all-append (λ m. m ≤ 2 ^ 60) (link_weights (link_of pricing) 0 problem.links) (count_if (prices_lengths pricing) 1 ∷ []) (small-links (link_of pricing) 0 problem.links) (small-count (prices_lengths pricing), tt))

pub refutes : (problem : Problem) (cutoff : Option Value) (box : List (Option Bool)) (y : ℕ → ℕ → ℕ) (pricing : Pricing) (amount : ℕ → Flow → ℕ) →
    IsProblem problem → IsPriced problem pricing → IsBox (program_at problem cutoff) box → AreSmallNumbers y →
    ((n : ℕ) (flow : Flow) → slice_get problem.flows n ≡ Some flow → Adds problem cutoff box pricing y amount n flow) → priced_right problem cutoff pricing <ℤ pos (amounts_from amount 0 problem.flows) →
    RefutesBox (program_at problem cutoff) box (leaf_from problem y pricing)
refutes problem cutoff box y pricing amount is priced in_box range each over = record {
  ascend = ascends 0 (row_weights problem y pricing);
  exist = exist (length (program_at problem cutoff).rows) 0 (row_weights problem y pricing) (let s = row-size problem cutoff y pricing in omega arith);
  small = small 0 (row_weights problem y pricing) (small-rows problem y pricing range.low);
  signs = signs (program_at problem cutoff).rows 0 (row_weights problem y pricing);
  exceeds = exceeds;
}
  where
    weights : List Weight
    weights = leaf_from problem y pricing

    add : ℕ → Variable → ℤ
    add k v = adds problem cutoff box weights k v

    part : ℕ → ℤ
    part n = sum_from 0 (λ i v. coefficient_if (v.flow == n) (add i v)) (variables_of problem)

    bound : (j : ℕ) (v : Variable) → slice_get (variables_of problem) j ≡ Some v → v.flow < length problem.flows
    bound j v e = let f = flow-of problem j v is e in let s = f.is in let l = slice_get_within problem.flows f.j f.flow f.stands in omega arith

    fits : (k : ℕ) (v : Variable) → slice_get (variables_of problem) k ≡ Some v → fixed_at box k ≡ Some true → may_be_one problem cutoff v ≡ true
    fits k v e f = sym (upper-at problem cutoff k v e) ∙ in_box.within k f

    by : (n : ℕ) (flow : Flow) → Adds problem cutoff box pricing y amount n flow → pos (amount n flow) ≤ℤ (part n +ℤ pos (y n (last_of flow)))
    by n flow (inl p) =
        let low_part : pos 0 ≤ℤ part n = part-nonneg n add (variables_of problem) (λ k v e f. adds-nonneg (fixed_at box k) (may_be_one problem cutoff v) (weighted_coefficient (program_at problem cutoff) weights k) (λ up free. nonneg k v e f (upper-at problem cutoff k v e ∙ up) free) (fits k v e)) in
        let c = p.covers in
        omega (arith, ints)
      where
        nonneg : (k : ℕ) (v : Variable) → slice_get (variables_of problem) k ≡ Some v → v.flow ≡ n → is_chosen (program_at problem cutoff).upper k ≡ true → fixed_at box k ≢ Some false → pos 0 ≤ℤ weighted_coefficient (program_at problem cutoff) weights k
        nonneg k v e f up free =
            let c = column problem cutoff y pricing k v is priced e in
            let r = p.potential.rises k v e f (up, free) in
            let a = ap (λ m. y m v.edge.from) f in
            let b = ap (λ m. y m v.edge.to) f in
            omega (arith, ints)
    by n flow (inr p) =
        let f = part-fixed problem cutoff box weights n p.link 0 (variables_of problem) (λ i j v e s g. coefficient i j v e s g) in
        let c = p.covers in
        let z = p.zero_at (last_of flow) in
        omega (arith, ints)
      where
        coefficient : (i j : ℕ) (v : Variable) → i ≡ 0 + j → slice_get (variables_of problem) j ≡ Some v → v.flow ≡ n → weighted_coefficient (program_at problem cutoff) weights i ≡ pos (rate_over p.link v)
        coefficient i j v e s g =
            let at : i ≡ j = omega arith in
            let c = column problem cutoff y pricing i v is priced (ap (slice_get (variables_of problem)) at ∙ s) in
            let a = ap (λ m. y m v.edge.from) g ∙ p.zero_at v.edge.from in
            let b = ap (λ m. y m v.edge.to) g ∙ p.zero_at v.edge.to in
            let q = ap (λ r. price_of problem r v) p.priced in
            omega (arith, ints)

    exceeds : weighted_right (program_at problem cutoff) weights <ℤ least_value (program_at problem cutoff) box weights
    exceeds =
        let r = rights problem cutoff y pricing priced range.start in
        let l = least-by-variable problem cutoff box weights in
        let x = exchange (length problem.flows) add 0 (variables_of problem) bound in
        let s = sum-parts part y amount 0 problem.flows (λ i j flow e s. by i flow (each i flow (let at : i ≡ j = omega arith in ap (slice_get problem.flows) at ∙ s))) in
        omega (arith, ints)
