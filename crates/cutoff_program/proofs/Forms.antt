-- The program keeps its form and its limits.
use Rattle.std.proofs.Common.{◌≡◌, ℕ, zero, suc, ◌+◌, ◌^◌, ◌≤◌, ◌<◌, ◌==◌, Bool, true, false, cond, ℤ, pos, negsuc, nat_abs, ◌≤ℤ◌, List, [], ◌∷◌, ◌++◌, length, length-append, map, Option, get_or, sum_by, refl, sym, ◌∙◌, ap, subst, arith}
use Rattle.std.proofs.lemmas.Int.{ints}
use Rattle.std.proofs.lemmas.List.{length-map}
use Rattle.std.proofs.lemmas.List.FromFn.{length-map-range_with_len}
use Rattle.std.proofs.lemmas.List.Sums.{sum_by-cons}
use Rattle.std.proofs.Math.Nat.{mul-le-mul_right}
use Rattle.std.specs.List.{AllByRecursion, range_with_len}
use Rattle.std.specs.List.Sorted.{IsStrictlyIncreasing}
use Rattle.merlin_model.specs.declared.network.DirectedLink.{DirectedLink}
use Rattle.merlin_model.specs.declared.policy.Value.{Value}
use Rattle.merlin_model.specs.Programs.{IsRow, IsProgram}
use Rattle.cutoff_program.specs.Flows.{Flow, Problem, Variable, variables_of, last_of, net_out, rate_over, length_of, room, cutoff_right, with_entry, entries_from, flow_right, flow_row, flow_rows_from, link_rows_from, cutoff_row, may_be_one, program_at}
use Rattle.cutoff_program.specs.Limits.{IsLinkWithin, IsProblem}
use Rattle.cutoff_program.proofs.Lists.{all_both, all_map, all_any, all_so}
use Rattle.cutoff_program.proofs.Rooms.{room-most, room-low, right-most, right-low}
use Rattle.cutoff_program.proofs.Sums.{sum-bound}
use Rattle.cutoff_program.proofs.Variables.{over-small, lengths-small}
use Rattle.cutoff_program.proofs.Solutions.{total_of}

-- Entries.

pub record AreEntries (low top : ℕ) (entries : List (ℕ × ℤ)) : Type 0 where
  pub ascend : IsStrictlyIncreasing (map (λ e. e.0) entries)
  pub above : AllByRecursion (λ e. low ≤ e.0) entries
  pub exist : AllByRecursion (λ e. e.0 < top) entries
  pub small : AllByRecursion (λ e. nat_abs e.1 ≤ 10 ^ 9) entries

ascend-more : (n : ℕ) (z : ℤ) (entries : List (ℕ × ℤ)) → AllByRecursion (λ e. n + 1 ≤ e.0) entries → IsStrictlyIncreasing (map (λ e. e.0) entries) → IsStrictlyIncreasing (map (λ e. e.0) ((n, z) ∷ entries))
ascend-more n z [] above h k small = let bad : ⊥ = omega arith in absurd bad
ascend-more n z (e ∷ es) above h zero small = let a = above.0 in omega arith
ascend-more n z (e ∷ es) above h (suc k) small =
    let at : suc k + 1 ≡ suc (k + 1) = omega arith in
    let l : k + 1 < length (map (λ (e : ℕ × ℤ). e.0) (e ∷ es)) = omega arith in
    subst (λ i. get_or (map (λ (e : ℕ × ℤ). e.0) (e ∷ es)) k 0 < get_or (n ∷ map (λ (e : ℕ × ℤ). e.0) (e ∷ es)) i 0) (sym at) (h k l)

entry-more : (n top : ℕ) (z : ℤ) (entries : List (ℕ × ℤ)) → n < top → nat_abs z ≤ 10 ^ 9 → AreEntries (n + 1) top entries → AreEntries n top (with_entry n z entries)
entry-more n top z entries h s a = by z s
  where
    above : AllByRecursion (λ e. n ≤ e.0) entries
    above = all_so (λ (e : ℕ × ℤ). n + 1 ≤ e.0) (λ e. n ≤ e.0) entries (λ e x. omega arith) a.above

    by : (z : ℤ) → nat_abs z ≤ 10 ^ 9 → AreEntries n top (with_entry n z entries)
    by (pos zero) s = record { ascend = a.ascend; above = above; exist = a.exist; small = a.small }
    by (pos (suc m)) s = record { ascend = ascend-more n (pos (suc m)) entries a.above a.ascend; above = (omega arith, above); exist = (h, a.exist); small = (s, a.small) }
    by (negsuc m) s = record { ascend = ascend-more n (negsuc m) entries a.above a.ascend; above = (omega arith, above); exist = (h, a.exist); small = (s, a.small) }

entries-are : (n : ℕ) (f : Variable → ℤ) (vs : List Variable) → AllByRecursion (λ v. nat_abs (f v) ≤ 10 ^ 9) vs → AreEntries n (n + length vs) (entries_from n f vs)
entries-are n f [] all = record { ascend = λ k h. let bad : ⊥ = omega arith in absurd bad; above = tt; exist = tt; small = tt }
entries-are n f (v ∷ vs) all =
    let e : n + 1 + length vs ≡ n + suc (length vs) = omega arith in
    entry-more n (n + suc (length vs)) (f v) (entries_from (n + 1) f vs) (omega arith) all.0 (subst (λ top. AreEntries (n + 1) top (entries_from (n + 1) f vs)) e (entries-are (n + 1) f vs all.1))

pub row-is : (problem : Problem) (cutoff : Option Value) (f : Variable → ℤ) (is_equality : Bool) (right : ℤ) → AllByRecursion (λ v. nat_abs (f v) ≤ 10 ^ 9) (variables_of problem) → nat_abs right ≤ 2 ^ 45 →
    IsRow (program_at problem cutoff) (record { entries = entries_from 0 f (variables_of problem); is_equality = is_equality; right = right })
row-is problem cutoff f is_equality right all small =
    let a = entries-are 0 f (variables_of problem) all in
    record {
      ascend = a.ascend;
      exist = subst (λ top. AllByRecursion (λ (e : ℕ × ℤ). e.0 < top) (entries_from 0 f (variables_of problem))) (plain (length (variables_of problem)) ∙ sym (length-map (variables_of problem) (may_be_one problem cutoff))) a.exist;
      small = a.small;
      small_right = small;
    }
  where
    plain : (n : ℕ) → 0 + n ≡ n
    plain n = omega arith

-- Numbers.

leaves-small : (n u : ℕ) (v : Variable) → nat_abs (net_out n u v) ≤ 10 ^ 9
leaves-small n u v = by (v.flow == n) (v.edge.from == u) (v.edge.to == u)
  where
    by : (a b c : Bool) → nat_abs (cond a (cond b (pos 1) (cond c (negsuc 0) (pos 0))) (pos 0)) ≤ 10 ^ 9
    by true true c = omega arith
    by true false true = omega arith
    by true false false = omega arith
    by false b c = omega arith

flow_right-small : (flow : Flow) (u : ℕ) → nat_abs (flow_right flow u) ≤ 2 ^ 45
flow_right-small flow u = by (u == 0) (u == last_of flow)
  where
    by : (a b : Bool) → nat_abs (cond a (pos 1) (cond b (negsuc 0) (pos 0))) ≤ 2 ^ 45
    by true b = omega arith
    by false true = omega arith
    by false false = omega arith

abs-most : (m : ℕ) (z : ℤ) → negsuc 0 ≤ℤ z → z ≤ℤ pos m → nat_abs z ≤ m + 1
abs-most m (pos n) h g = let e : n ≤ m = omega (arith, ints) in omega arith
abs-most m (negsuc n) h g = let e : n ≤ 0 = omega (arith, ints) in omega arith

pub total-small : (problem : Problem) → IsProblem problem → total_of problem + 1 ≤ 2 ^ 45
total-small problem is =
    let s = sum-bound (length_of problem.objective problem) (10 ^ 9) (variables_of problem)
    (lengths-small problem.objective problem is) in
    let few = mul-le-mul_right (10 ^ 9) is.few_variables in
    omega arith

-- Rows.

flows-are : (problem : Problem) (cutoff : Option Value) (n : ℕ) (flows : List Flow) → AllByRecursion (IsRow (program_at problem cutoff)) (flow_rows_from problem n flows)
flows-are problem cutoff n [] = tt
flows-are problem cutoff n (flow ∷ flows) =
    all_both (IsRow (program_at problem cutoff)) (map (flow_row problem n flow) (range_with_len 0 (last_of flow + 1))) (flow_rows_from problem (n + 1) flows)
    (all_map (IsRow (program_at problem cutoff)) (flow_row problem n flow) (range_with_len 0 (last_of flow + 1))
    (all_any (λ u. IsRow (program_at problem cutoff) (flow_row problem n flow u)) (range_with_len 0 (last_of flow + 1))
    (λ u. row-is problem cutoff (net_out n u) true (flow_right flow u) (all_any (λ v. nat_abs (net_out n u v) ≤ 10 ^ 9) (variables_of problem) (leaves-small n u)) (flow_right-small flow u))))
    (flows-are problem cutoff (n + 1) flows)

links-are : (problem : Problem) (cutoff : Option Value) → IsProblem problem → (n : ℕ) (links : List DirectedLink) → AllByRecursion IsLinkWithin links → AllByRecursion (IsRow (program_at problem cutoff)) (link_rows_from problem cutoff n links)
links-are problem cutoff is n [] all = tt
links-are problem cutoff is n (directed ∷ links) all = (
  row-is problem cutoff (λ v. pos (rate_over n v)) false (room problem.objective cutoff directed.capacity)
      (over-small problem n is)
      (let a = abs-most directed.capacity (room problem.objective cutoff directed.capacity) (room-low problem.objective cutoff directed.capacity) (room-most problem.objective cutoff directed.capacity) in let s = all.0.small in omega arith),
  links-are problem cutoff is (n + 1) links all.1,
)

count-flows : (problem : Problem) (n : ℕ) (flows : List Flow) → length (flow_rows_from problem n flows) ≡ sum_by (λ flow. last_of flow + 1) flows
count-flows problem n [] = refl
count-flows problem n (flow ∷ flows) =
    let a = length-append (map (flow_row problem n flow) (range_with_len 0 (last_of flow + 1))) (flow_rows_from problem (n + 1) flows) in
    let b = length-map-range_with_len (flow_row problem n flow) 0 (last_of flow + 1) in
    let c = count-flows problem (n + 1) flows in
    let d = sum_by-cons (λ flow. last_of flow + 1) flow flows in
    chain _ _ _ _ _ _ a b c d
  where
    chain : (l x y s t w : ℕ) → l ≡ x + y → x ≡ s → y ≡ t → w ≡ s + t → l ≡ w
    chain l x y s t w a b c d = omega arith

pub count-links : (problem : Problem) (cutoff : Option Value) (n : ℕ) (links : List DirectedLink) → length (link_rows_from problem cutoff n links) ≡ length links
count-links problem cutoff n [] = refl
count-links problem cutoff n (directed ∷ links) = ap suc (count-links problem cutoff (n + 1) links)

pub count-rows : (problem : Problem) (cutoff : Option Value) → length (program_at problem cutoff).rows ≡ sum_by (λ flow. last_of flow + 1) problem.flows + length problem.links + 1
count-rows problem cutoff =
    let a = length-append (flow_rows_from problem 0 problem.flows) (link_rows_from problem cutoff 0 problem.links ++ cutoff_row problem cutoff ∷ []) in
    let b = length-append (link_rows_from problem cutoff 0 problem.links) (cutoff_row problem cutoff ∷ []) in
    chain _ _ _ _ _ _ a b (count-flows problem 0 problem.flows) (count-links problem cutoff 0 problem.links)
  where
    chain : (l x y z s t : ℕ) → l ≡ x + y → y ≡ z + 1 → x ≡ s → z ≡ t → l ≡ s + t + 1
    chain l x y z s t a b c d = omega arith

pub is_program : (problem : Problem) (cutoff : Option Value) → IsProblem problem → IsProgram (program_at problem cutoff)
is_program problem cutoff is = record {
  few_variables = let l = length-map (variables_of problem) (may_be_one problem cutoff) in let f = is.few_variables in omega arith;
  few_rows = let c = count-rows problem cutoff in let f = is.few_rows in omega arith;
  rows = all_both (IsRow (program_at problem cutoff)) (flow_rows_from problem 0 problem.flows) (link_rows_from problem cutoff 0 problem.links ++ cutoff_row problem cutoff ∷ []) (flows-are problem cutoff 0 problem.flows)
      (all_both (IsRow (program_at problem cutoff)) (link_rows_from problem cutoff 0 problem.links) (cutoff_row problem cutoff ∷ []) (links-are problem cutoff is 0 problem.links is.links) (
        row-is problem cutoff (λ v. pos (length_of problem.objective problem v)) false (cutoff_right cutoff (total_of problem))
            (lengths-small problem.objective problem is)
            (let a = abs-most (total_of problem) (cutoff_right cutoff (total_of problem)) (right-low cutoff (total_of problem)) (right-most cutoff (total_of problem)) in let s = total-small problem is in omega arith),
        tt,
      ));
}
