-- Loads that are added up variable by variable.
use Rattle.std.proofs.Common.{◌≡◌, ◌≢◌, ℕ, suc, ◌+◌, ◌-◌, ◌*◌, ◌≤◌, ◌<◌, ◌^◌, ◌==◌, Bool, true, false, cond, List, ◌∷◌, drop, length, get_or, Option, None, Some, nat_lt, slice_get, slice_set, get_or-set_same, get_or-set_other, refl, sym, ◌∙◌, ap, subst, arith}
use Rattle.cutoff_program.specs.declared.flow.Problem.{Problem}
use Rattle.cutoff_program.specs.declared.flow.Variable.{Variable}
use Rattle.cutoff_program.specs.Flows.{variables_of, rate_over, count_if, is_on}
use Rattle.std.proofs.lemmas.List.{get_or_past}
use Rattle.std.specs.Option.{IfSome}
use Rattle.std.proofs.lemmas.Option.{slice_get_within, get_or_from_slice_get}
use Rattle.merlin_model.specs.declared.network.DirectedLink.{DirectedLink}
use Rattle.merlin_model.specs.declared.policy.Value.{Value}
use Rattle.merlin_model.specs.Programs.{Row, row_at}
use Rattle.cutoff_program.specs.Flows.{room, program_at, flow_rows_from}
use Rattle.cutoff_program.specs.Limits.{IsProblem}
use Rattle.cutoff_program.proofs.Forms.{count-rows}
use Rattle.merlin_program.proofs.Standing.{flow-count, at-link}
use Rattle.price_candidates.specs.Leaves.{capacity_of, capacity_at}
use Rattle.price_candidates.proofs.Places.{flow-of}
use Rattle.price_bound.specs.Loads.{is_loaded, sum_where, load_on}
use Rattle.price_bound.proofs.Steps.{drop-next}

-- the next variable is counted where the test holds
pub next-where : (test : ℕ → Bool) (f : Variable → ℕ) (vs : List Variable) (k : ℕ) (v : Variable) (b : Bool) → slice_get vs k ≡ Some v → test k ≡ b → sum_where test f k (drop k vs) ≡ count_if b (f v) + sum_where test f (k + 1) (drop (k + 1) vs)
next-where test f vs k v b e t =
    let next : drop k vs ≡ v ∷ drop (k + 1) vs = drop-next vs k v e ∙ ap (λ m. v ∷ drop m vs) (let s : suc k ≡ k + 1 = omega arith in s) in
    ap (sum_where test f k) next ∙ ap (λ c. count_if c (f v) + sum_where test f (k + 1) (drop (k + 1) vs)) t

-- a variable that crosses a link adds its rate there, and nothing elsewhere
pub load-set : (loads : List ℕ) (v : Variable) (l link : ℕ) → v.edge.crosses ≡ Some l → l < length loads → get_or (slice_set loads l (get_or loads l 0 + v.rate)) link 0 ≡ get_or loads link 0 + rate_over link v
load-set loads v l link e h = by (l == link) refl ∙ sym (ap (λ o. get_or loads link 0 + cond (is_on link o) v.rate 0) e)
  where
    by : (b : Bool) → (l == link) ≡ b → get_or (slice_set loads l (get_or loads l 0 + v.rate)) link 0 ≡ get_or loads link 0 + cond (l == link) v.rate 0
    by true s =
        let at : link ≡ l = grind arith in
        ap (λ i. get_or (slice_set loads l (get_or loads l 0 + v.rate)) i 0) at ∙ get_or-set_same loads l (get_or loads l 0 + v.rate) 0 h
        ∙ ap (λ i. get_or loads i 0 + v.rate) (sym at) ∙ sym (ap (λ b. get_or loads link 0 + cond b v.rate 0) s)
    by false s =
        let other : link ≢ l = grind arith in
        get_or-set_other loads l link (get_or loads l 0 + v.rate) 0 other ∙ (let z : get_or loads link 0 ≡ get_or loads link 0 + 0 = omega arith in z) ∙ sym (ap (λ b. get_or loads link 0 + cond b v.rate 0) s)

pub load-kept : (loads : List ℕ) (v : Variable) (link : ℕ) → v.edge.crosses ≡ None → get_or loads link 0 ≡ get_or loads link 0 + rate_over link v
load-kept loads v link e = (let z : get_or loads link 0 ≡ get_or loads link 0 + 0 = omega arith in z) ∙ sym (ap (λ o. get_or loads link 0 + cond (is_on link o) v.rate 0) e)

-- the link that a variable crosses is one
pub crosses-within : (problem : Problem) (k : ℕ) (v : Variable) (l : ℕ) → IsProblem problem → slice_get (variables_of problem) k ≡ Some v → v.edge.crosses ≡ Some l → l < length problem.links
crosses-within problem k v l is s e = subst (λ o. IfSome o (λ i. i < length problem.links)) e (flow-of problem k v is s).edge.crosses

-- where the row of a link stands
pub row-of-link : (problem : Problem) (rows links link : ℕ) → rows ≡ length (program_at problem None).rows → links ≡ length problem.links → link < length problem.links → rows - 1 - links + link ≡ length (flow_rows_from problem 0 problem.flows) + link
row-of-link problem rows links link r l h =
    let c = count-rows problem None in
    let f = flow-count problem (rows - 1 - links) (let e : rows - 1 - links + length problem.links + 1 ≡ length (program_at problem None).rows = omega arith in e) in
    omega arith

pub room-of-link : (problem : Problem) (cutoff : Option Value) (row link : ℕ) (directed : DirectedLink) → row ≡ length (flow_rows_from problem 0 problem.flows) + link → slice_get problem.links link ≡ Some directed → (row_at (program_at problem cutoff) row).right ≡ room problem.objective cutoff (capacity_at problem link)
room-of-link problem cutoff row link directed e s =
    ap (λ r. (row_at (program_at problem cutoff) r).right) e
    ∙ ap (λ (r : Row). r.right) (at-link problem cutoff link directed (slice_get_within problem.links link directed s))
    ∙ ap (λ (d : DirectedLink). room problem.objective cutoff d.capacity) (get_or_from_slice_get problem.links link directed directed s)
    ∙ sym (ap (λ o. room problem.objective cutoff (capacity_of o)) s)

-- the loads of the variables below a number
abbrev pub AreLoadsTo : Problem → List Bool → List (Option Bool) → ℕ → List ℕ → Type 0
AreLoadsTo problem point box k loads = record {
  size : length loads ≡ length problem.links;
  each : (link : ℕ) → link < length problem.links → get_or loads link 0 + sum_where (is_loaded point box) (rate_over link) k (drop k (variables_of problem)) ≡ load_on problem point box link;
  small : (link : ℕ) → get_or loads link 0 ≤ k * 10 ^ 9;
}

pub loads-added : (problem : Problem) (point : List Bool) (box : List (Option Bool)) (k : ℕ) (v : Variable) (old new : List ℕ) → AreLoadsTo problem point box k old → slice_get (variables_of problem) k ≡ Some v → is_loaded point box k ≡ true → v.rate ≤ 10 ^ 9 → length new ≡ length old →
    ((link : ℕ) → link < length old → get_or new link 0 ≡ get_or old link 0 + rate_over link v) → AreLoadsTo problem point box (k + 1) new
loads-added problem point box k v old new are stands taken rate size added = record {
  size = size ∙ are.size;
  each = λ link h.
      let a = added link (let s = are.size in omega arith) in
      let n = next-where (is_loaded point box) (rate_over link) (variables_of problem) k v true stands taken in
      let i = are.each link h in
      omega arith;
  small = λ link. by link (nat_lt link (length old)) refl;
}
  where
    most : (link : ℕ) (b : Bool) → cond b v.rate 0 ≤ 10 ^ 9
    most link true = rate
    most link false = omega arith

    by : (link : ℕ) (b : Bool) → nat_lt link (length old) ≡ b → get_or new link 0 ≤ (k + 1) * 10 ^ 9
    by link true e =
        let h : link < length old = grind arith in
        let a = added link h in
        let m = most link (is_on link v.edge.crosses) in
        let i = are.small link in
        let p : (k + 1) * 10 ^ 9 ≡ k * 10 ^ 9 + 10 ^ 9 = omega arith in
        omega arith
    by link false e =
        let h : length new ≤ link = grind arith in
        let z = get_or_past new link 0 h in
        omega arith

pub loads-left : (problem : Problem) (point : List Bool) (box : List (Option Bool)) (k : ℕ) (v : Variable) (loads : List ℕ) → AreLoadsTo problem point box k loads → slice_get (variables_of problem) k ≡ Some v → is_loaded point box k ≡ false → AreLoadsTo problem point box (k + 1) loads
loads-left problem point box k v loads are stands taken = record {
  size = are.size;
  each = λ link h. let n = next-where (is_loaded point box) (rate_over link) (variables_of problem) k v false stands taken in let i = are.each link h in omega arith;
  small = λ link. let i = are.small link in let p : (k + 1) * 10 ^ 9 ≡ k * 10 ^ 9 + 10 ^ 9 = omega arith in omega arith;
}
