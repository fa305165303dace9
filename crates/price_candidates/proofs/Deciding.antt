-- Boxes that are plainly closed are refuted by what is tried.
use Rattle.std.proofs.Common.{◌≡◌, ℕ, zero, suc, ◌+◌, ◌≤◌, ◌<◌, ◌^◌, ◌==◌, max, inl, inr, Bool, true, false, cond, pos, ◌<ℤ◌, List, [], ◌∷◌, length, Option, None, Some, slice_get, sum, refl, sym, ◌∙◌, ap, arith}
use Rattle.std.proofs.lemmas.Int.{ints, clamps}
use Rattle.std.proofs.lemmas.Option.{slice_get_within}
use Rattle.std.proofs.lemmas.List.Sums.{sum_by-cons}
use Rattle.merlin_model.specs.declared.policy.Value.{Value}
use Rattle.merlin_model.specs.Trees.{RefutesBox, IsBox}
use Rattle.cutoff_program.specs.declared.flow.Problem.{Problem}
use Rattle.cutoff_program.specs.declared.flow.Flow.{Flow}
use Rattle.cutoff_program.specs.declared.flow.Variable.{Variable}
use Rattle.cutoff_program.specs.Flows.{variables_of, program_at, last_of, room, length_of, count_if}
use Rattle.cutoff_program.specs.Easy.{MayIn, fixed_from, EachFlowHas, IsFloor, IsOverloaded}
use Rattle.cutoff_program.specs.Limits.{IsProblem}
use Rattle.price_candidates.specs.Leaves.{capacity_of, Bare, Lengths, OnLink, leaf_from, priced_right, IsPotential, Adds, AreSmallNumbers, amounts_from}
use Rattle.price_candidates.specs.Tried.{IsUnreached, IsFloorAt, IsTriedOn, IsNoLess, IsLight, only}
use Rattle.price_candidates.proofs.Places.{some_some}
use Rattle.price_candidates.proofs.Refuting.{refutes}

pub each-at : (Q : ℕ → Flow → ℕ → Type 0) (n : ℕ) (flows : List Flow) (xs : List ℕ) (amount : ℕ → Flow → ℕ) → EachFlowHas Q n flows xs → ((i j : ℕ) (flow : Flow) (x : ℕ) → i ≡ n + j → slice_get flows j ≡ Some flow → Q i flow x → x ≤ amount i flow) →
    sum xs ≤ amounts_from amount n flows
each-at Q n [] [] amount each h = omega arith
each-at Q n [] (x ∷ xs) amount each h = absurd each
each-at Q n (flow ∷ flows) [] amount each h = absurd each
each-at Q n (flow ∷ flows) (x ∷ xs) amount each h =
    let here = h n 0 flow x (omega arith) refl each.0 in
    let rest = each-at Q (n + 1) flows xs amount each.1 (λ i j flow x e s q. h i (suc j) flow x (omega arith) s q) in
    let s = sum_by-cons (λ x. x) x xs in
    omega arith

some-amount : (amount : ℕ → Flow → ℕ) (n j : ℕ) (flows : List Flow) (flow : Flow) → slice_get flows j ≡ Some flow → amount (n + j) flow ≤ amounts_from amount n flows
some-amount amount n j [] flow e = absurd (let none_some : None ≡ Some flow → ⊥ = λ x. cc in none_some e)
some-amount amount n zero (f ∷ flows) flow e = let at : n + 0 ≡ n = omega arith in let s = ap (λ i. amount i flow) at in let t = ap (amount n) (some_some e) in omega arith
some-amount amount n (suc j) (f ∷ flows) flow e =
    let ih = some-amount amount (n + 1) j flows flow e in
    let at : n + suc j ≡ n + 1 + j = omega arith in
    let s = ap (λ i. amount i flow) at in
    omega arith

-- A flow without a permitted path.
pub cut-refutes : (problem : Problem) (cutoff : Option Value) (box : List (Option Bool)) (n : ℕ) (flow : Flow) (at : ℕ → ℕ) → IsProblem problem → IsBox (program_at problem cutoff) box → slice_get problem.flows n ≡ Some flow →
    IsUnreached problem cutoff box n flow at → RefutesBox (program_at problem cutoff) box (leaf_from problem (only n at) Bare)
cut-refutes problem cutoff box n flow at is in_box stands unreached =
    refutes problem cutoff box (only n at) Bare (λ m g. count_if (m == n) 1) is tt in_box
    (record { start = λ m. start m (m == n); low = λ m u. low m u (m == n) })
    (λ m g e. inl (record { potential = record { start = start m (m == n); rises = λ k v s f may. rises m k v s f may (m == n) refl }; covers = covers m g e (m == n) refl }))
    (let some = some-amount (λ m g. count_if (m == n) 1) 0 n problem.flows flow stands in
    let one = itself ((0 + n) == n) refl in
    omega (arith, ints))
  where
    start : (m : ℕ) (b : Bool) → cond b (at 0) 0 ≡ 0
    start m true = unreached.potential.start
    start m false = refl

    low : (m u : ℕ) (b : Bool) → cond b (at u) 0 ≤ 2 ^ 60
    low m u true = let l = unreached.low u in omega arith
    low m u false = omega arith

    itself : (b : Bool) → ((0 + n) == n) ≡ b → count_if b 1 ≡ 1
    itself true e = refl
    itself false e = let bad : ⊥ = grind arith in absurd bad

    rises : (m k : ℕ) (v : Variable) → slice_get (variables_of problem) k ≡ Some v → v.flow ≡ m → MayIn problem cutoff box k → (b : Bool) → (m == n) ≡ b → cond b (at v.edge.to) 0 ≤ cond b (at v.edge.from) 0 + 0
    rises m k v s f may true e = unreached.potential.rises k v s (let same : m ≡ n = grind arith in f ∙ same) may
    rises m k v s f may false e = omega arith

    covers : (m : ℕ) (g : Flow) → slice_get problem.flows m ≡ Some g → (b : Bool) → (m == n) ≡ b → count_if b 1 ≤ cond b (at (last_of g)) 0
    covers m g s true e =
        let same : m ≡ n = grind arith in
        let is_flow : g ≡ flow = some_some (sym s ∙ ap (slice_get problem.flows) same ∙ stands) in
        let l = unreached.last in
        let a = ap (λ x. at (last_of x)) is_flow in
        omega arith
    covers m g s false e = omega arith

-- Paths that are too long together.
pub lengths-refute : (problem : Problem) (cutoff : Option Value) (box : List (Option Bool)) (y : ℕ → ℕ → ℕ) → IsProblem problem → IsBox (program_at problem cutoff) box → AreSmallNumbers y →
    ((n : ℕ) (flow : Flow) → slice_get problem.flows n ≡ Some flow → IsPotential problem cutoff box n (length_of problem.objective problem) (y n)) → (amount : ℕ → Flow → ℕ) → ((n : ℕ) (flow : Flow) → slice_get problem.flows n ≡ Some flow → amount n flow ≤ y n (last_of flow)) →
    priced_right problem cutoff Lengths <ℤ pos (amounts_from amount 0 problem.flows) → RefutesBox (program_at problem cutoff) box (leaf_from problem y Lengths)
lengths-refute problem cutoff box y is in_box range each amount covers over =
    refutes problem cutoff box y Lengths amount is tt in_box range (λ n flow s. inl (record { potential = each n flow s; covers = covers n flow s })) over

-- Loads that fit are no less than floors.
pub light-fits : (problem : Problem) (cutoff : Option Value) (box : List (Option Bool)) (o : IsOverloaded problem cutoff box) → IsLight problem cutoff box o.place → ⊥
light-fits problem cutoff box o light =
    let both = floors-le 0 problem.flows o.floors light.loads o.are_floors light.are_loads in
    let capacity = ap (λ w. room problem.objective cutoff (capacity_of w)) o.stands in
    let fits = light.fits in
    let over = o.over in
    omega (arith, ints)
  where
    floor-le : (n : ℕ) (flow : Flow) (floor load : ℕ) → IsFloor problem cutoff box o.place n flow floor → IsNoLess problem cutoff box o.place n flow load → floor ≤ load
    floor-le n flow floor load f l = let g = f.greater in let m = f.is_least.no_less l.trail l.through in let r = l.of_trail in let s = l.of_fixed in grind (arith, clamps)

    floors-le : (n : ℕ) (flows : List Flow) (floors loads : List ℕ) → EachFlowHas (IsFloor problem cutoff box o.place) n flows floors → EachFlowHas (IsNoLess problem cutoff box o.place) n flows loads → sum floors ≤ sum loads
    floors-le n [] [] [] f l = omega arith
    floors-le n [] [] (y ∷ ys) f l = absurd l
    floors-le n [] (x ∷ xs) ys f l = absurd f
    floors-le n (flow ∷ flows) [] ys f l = absurd f
    floors-le n (flow ∷ flows) (x ∷ xs) [] f l = absurd l
    floors-le n (flow ∷ flows) (x ∷ xs) (y ∷ ys) f l =
        let here = floor-le n flow x y f.0 l.0 in
        let rest = floors-le (n + 1) flows xs ys f.1 l.1 in
        let a = sum_by-cons (λ x. x) x xs in
        let b = sum_by-cons (λ x. x) y ys in
        omega arith

-- A link that is overloaded.
pub link-exists : (problem : Problem) (cutoff : Option Value) (box : List (Option Bool)) (o : IsOverloaded problem cutoff box) → o.place < length problem.links
link-exists problem cutoff box o = slice_get_within problem.links o.place o.link o.stands

pub overload-refutes : (problem : Problem) (cutoff : Option Value) (box : List (Option Bool)) (y : ℕ → ℕ → ℕ) → IsProblem problem → IsBox (program_at problem cutoff) box → (o : IsOverloaded problem cutoff box) → IsTriedOn problem cutoff box o.place y →
    RefutesBox (program_at problem cutoff) box (leaf_from problem y (OnLink o.place))
overload-refutes problem cutoff box y is in_box o tried =
    refutes problem cutoff box y (OnLink o.place) amount is (link-exists problem cutoff box o) in_box tried.range (λ n flow s. adds n flow (tried.floors n flow s))
    (let floors = each-at (IsFloor problem cutoff box o.place) 0 problem.flows o.floors amount o.are_floors (λ i j flow x e s q. floor i flow x (tried.floors i flow (let at : i ≡ j = omega arith in ap (slice_get problem.flows) at ∙ s)) q) in
    let capacity = ap (λ w. room problem.objective cutoff (capacity_of w)) o.stands in
    let over = o.over in
    omega (arith, ints))
  where
    fixed : ℕ → ℕ
    fixed n = fixed_from problem cutoff box n o.place 0 (variables_of problem)

    amount : ℕ → Flow → ℕ
    amount n flow = max (fixed n) (y n (last_of flow))

    adds : (n : ℕ) (flow : Flow) → IsFloorAt problem cutoff box o.place y n flow → Adds problem cutoff box (OnLink o.place) y amount n flow
    adds n flow (inl p) = inl (record { potential = p.reached.potential; covers = let m = p.no_more in grind (arith, clamps) })
    adds n flow (inr p) = inr (record { link = o.place; priced = refl; zero_at = p.zero_at; covers = let z = p.zero_at (last_of flow) in grind (arith, clamps) })

    floor : (n : ℕ) (flow : Flow) (x : ℕ) → IsFloorAt problem cutoff box o.place y n flow → IsFloor problem cutoff box o.place n flow x → x ≤ amount n flow
    floor n flow x (inl p) q = let g = q.greater in let l = q.is_least.no_less p.reached.trail p.reached.through in let r = p.reached.reached in grind (arith, clamps)
    floor n flow x (inr p) q = let g = q.greater in let l = q.is_least.no_less p.reached.trail p.reached.through in let r = p.reached.reached in let m = p.no_less in grind (arith, clamps)
