use Rattle.std.proofs.Common.{◌≡◌, ◌∙◌, ◌<◌, ◌≤◌, ◌++◌, ◌∷◌, [], List, ℕ, Option, suc, length, get_or, slice_set, true, refl, sym, ap, subst, append_assoc, arith}
use Rattle.std.proofs.lemmas.List.{append-nil}
use Rattle.std.proofs.lemmas.Option.{slice_get_within, slice_get-get_or}
use Rattle.graph_search.specs.Graphs.{GoesBack, known_at}
use Rattle.graph_search.proofs.Places.{some-same}
use Rattle.graph_search.specs.declared.graph.Edge.{Edge}
use Rattle.price_bound.specs.declared.flow_graph.FlowStep.{FlowStep}
use Rattle.price_bound.specs.Steps.{edges_in}
use Rattle.price_bound.specs.Spreads.{IsMarked, variables_along}
use Rattle.price_bound.proofs.Permitting.{no_step}
use Rattle.price_bound.proofs.WayBack.{one-way, ended, next-step, goes-within}
use Rattle.price_bound.proofs.Trails.{step-at}
use Rattle.price_bound.proofs.Marking.{none-marked, step-marked}
use Rattle.price_bound.proofs.spread.mark_back.Goals as goal

pub back-init : goal.back-init
back-init c = record {
  rest = c.requires.back.0;
  done = [];
  goes = c.requires.back.1;
  whole = λ ks g. one-way (edges_in c.args.spread.now.graph.steps) c.args.spread.now.least.before 0 ks c.requires.back.0 c.args.from g c.requires.back.1;
  marked = none-marked c.args.point.now;
  few = let h = c.requires.back.2 in omega arith;
}

pub bounds : goal.bounds
bounds c = subst (λ (l : List (Option ℕ)). c.back.vertex < length l) (sym c.as_slice.ensures) (goes-within (edges_in c.args.spread.now.graph.steps) c.args.spread.now.least.before 0 c.back.invariant.rest c.back.vertex c.requires.start c.back.invariant.goes)

pub offset_bounds-as_slice-vertex : goal.offset_bounds-as_slice-vertex
offset_bounds-as_slice-vertex c = let b = bounds c in let t = c.as_slice.type_inv.1 in omega arith

pub returns-in-None : goal.returns-in-None
returns-in-None c ks g =
    let i = c.back.invariant in
    let none = ended (edges_in c.args.spread.now.graph.steps) c.args.spread.now.least.before 0 i.rest c.back.vertex i.goes (ap (λ (l : List (Option ℕ)). known_at l c.back.vertex) (sym c.as_slice.ensures) ∙ c.in-None.is) in
    let same : ks ≡ i.done = i.whole ks g ∙ ap (λ l. i.done ++ l) none ∙ append-nil i.done in
    subst (λ l. IsMarked (variables_along c.args.spread.now.graph.steps l) c.args.point.now c.back.point) (sym same) i.marked

pub bounds-as_slice-number : goal.bounds-as_slice-number
bounds-as_slice-number c =
    let i = c.back.invariant in
    let on = next-step (edges_in c.args.spread.now.graph.steps) c.args.spread.now.least.before 0 i.rest c.back.vertex c.in-Some.number i.goes (ap (λ (l : List (Option ℕ)). known_at l c.back.vertex) (sym c.as_slice.ensures) ∙ c.in-Some.is) in
    let s = step-at c.args.spread.now.graph.steps c.in-Some.number on.e on.stands in
    subst (λ (l : List FlowStep). c.in-Some.number < length l) (sym c.as_slice-in-Some.ensures) (slice_get_within c.args.spread.now.graph.steps c.in-Some.number s.0 s.1)

pub offset_bounds-as_slice-number : goal.offset_bounds-as_slice-number
offset_bounds-as_slice-number c = let b = bounds-as_slice-number c in let t = c.as_slice-in-Some.type_inv.1 in omega arith

pub back-preserved : goal.back-preserved
back-preserved c =
    let i = c.back.invariant in
    let steps = c.args.spread.now.graph.steps in
    let number = c.in-Some.number in
    let on = next-step (edges_in steps) c.args.spread.now.least.before 0 i.rest c.back.vertex number i.goes (ap (λ (l : List (Option ℕ)). known_at l c.back.vertex) (sym c.as_slice.ensures) ∙ c.in-Some.is) in
    let s = step-at steps number on.e on.stands in
    let within = slice_get_within steps number s.0 s.1 in
    let same : s.0 ≡ get_or steps number no_step = some-same (sym s.1 ∙ slice_get-get_or steps number no_step within) in
    let edge : on.e ≡ (get_or steps number no_step).edge = sym s.2 ∙ ap (λ (x : FlowStep). x.edge) same in
    record {
      rest = on.ks;
      done = i.done ++ number ∷ [];
      goes = subst (λ (e : Edge). GoesBack (edges_in steps) c.args.spread.now.least.before 0 on.ks e.from) (edge ∙ ap (λ (l : List FlowStep). (get_or l number no_step).edge) (sym c.as_slice-in-Some.ensures)) on.goes;
      whole = λ ks g. i.whole ks g ∙ ap (λ l. i.done ++ l) on.is ∙ sym (append_assoc i.done (number ∷ []) on.ks);
      marked = step-marked steps i.done c.args.point.now c.back.point c.set.new.self number within c.requires.within i.marked (c.set.ensures ∙ ap (λ (l : List FlowStep). slice_set c.back.point (get_or l number no_step).variable true) c.as_slice-in-Some.ensures);
      few = let f = i.few in let e = ap length on.is in let l : length (number ∷ on.ks) ≡ suc (length on.ks) = refl in omega arith;
    }

pub returns : goal.returns
returns c ks g =
    let i = c.back.invariant in
    let none : i.rest ≡ [] = empty i.rest (let f = i.few in let t = c.back-test.false in let e = c.back.auto.counter-end in let n = c.len-end.ensures in omega arith) in
    let same : ks ≡ i.done = i.whole ks g ∙ ap (λ l. i.done ++ l) none ∙ append-nil i.done in
    subst (λ l. IsMarked (variables_along c.args.spread.now.graph.steps l) c.args.point.now c.back.point) (sym same) i.marked
  where
    empty : (xs : List ℕ) → length xs ≤ 0 → xs ≡ []
    empty [] h = refl
    empty (x ∷ xs) h = let bad : ⊥ = omega arith in absurd bad
