-- The steps of a flow, gathered one after the other.
use Rattle.std.proofs.Common.{◌≡◌, ◌≢◌, ℕ, zero, suc, ◌+◌, ◌≤◌, ◌<◌, nat_eq, max, Bool, true, false, List, [], ◌∷◌, ◌++◌, length, get_or, Option, None, Some, slice_get, refl, sym, ◌∙◌, ap, subst, arith, length-append}
use Rattle.std.proofs.lemmas.Int.{clamps}
use Rattle.std.proofs.lemmas.List.{length-map}
use Rattle.std.proofs.lemmas.Option.{slice_get_within, slice_get-get_or}
use Rattle.std.specs.List.{AllByRecursion}
use Rattle.merlin_model.specs.declared.policy.Value.{Value}
use Rattle.cutoff_program.specs.declared.flow.Problem.{Problem}
use Rattle.cutoff_program.specs.declared.flow.Flow.{Flow}
use Rattle.cutoff_program.specs.declared.flow.Variable.{Variable}
use Rattle.cutoff_program.specs.Flows.{variables_of, last_of}
use Rattle.cutoff_program.specs.Easy.{MayIn}
use Rattle.cutoff_program.specs.Limits.{IsProblem}
use Rattle.graph_search.specs.Graphs.{AreEdgesAmong}
use Rattle.graph_search.proofs.Places.{all-snoc, some-same, below-get}
use Rattle.price_candidates.proofs.Places.{flow-of}
use Rattle.cutoff_program.specs.Flows.{program_at}
use Rattle.merlin_model.specs.Programs.{variables}
use Rattle.price_bound.specs.declared.flow_graph.FlowStep.{FlowStep}
use Rattle.price_bound.specs.Steps.{step_of, edges_in}
use Rattle.price_bound.specs.Graphs.{IsPermittedStep, ArePermittedSteps}

abbrev pub no_step : FlowStep
no_step = record { variable = 0; edge = record { from = 0; to = 0; cost = 0 } }

pub count-is : (problem : Problem) (cutoff : Option Value) → variables (program_at problem cutoff) ≡ length (variables_of problem)
count-is problem cutoff = let e : variables (program_at problem cutoff) ≡ length (variables_of problem) = grind (arith, length-map) in e

within-at : (n : ℕ) (steps : List FlowStep) (k : ℕ) (s : FlowStep) → AreEdgesAmong n (edges_in steps) → slice_get steps k ≡ Some s → (s.edge.from < n) × (s.edge.to < n)
within-at n [] k s all e = let none-some : None ≡ Some s → ⊥ = λ x. cc in absurd (none-some e)
within-at n (t ∷ steps) zero s all e = subst (λ (x : FlowStep). (x.edge.from < n) × (x.edge.to < n)) (some-same e) all.0
within-at n (t ∷ steps) (suc k) s all e = within-at n steps k s all.1 e

pub ends-within : (n : ℕ) (steps : List FlowStep) (k : ℕ) → AreEdgesAmong n (edges_in steps) → k < length steps → ((get_or steps k no_step).edge.from < n) × ((get_or steps k no_step).edge.to < n)
ends-within n steps k all h = within-at n steps k (get_or steps k no_step) all (slice_get-get_or steps k no_step h)

get-last : {X : Type 0} (xs : List X) (y : X) → slice_get (xs ++ y ∷ []) (length xs) ≡ Some y
get-last [] y = refl
get-last (x ∷ xs) y = get-last xs y

get-before : {X : Type 0} (xs ys : List X) (k : ℕ) (x : X) → slice_get xs k ≡ Some x → slice_get (xs ++ ys) k ≡ Some x
get-before [] ys k x e = let none-some : None ≡ Some x → ⊥ = λ h. cc in absurd (none-some e)
get-before (z ∷ xs) ys zero x e = e
get-before (z ∷ xs) ys (suc k) x e = get-before xs ys k x e

module _ (problem : Problem) (cutoff : Option Value) (box : List (Option Bool)) (n : ℕ) (f : Variable → ℕ) where
  -- the steps of variables below a number
  pub record AreStepsBelow (bound : ℕ) (steps : List FlowStep) : Type 0 where
    pub each : AllByRecursion (IsPermittedStep problem cutoff box n f) steps
    pub all : (k : ℕ) (v : Variable) → k < bound → slice_get (variables_of problem) k ≡ Some v → v.flow ≡ n →
        MayIn problem cutoff box k → (j : ℕ) × (slice_get steps j ≡ Some (step_of f k v))
    pub few : length steps ≤ bound

  pub none-below : AreStepsBelow 0 []
  none-below = record { each = tt; all = λ k v h. let bad : ⊥ = omega arith in absurd bad; few = omega arith }

  pub one-taken : (i : ℕ) (v : Variable) (steps : List FlowStep) → AreStepsBelow i steps → slice_get (variables_of problem) i ≡ Some v → v.flow ≡ n → MayIn problem cutoff box i →
      AreStepsBelow (i + 1) (steps ++ step_of f i v ∷ [])
  one-taken i v steps are stands of may = record {
    each = all-snoc (IsPermittedStep problem cutoff box n f) steps (step_of f i v) are.each (record { v = v; stands = stands; of = of; may = may; is = refl });
    all = λ k w h s o m. by k w h s o m (nat_eq k i) refl;
    few = let l = length-append steps (step_of f i v ∷ []) in let g = are.few in omega arith;
  }
    where
      by : (k : ℕ) (w : Variable) → k < i + 1 → slice_get (variables_of problem) k ≡ Some w → w.flow ≡ n → MayIn problem cutoff box k → (b : Bool) → nat_eq k i ≡ b → (j : ℕ) × (slice_get (steps ++ step_of f i v ∷ []) j ≡ Some (step_of f k w))
      by k w h s o m true e =
          let at : k ≡ i = grind arith in
          let same : v ≡ w = some-same (sym stands ∙ ap (slice_get (variables_of problem)) (sym at) ∙ s) in
          (length steps, get-last steps (step_of f i v) ∙ ap (λ x. Some (step_of f i x)) same ∙ ap (λ x. Some (step_of f x w)) (sym at))
      by k w h s o m false e =
          let other : k ≢ i = grind arith in
          let low : k < i = grind arith in
          let r = are.all k w low s o m in
          (r.0, get-before steps (step_of f i v ∷ []) r.0 (step_of f k w) r.1)

  pub one-left : (i : ℕ) (v : Variable) (steps : List FlowStep) → AreStepsBelow i steps → slice_get (variables_of problem) i ≡ Some v → (¬ ((v.flow ≡ n) × MayIn problem cutoff box i)) → AreStepsBelow (i + 1) steps
  one-left i v steps are stands not = record {
    each = are.each;
    all = λ k w h s o m. by k w h s o m (nat_eq k i) refl;
    few = let g = are.few in omega arith;
  }
    where
      by : (k : ℕ) (w : Variable) → k < i + 1 → slice_get (variables_of problem) k ≡ Some w → w.flow ≡ n → MayIn problem cutoff box k → (b : Bool) → nat_eq k i ≡ b → (j : ℕ) × (slice_get steps j ≡ Some (step_of f k w))
      by k w h s o m true e =
          let at : k ≡ i = grind arith in
          let same : w ≡ v = some-same (sym s ∙ ap (slice_get (variables_of problem)) at ∙ stands) in
          absurd (not (ap (λ (x : Variable). x.flow) (sym same) ∙ o, subst (MayIn problem cutoff box) at m))
      by k w h s o m false e = let low : k < i = grind arith in are.all k w low s o m

  pub all-gathered : (i : ℕ) (steps : List FlowStep) → length (variables_of problem) ≤ i → i ≤ length (variables_of problem) → AreStepsBelow i steps → ArePermittedSteps problem cutoff box n f steps
  all-gathered i steps all few are = record {
    each = are.each;
    all = λ k v s o m. are.all k v (let h = slice_get_within (variables_of problem) k v s in omega arith) s o m;
    few = let g = are.few in omega arith;
  }

  step-within : (flow : Flow) → IsProblem problem → slice_get problem.flows n ≡ Some flow → (s : FlowStep) → IsPermittedStep problem cutoff box n f s → (s.edge.from < last_of flow + 1) × (s.edge.to < last_of flow + 1)
  step-within flow is stands s p =
      let h = flow-of problem s.variable p.v is p.stands in
      let at : h.j ≡ n = let a = h.is in let b = p.of in omega arith in
      let same : h.flow ≡ flow = some-same (sym h.stands ∙ ap (slice_get problem.flows) at ∙ stands) in
      let last = ap last_of same in
      let from = ap (λ (x : FlowStep). x.edge.from) p.is in
      let to = ap (λ (x : FlowStep). x.edge.to) p.is in
      let low = h.edge.starts in
      let high = h.edge.ends in
      (omega arith, omega arith)

  pub steps-within : (flow : Flow) (steps : List FlowStep) → IsProblem problem → slice_get problem.flows n ≡ Some flow → AllByRecursion (IsPermittedStep problem cutoff box n f) steps → AreEdgesAmong (last_of flow + 1) (edges_in steps)
  steps-within flow [] is stands each = tt
  steps-within flow (s ∷ steps) is stands each = (step-within flow is stands s each.0, steps-within flow steps is stands each.1)

  pub gathered-within : (vertices : ℕ) (steps : List FlowStep) → IsProblem problem → n < length problem.flows → ((flow : Flow) → slice_get problem.flows n ≡ Some flow → vertices ≡ last_of flow + 1) → AllByRecursion (IsPermittedStep problem cutoff box n f) steps →
      AreEdgesAmong vertices (edges_in steps)
  gathered-within vertices steps is h size each =
      let at = below-get problem.flows n h in
      subst (λ m. AreEdgesAmong m (edges_in steps)) (sym (size at.0 at.1)) (steps-within at.0 steps is at.1 each)

pub most-is : (flow : Flow) → max flow.vertices 2 ≡ last_of flow + 1
most-is flow = grind (arith, clamps)
