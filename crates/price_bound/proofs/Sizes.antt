-- How great what is added gets.
use Rattle.std.proofs.Common.{◌≡◌, ℕ, ◌*◌, ◌^◌, ◌≤◌, ◌<◌, lit<, List, length, Option, Some, Bool, slice_get, cond, true, false, ap, arith}
use Rattle.merlin_model.specs.declared.policy.Value.{Value}
use Rattle.cutoff_program.specs.declared.flow.Problem.{Problem}
use Rattle.cutoff_program.specs.declared.flow.Variable.{Variable}
use Rattle.cutoff_program.specs.Flows.{variables_of, is_on, cost_of_variable}
use Rattle.cutoff_program.specs.Limits.{IsProblem}
use Rattle.cutoff_program.proofs.Lists.{all_so}
use Rattle.cutoff_program.proofs.Variables.{rates-small}
use Rattle.graph_search.specs.Graphs.{cost_of_all}
use Rattle.graph_search.proofs.Places.{all-get}
use Rattle.price_bound.specs.declared.flow_graph.FlowStep.{FlowStep}
use Rattle.price_bound.specs.declared.measure.Measure.{Measure}
use Rattle.price_bound.specs.declared.measure.Measure.TheVariants.{Cost, Rate}
use Rattle.price_bound.specs.Asked.{measured}
use Rattle.price_bound.specs.Steps.{edges_in}
use Rattle.price_bound.specs.Graphs.{IsPermittedStep, ArePermittedSteps}
use Rattle.price_bound.proofs.Trails.{costs-small}

pub measured-small : (problem : Problem) (measure : Measure) (k : ℕ) (v : Variable) → IsProblem problem → slice_get (variables_of problem) k ≡ Some v → measured problem measure v ≤ 10 ^ 9
measured-small problem Cost k v is e = all-get (λ v. cost_of_variable problem v ≤ 10 ^ 9) (variables_of problem) k v is.costs e
measured-small problem (Rate link) k v is e = by (is_on link v.edge.crosses) (all-get (λ (v : Variable). v.rate ≤ 10 ^ 9) (variables_of problem) k v (rates-small problem is) e)
  where
    by : (b : Bool) → v.rate ≤ 10 ^ 9 → cond b v.rate 0 ≤ 10 ^ 9
    by true h = h
    by false h = omega arith

pub costs-within : (problem : Problem) (cutoff : Option Value) (box : List (Option Bool)) (n : ℕ) (measure : Measure) (steps : List FlowStep) → IsProblem problem → ArePermittedSteps problem cutoff box n (measured problem measure) steps → cost_of_all (edges_in steps) < 2 ^ 120
costs-within problem cutoff box n measure steps is are =
    let each = all_so (IsPermittedStep problem cutoff box n (measured problem measure)) (λ s. s.edge.cost ≤ 10 ^ 9) steps (λ s p. let c = ap (λ (x : FlowStep). x.edge.cost) p.is in let m = measured-small problem measure s.variable p.v is p.stands in omega arith) are.each in
    let all = costs-small (10 ^ 9) steps each in
    let few = are.few in
    let most = is.few_variables in
    let mul : length steps * 10 ^ 9 ≤ 32768 * 10 ^ 9 = omega arith in
    let large : 32768 * 10 ^ 9 < 2 ^ 120 = lit< tt in
    omega arith
