-- What is known of each variable of a problem.
use Rattle.std.proofs.Common.{◌≡◌, ◌≢◌, ℕ, ◌+◌, ◌^◌, ◌≤◌, ◌<◌, ◌==◌, cond, Bool, true, false, List, [], ◌∷◌, length, map, Some, IfSome, refl, ◌∙◌, ap, arith}
use Rattle.std.specs.List.{AllByRecursion}
use Rattle.merlin_model.specs.declared.network.DirectedLink.{DirectedLink}
use Rattle.merlin_model.specs.declared.policy.Objective.{Objective}
use Rattle.merlin_model.specs.declared.policy.Objective.TheVariants as objective
use Rattle.cutoff_program.specs.Flows.{FlowEdge, Flow, Problem, Variable, variable_of, variables_from, variables_of, last_of, rate_over, is_on, cost_of_variable, length_of}
use Rattle.cutoff_program.specs.Limits.{IsEdgeOf, IsFlow, IsProblem}
use Rattle.cutoff_program.proofs.Lists.{all_both, all_map, all_so, all_any}

pub record IsVariable (links : List DirectedLink) (v : Variable) : Type 0 where
  pub rate : v.rate ≤ 10 ^ 9
  pub apart : v.edge.from ≢ v.edge.to
  pub crosses : IfSome v.edge.crosses (λ l. l < length links)

of_flow : (links : List DirectedLink) (n : ℕ) (flow : Flow) → flow.rate ≤ 10 ^ 9 → (edge : FlowEdge) → IsEdgeOf links (last_of flow) edge → IsVariable links (variable_of n flow.rate edge)
of_flow links n flow rate edge is = record { rate = rate; apart = is.apart; crosses = is.crosses }

are_from : (links : List DirectedLink) (n : ℕ) (flows : List Flow) → AllByRecursion (IsFlow links) flows → AllByRecursion (IsVariable links) (variables_from n flows)
are_from links n [] all = tt
are_from links n (flow ∷ flows) all =
    all_both (IsVariable links) (map (variable_of n flow.rate) flow.edges) (variables_from (n + 1) flows)
    (all_map (IsVariable links) (variable_of n flow.rate) flow.edges (all_so (IsEdgeOf links (last_of flow)) (λ edge. IsVariable links (variable_of n flow.rate edge)) flow.edges (of_flow links n flow all.0.rate) all.0.edges))
    (are_from links (n + 1) flows all.1)

pub are_variables : (problem : Problem) → IsProblem problem → AllByRecursion (IsVariable problem.links) (variables_of problem)
are_variables problem is = are_from problem.links 0 problem.flows is.flows

-- A variable puts at most its rate on a link, and adds at most its rate to the length.

pub over-most : (link : ℕ) (v : Variable) → rate_over link v ≤ v.rate
over-most link v = by (is_on link v.edge.crosses)
  where
    by : (b : Bool) → (cond b v.rate 0) ≤ v.rate
    by true = omega arith
    by false = omega arith

-- where it crosses a link it puts its rate on it
pub over-full : (link : ℕ) (v : Variable) → v.edge.crosses ≡ Some link → rate_over link v ≡ v.rate
over-full link v e = ap (λ c. cond (is_on link c) v.rate 0) e ∙ by (link == link) refl
  where
    by : (b : Bool) → (link == link) ≡ b → cond b v.rate 0 ≡ v.rate
    by true x = refl
    by false x = let bad : ⊥ = grind arith in absurd bad

pub rates-small : (problem : Problem) → IsProblem problem → AllByRecursion (λ v. v.rate ≤ 10 ^ 9) (variables_of problem)
rates-small problem is = all_so (IsVariable problem.links) (λ v. v.rate ≤ 10 ^ 9) (variables_of problem) (λ v i. i.rate) (are_variables problem is)

-- Terms are small.

pub costs-small : (problem : Problem) → IsProblem problem → AllByRecursion (λ v. cost_of_variable problem v ≤ 10 ^ 9) (variables_of problem)
costs-small problem is = is.costs

pub over-small : (problem : Problem) (link : ℕ) → IsProblem problem → AllByRecursion (λ v. rate_over link v ≤ 10 ^ 9) (variables_of problem)
over-small problem link is = all_so (IsVariable problem.links) (λ v. rate_over link v ≤ 10 ^ 9) (variables_of problem) (λ v i. let r = i.rate in let m = over-most link v in omega arith) (are_variables problem is)

pub lengths-small : (o : Objective) (problem : Problem) → IsProblem problem → AllByRecursion (λ v. length_of o problem v ≤ 10 ^ 9) (variables_of problem)
lengths-small objective.Shortest problem is = costs-small problem is
lengths-small objective.Ratio problem is = all_any (λ v. 0 ≤ 10 ^ 9) (variables_of problem) (λ v. omega arith)
lengths-small objective.Reserved problem is = all_any (λ v. 0 ≤ 10 ^ 9) (variables_of problem) (λ v. omega arith)
