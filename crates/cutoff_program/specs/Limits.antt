-- Problems within the limits.
use Rattle.std.specs.Prelude.{ℕ, ◌≢◌, ◌≤◌, ◌<◌, ◌+◌, ◌^◌, List, length, IfSome, sum_by}
use Rattle.std.specs.List.{AllByRecursion}
use Rattle.merlin_model.specs.declared.network.DirectedLink.{DirectedLink}
use Rattle.cutoff_program.specs.Flows.{FlowEdge, Flow, Problem, last_of, variables_of, cost_of_variable, program_at, takes, is_below, cutoff_of}
use Rattle.merlin_model.specs.declared.policy.Value.{Value}
use Rattle.merlin_model.specs.Programs.{HasCutoffs}

-- an edge between two vertices, over a link if any
pub record IsEdgeOf (links : List DirectedLink) (last : ℕ) (edge : FlowEdge) : Type 0 where
  pub apart : edge.from ≢ edge.to
  pub starts : edge.from ≤ last
  pub ends : edge.to ≤ last
  pub crosses : IfSome edge.crosses (λ l. l < length links)

-- the laws of cutoffs hold of the problem's program
abbrev pub HasCutoffsOf : Problem → Type 0
HasCutoffsOf problem =
    HasCutoffs Value (program_at problem) (takes problem.objective) is_below (cutoff_of problem)

pub record IsFlow (links : List DirectedLink) (flow : Flow) : Type 0 where
  pub rate : flow.rate ≤ 10 ^ 9
  pub edges : AllByRecursion (IsEdgeOf links (last_of flow)) flow.edges

pub record IsLinkWithin (directed : DirectedLink) : Type 0 where
  pub positive : 0 < directed.capacity
  pub small : directed.capacity ≤ 10 ^ 9

-- what a variable costs may be a coefficient of a row
pub record IsProblem (problem : Problem) : Type 0 where
  pub flows : AllByRecursion (IsFlow problem.links) problem.flows
  pub links : AllByRecursion IsLinkWithin problem.links
  pub few_variables : length (variables_of problem) ≤ 32768
  pub costs : AllByRecursion (λ v. cost_of_variable problem v ≤ 10 ^ 9) (variables_of problem)
  pub few_rows : sum_by (λ flow. last_of flow + 1) problem.flows + length problem.links < 16384
