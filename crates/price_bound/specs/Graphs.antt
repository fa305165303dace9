-- The edges that a flow may take in a box, as a graph.
use Rattle.std.specs.Prelude.{ℕ, ◌≡◌, ◌≤◌, ◌+◌, List, length, Option, Some, Bool, slice_get}
use Rattle.std.specs.List.{AllByRecursion}
use Rattle.merlin_model.specs.declared.policy.Value.{Value}
use Rattle.cutoff_program.specs.declared.flow.Problem.{Problem}
use Rattle.cutoff_program.specs.declared.flow.Flow.{Flow}
use Rattle.cutoff_program.specs.declared.flow.Variable.{Variable}
use Rattle.cutoff_program.specs.Flows.{variables_of, last_of}
use Rattle.cutoff_program.specs.Easy.{MayIn}
use Rattle.price_bound.specs.declared.flow_graph.FlowStep.{FlowStep}
use Rattle.price_bound.specs.Steps.{step_of}
use Rattle.price_bound.specs.declared.flow_graph.FlowGraph.{FlowGraph}

module _ (problem : Problem) (cutoff : Option Value) (box : List (Option Bool)) (n : ℕ) (f : Variable → ℕ) where
  -- the step goes along an edge of the flow that may be taken, and costs what that adds
  pub record IsPermittedStep (step : FlowStep) : Type 0 where
    pub v : Variable
    pub stands : slice_get (variables_of problem) step.variable ≡ Some v
    pub of : v.flow ≡ n
    pub may : MayIn problem cutoff box step.variable
    pub is : step ≡ step_of f step.variable v

  -- the steps of the flow that may be taken, and no others
  pub record ArePermittedSteps (steps : List FlowStep) : Type 0 where
    pub each : AllByRecursion IsPermittedStep steps
    pub all : (k : ℕ) (v : Variable) → slice_get (variables_of problem) k ≡ Some v → v.flow ≡ n →
        MayIn problem cutoff box k → (j : ℕ) × (slice_get steps j ≡ Some (step_of f k v))
    pub few : length steps ≤ length (variables_of problem)

  -- and these over all vertices of the flow
  pub record IsPermittedGraph (flow : Flow) (graph : FlowGraph) : Type 0 where
    pub size : graph.vertices ≡ last_of flow + 1
    pub are : ArePermittedSteps graph.steps
