-- Least sums through the graph of a flow, and the way back along them.
use Rattle.std.specs.Prelude.{ℕ, ◌≡◌, ◌⊎◌, ◌↔◌, Bool, true, List, map, length, Option, None, Some, slice_get, Contains}
use Rattle.merlin_model.specs.declared.policy.Value.{Value}
use Rattle.merlin_model.specs.Programs.{is_chosen}
use Rattle.cutoff_program.specs.declared.flow.Problem.{Problem}
use Rattle.cutoff_program.specs.declared.flow.Flow.{Flow}
use Rattle.cutoff_program.specs.declared.flow.Variable.{Variable}
use Rattle.graph_search.specs.Graphs.{ArePotentials}
use Rattle.price_bound.specs.declared.flow_graph.FlowStep.{FlowStep}
use Rattle.price_bound.specs.declared.spread.Spread.{Spread}
use Rattle.price_bound.specs.Steps.{edges_in}
use Rattle.price_bound.specs.Graphs.{IsPermittedGraph}

-- the variables of the steps with these numbers
abbrev pub variable_of_step : Option FlowStep → ℕ
variable_of_step None = 0
variable_of_step (Some s) = s.variable

abbrev pub variables_along : List FlowStep → List ℕ → List ℕ
variables_along steps js = map (λ j. variable_of_step (slice_get steps j)) js

-- least sums from the start of a flow, over the edges that it may take
pub record IsFlowSpread (problem : Problem) (cutoff : Option Value) (box : List (Option Bool)) (n : ℕ) (f : Variable → ℕ) (flow : Flow) (spread : Spread) : Type 0 where
  pub graph : IsPermittedGraph problem cutoff box n f flow spread.graph
  pub least : ArePotentials spread.graph.vertices (edges_in spread.graph.steps) 0 spread.least

-- these places became 1, and no other changed
pub record IsMarked (ks : List ℕ) (old new : List Bool) : Type 0 where
  pub size : length new ≡ length old
  pub chosen : (k : ℕ) → (is_chosen new k ≡ true) ↔ ((is_chosen old k ≡ true) ⊎ Contains ks k)
