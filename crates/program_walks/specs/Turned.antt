-- The chosen variables of a flow as edges that lead backwards.
use Rattle.std.specs.Prelude.{ℕ, ◌≡◌, ◌≤◌, ◌<◌, ◌+◌, ◌*◌, ◌^◌, Bool, true, List, Some, slice_get, Contains}
use Rattle.std.specs.List.{AllZip}
use Rattle.merlin_model.specs.Programs.{is_chosen}
use Rattle.cutoff_program.specs.Flows.{variables_of, cost_of_variable}
use Rattle.cutoff_program.specs.declared.flow.Problem.{Problem}
use Rattle.cutoff_program.specs.declared.flow.Variable.{Variable}
use Rattle.graph_search.specs.declared.graph.Edge.{Edge}
use Rattle.graph_search.specs.Graphs.{AreEdgesAmong, cost_of_all}
use Rattle.program_walks.specs.declared.backwards.Turned.{Turned}

abbrev pub turned_edge : Problem → Variable → Edge
turned_edge problem v = record { from = v.edge.to; to = v.edge.from; cost = cost_of_variable problem v }

-- variable k is a chosen one of the flow, and the edge is the variable turned round
abbrev pub IsTurned : Problem → List Bool → ℕ → ℕ → Edge → Type 0
IsTurned problem point n k e =
    (v : Variable) × (slice_get (variables_of problem) k ≡ Some v) × (v.flow ≡ n) × (is_chosen point k ≡ true) × (e ≡ turned_edge problem v)

-- the chosen variables of a flow among the first ones, turned round
pub record AreTurned (problem : Problem) (point : List Bool) (n last bound : ℕ) (found : Turned) : Type 0 where
  pub each : AllZip (IsTurned problem point n) found.numbers found.edges
  pub all : (k : ℕ) (v : Variable) → k < bound → slice_get (variables_of problem) k ≡ Some v → v.flow ≡ n → is_chosen point k ≡ true → Contains found.numbers k
  pub inside : AreEdgesAmong (last + 1) found.edges
  pub costs : cost_of_all found.edges ≤ bound * 10 ^ 9
