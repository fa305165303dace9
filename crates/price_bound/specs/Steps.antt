-- Steps along edges of a flow.
use Rattle.std.specs.Prelude.{ℕ, List, map}
use Rattle.cutoff_program.specs.declared.flow.Variable.{Variable}
use Rattle.graph_search.specs.declared.graph.Edge.{Edge}
use Rattle.price_bound.specs.declared.flow_graph.FlowStep.{FlowStep}

-- the step along the edge of a variable
abbrev pub step_of : (Variable → ℕ) → ℕ → Variable → FlowStep
step_of f k v = record { variable = k; edge = record { from = v.edge.from; to = v.edge.to; cost = f v } }

abbrev pub edges_in : List FlowStep → List Edge
edges_in steps = map (λ s. s.edge) steps
