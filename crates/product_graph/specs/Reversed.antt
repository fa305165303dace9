-- Edges turned round.
use Rattle.std.specs.Prelude.{ℕ, List, map}
use Rattle.graph_search.specs.declared.graph.Edge.{Edge}

abbrev pub reversed_edge : ℕ × ℕ → Edge
reversed_edge e = record { from = e.1; to = e.0; cost = 1 }

abbrev pub reversed_edges : List (ℕ × ℕ) → List Edge
reversed_edges edges = map reversed_edge edges
