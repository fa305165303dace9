-- The edges of a product, turned round.
use Rattle.std.specs.Prelude.{ℕ, List, map}
use Rattle.graph_search.specs.declared.graph.Edge.{Edge}

abbrev pub turned_pair : ℕ × ℕ → Edge
turned_pair e = record { from = e.1; to = e.0; cost = 1 }

abbrev pub turned_edges : List (ℕ × ℕ) → List Edge
turned_edges edges = map turned_pair edges
