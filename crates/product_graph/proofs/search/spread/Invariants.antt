use Rattle.std.proofs.Common.{◌≡◌, List, [], take, slice_get, Some}
use Rattle.product_graph.specs.declared.vertex_set.NumberedVertex.{NumberedVertex}
use Rattle.product_graph.specs.Numbered.{ground_of}
use Rattle.product_graph.specs.Finding.{IsFinding}
use Rattle.product_graph.proofs.search.spread.Given as goal

abbrev pub invariant-loop-symbol : goal.invariant-loop-symbol
invariant-loop-symbol l =
    ((starts : List NumberedVertex) → IsFinding (ground_of l.followers l.automaton) starts l.fn.found l.turn [] → IsFinding (ground_of l.followers l.automaton) starts l.found l.turn (take l.symbol-index l.symbols))
    × (slice_get l.found.vertices l.turn ≡ Some l.vertex)
