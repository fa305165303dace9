use Rattle.std.proofs.Common.{◌≡◌, ◌++◌, List}
use Rattle.product_graph.specs.declared.vertex_set.NumberedVertex.{NumberedVertex}
use Rattle.product_graph.specs.Finding.{AreKeptAmong}
use Rattle.product_graph.specs.Ends.{HasSymbolAndBelow}
use Rattle.product_graph.proofs.leading.keep_states.Given as goal

abbrev pub invariant-loop-state : goal.invariant-loop-state
invariant-loop-state l = (added : List NumberedVertex) × (l.kept ≡ l.fn.kept ++ added) × AreKeptAmong (HasSymbolAndBelow l.symbol l.state) l.leading added
