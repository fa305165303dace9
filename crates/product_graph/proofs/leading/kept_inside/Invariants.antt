use Rattle.product_graph.specs.Finding.{AreKeptAmong}
use Rattle.product_graph.specs.Ends.{IsInsideBelow}
use Rattle.product_graph.proofs.leading.kept_inside.Given as goal

abbrev pub invariant-loop-number : goal.invariant-loop-number
invariant-loop-number l = AreKeptAmong (IsInsideBelow l.net l.symbols l.states l.number) l.leading l.kept
