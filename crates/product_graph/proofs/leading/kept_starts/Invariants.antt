use Rattle.std.proofs.Common.{take}
use Rattle.product_graph.specs.Finding.{AreKeptStarts}
use Rattle.product_graph.proofs.leading.kept_starts.Given as goal

abbrev pub invariant-loop-start : goal.invariant-loop-start
invariant-loop-start l = AreKeptStarts l.leading (take l.start-index l.starts) l.kept
