use Rattle.std.proofs.Common.{◌≡◌, ◌++◌, take}
use Rattle.product_graph.proofs.kept.put_all.Given as goal

abbrev pub invariant-loop-vertex : goal.invariant-loop-vertex
invariant-loop-vertex l = l.vertices ≡ l.fn.vertices ++ take l.vertex-index l.more
