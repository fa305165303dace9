use Rattle.std.proofs.Common.{◌≡◌, map, take}
use Rattle.product_graph.specs.Kept.{listed_by}
use Rattle.product_graph.proofs.product.listed.Given as goal

abbrev pub invariant-loop-vertex : goal.invariant-loop-vertex
invariant-loop-vertex l = l.vertices ≡ map (listed_by l.symbols) (take l.vertex-index l.kept)
