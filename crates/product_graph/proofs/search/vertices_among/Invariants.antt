use Rattle.std.proofs.Common.{◌↔◌, take, Contains}
use Rattle.product_graph.specs.declared.vertex_set.NumberedVertex.{NumberedVertex}
use Rattle.product_graph.proofs.search.vertices_among.Given as goal

abbrev pub invariant-loop-start : goal.invariant-loop-start
invariant-loop-start l = (p : NumberedVertex) → Contains l.vertices p ↔ Contains (take l.start-index l.starts) p
