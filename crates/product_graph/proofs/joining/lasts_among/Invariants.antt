use Rattle.std.proofs.Common.{take}
use Rattle.product_graph.specs.Joining.{AreLasts}
use Rattle.product_graph.proofs.joining.lasts_among.Given as goal

abbrev pub invariant-loop-vertex : goal.invariant-loop-vertex
invariant-loop-vertex l = AreLasts l.net l.symbols l.automaton l.destination.host (take l.vertex-index l.vertices) l.lasts
