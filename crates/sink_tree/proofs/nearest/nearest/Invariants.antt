use Rattle.std.proofs.Common.{take}
use Rattle.sink_tree.proofs.Choosing.{IsChoosing}
use Rattle.sink_tree.proofs.nearest.nearest.Given as goal

abbrev pub invariant-loop-edge : goal.invariant-loop-edge
invariant-loop-edge l = IsChoosing l.distance (take l.edge-index l.edges) l.next
