use Rattle.std.proofs.Common.{◌≤◌, map}
use Rattle.certificate_text.specs.Preorder.{lines_from_last}
use Rattle.certificate_text.proofs.TreeStack.{IsWriting, nodes_left}
use Rattle.certificate_text.proofs.writing.write_nodes.Given as goal

abbrev pub invariant-loop-tree : goal.invariant-loop-tree
invariant-loop-tree g l =
    IsWriting (g.K.Sink.taken l.fn.out) (g.K.Sink.taken l.out) (lines_from_last (map (λ t. t.now) l.fn.pending.items)) (map (λ t. t.now) l.pending.items) × (g.K.Sink.faults l.fn.out ≤ g.K.Sink.faults l.out)

abbrev pub decreases-loop-tree : goal.decreases-loop-tree
decreases-loop-tree g l = nodes_left (map (λ t. t.now) l.pending.items)
