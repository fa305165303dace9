use Rattle.product_graph.specs.Numbered.{ground_of}
use Rattle.product_graph.specs.Joining.{AreEdgesBelow}
use Rattle.product_graph.proofs.joining.edges_among.Given as goal

abbrev pub invariant-loop-place : goal.invariant-loop-place
invariant-loop-place l = AreEdgesBelow (ground_of l.followers l.automaton) l.kept l.lasts l.place l.edges
