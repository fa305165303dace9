use Rattle.product_graph.specs.Joining.{IsLeastBelow}
use Rattle.product_graph.proofs.joining.least_entered.Given as goal

abbrev pub invariant-loop-place : goal.invariant-loop-place
invariant-loop-place l = IsLeastBelow l.automaton l.symbol l.vertices l.lasts l.place l.least
