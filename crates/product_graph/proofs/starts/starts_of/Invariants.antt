use Rattle.product_graph.specs.Ends.{AreStartsBelow}
use Rattle.product_graph.proofs.starts.starts_of.Given as goal

abbrev pub invariant-loop-number : goal.invariant-loop-number
invariant-loop-number l = AreStartsBelow l.net l.symbols l.automaton l.span l.number l.starts
