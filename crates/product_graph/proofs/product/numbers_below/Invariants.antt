use Rattle.product_graph.specs.Kept.{AreNumbersBelow}
use Rattle.product_graph.proofs.product.numbers_below.Given as goal

abbrev pub invariant-loop-number : goal.invariant-loop-number
invariant-loop-number l = AreNumbersBelow l.number l.numbers
