use Rattle.std.proofs.Common.{take, Contains}
use Rattle.merlin_model.specs.Words.{at}
use Rattle.product_graph.proofs.starts.number_at.Given as goal

abbrev pub invariant-loop-number : goal.invariant-loop-number
invariant-loop-number l = ¬ Contains (take l.number l.symbols) (at l.host)
