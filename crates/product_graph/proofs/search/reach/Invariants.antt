use Rattle.std.proofs.Common.{[]}
use Rattle.product_graph.specs.Numbered.{ground_of}
use Rattle.product_graph.specs.Finding.{IsFinding}
use Rattle.product_graph.proofs.search.reach.Given as goal

abbrev pub invariant-loop-turn : goal.invariant-loop-turn
invariant-loop-turn l = IsFinding (ground_of l.followers l.automaton) l.starts l.found l.turn []
