use Rattle.std.proofs.Common.{ℕ}
use Rattle.graph_search.specs.Searching.{IsSettling, unsettled}
use Rattle.graph_search.proofs.search.settle_all.Given as goal

abbrev pub invariant-vertices : goal.invariant-vertices
invariant-vertices l = (low : ℕ) × IsSettling l.vertices l.edges l.source low l.vertices 0 l.search

abbrev pub decreases-vertices : goal.decreases-vertices
decreases-vertices l = unsettled l.search.settled
