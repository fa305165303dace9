use Rattle.std.proofs.Common.{◌≡◌, ℕ, List, length}
use Rattle.graph_search.specs.declared.graph.Edge.{Edge}
use Rattle.graph_search.specs.Searching.{IsSettling, WaitWithin}
use Rattle.graph_search.proofs.search.nearest.Given as goal

abbrev pub invariant-entries : goal.invariant-entries
invariant-entries l = record {
  within : WaitWithin (length l.search.settled) l.search;
  settled : l.search.settled ≡ l.fn.search.settled;
  searching : (n : ℕ) (edges : List Edge) (source low : ℕ) → IsSettling n edges source low n 0 l.fn.search → IsSettling n edges source low n 0 l.search;
}

abbrev pub decreases-entries : goal.decreases-entries
decreases-entries l = length l.search.frontier
