use Rattle.std.proofs.Common.{ℕ, List, ◌≡◌, ◌≤◌, ◌+◌, ◌++◌, length}
use Rattle.graph_search.specs.Graphs.{GoesBack}
use Rattle.price_bound.specs.Steps.{edges_in}
use Rattle.price_bound.specs.Spreads.{IsMarked, variables_along}
use Rattle.price_bound.proofs.spread.mark_back.Given as goal

abbrev pub invariant-back : goal.invariant-back
invariant-back l = record {
  rest : List ℕ;
  done : List ℕ;
  goes : GoesBack (edges_in l.spread.graph.steps) l.spread.least.before 0 rest l.vertex;
  whole : (ks : List ℕ) → GoesBack (edges_in l.spread.graph.steps) l.spread.least.before 0 ks l.from → ks ≡ done ++ rest;
  marked : IsMarked (variables_along l.spread.graph.steps done) l.fn.point l.point;
  few : l.counter + length rest ≤ length l.fn.point;
}
