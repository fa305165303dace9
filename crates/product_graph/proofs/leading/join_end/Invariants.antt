use Rattle.std.proofs.Common.{ℕ, ◌⊎◌, ◌↔◌, Contains}
use Rattle.product_graph.specs.Ends.{IsLastBy}
use Rattle.product_graph.proofs.Keeping.{JoinsEndBelow}
use Rattle.product_graph.proofs.leading.join_end.Given as goal

abbrev pub invariant-loop-place : goal.invariant-loop-place
invariant-loop-place l = (e : ℕ × ℕ) → Contains l.edges e ↔ (Contains l.fn.edges e ⊎ JoinsEndBelow (IsLastBy l.net l.symbols l.automaton l.destination.host) l.vertices l.place e)
