use Rattle.std.proofs.Common.{ℕ, ◌≡◌, ◌++◌, List, take}
use Rattle.product_graph.specs.Numbered.{ground_of}
use Rattle.product_graph.specs.Joining.{AreEdgesBy}
use Rattle.product_graph.proofs.joining.join_followers.Given as goal

abbrev pub invariant-loop-symbol : goal.invariant-loop-symbol
invariant-loop-symbol l = (added : List (ℕ × ℕ)) × (l.edges ≡ l.fn.edges ++ added) × AreEdgesBy (ground_of l.followers l.automaton) l.kept l.place l.vertex (take l.symbol-index l.row) added
