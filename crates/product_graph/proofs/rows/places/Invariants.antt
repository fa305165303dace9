use Rattle.std.proofs.Common.{◌≡◌, map, take}
use Rattle.product_graph.proofs.rows.places.Given as goal

abbrev pub invariant-loop-symbol : goal.invariant-loop-symbol
invariant-loop-symbol l = l.places ≡ map (λ x. x.loc) (take l.symbol-index l.symbols)
