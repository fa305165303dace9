use Rattle.std.proofs.Common.{◌≡◌, ◌++◌, map, take}
use Rattle.product_graph.specs.Walks.{departure_by, arrival_by}
use Rattle.product_graph.proofs.span.Product.walk_of.Given as goal

abbrev pub invariant-loop-number : goal.invariant-loop-number
invariant-loop-number l = l.walk ≡ departure_by l.self l.edges ++ map (arrival_by l.self) (take l.number-index l.edges)
