use Rattle.std.proofs.Common.{ℕ, List, subst}
use Rattle.std.specs.BinaryHeap.{heap_items}
use Rattle.graph_search.specs.Frontiers.{HasAlso}
use Rattle.graph_search.proofs.Popping.{also, entries_of}
use Rattle.graph_search.proofs.frontier.Frontier.push.Goals as goal

pub returns : goal.returns
returns c =
    subst (λ (old : List (ℕ × ℕ)). HasAlso (c.args.cost, c.args.vertex) old (entries_of (heap_items c.push.new.self))) c.self.view_is
    (also (record { 0 = (c.args.cost, c.args.vertex) }) (heap_items c.self.inside.heap) (heap_items c.push.new.self) c.in_ok-push.ensures.permutation)
