use Rattle.std.proofs.Common.{◌≡◌, ℕ, List, [], sym, ◌∙◌, ap, subst}
use Rattle.std.specs.BinaryHeap.{heap_items}
use Rattle.graph_search.specs.Frontiers.{IsTakenOut}
use Rattle.graph_search.proofs.Popping.{taken, entries_of, empty}
use Rattle.graph_search.proofs.frontier.Frontier.pop.Goals.{in-Some, in-None}
use Rattle.graph_search.proofs.frontier.Frontier.pop.Goals as goal

pub returns : goal.returns
returns c =
    elim c.match-pop.branch [
      | in-Some w ↦ rw w.result-is (subst (λ (old : List (ℕ × ℕ)). IsTakenOut w.in-Some.field-0.0 old (entries_of (heap_items c.pop.new.self))) c.self.view_is
          (taken w.in-Some.field-0 (heap_items c.self.inside.heap) (heap_items c.pop.new.self) w.in-Some.ensures.permutation (w.in-Some.ensures.heap_order c.self.invariant).1))
      | in-None w ↦ rw w.result-is (
          let none : heap_items c.self.inside.heap ≡ [] = empty (heap_items c.self.inside.heap) (sym c.self.inside.heap.data.ok.0 ∙ w.in-None.ensures.none) in
          (sym c.self.view_is ∙ ap entries_of none, ap entries_of (w.in-None.ensures.unchanged.0 ∙ none)))
    ]
