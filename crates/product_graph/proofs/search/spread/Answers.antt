use Rattle.std.proofs.Common.{◌<◌, ◌≤◌, ℕ, List, length, take, get_or, Contains, sym, ◌∙◌, subst}
use Rattle.std.proofs.lemmas.List.{take_all}
use Rattle.product_graph.specs.Numbered.{Ground, ground_of, next_of, IsOnGround, GoesOnBy}
use Rattle.product_graph.specs.Finding.{IsNotedAfter, IsFinding}
use Rattle.product_graph.proofs.Lists.{take-more, all-at, get-at, get-contains}
use Rattle.product_graph.proofs.Noting.{noted, turned, put-keeps}
use Rattle.product_graph.proofs.search.spread.Goals as goal

pub loop-symbol-preserved : goal.loop-symbol-preserved
loop-symbol-preserved c =
    let g : Ground = ground_of c.args.followers.now c.args.automaton.now in
    let i : ℕ = c.loop-symbol.symbol-index in
    let row : List ℕ = c.after-symbols.result.now in
    let k : ℕ = get_or row i 0 in
    let lt : i < length row = c.loop-symbol-test.true in
    let goes : GoesOnBy g c.args.vertex k = subst (λ (l : List ℕ). Contains l k) c.after-symbols.ensures.are (get-contains row i k (get-at row i 0 lt)) in
    let on : IsOnGround g (next_of g c.args.vertex k) = (all-at (λ j. j < length c.args.followers.now.places) row i 0 lt c.after-symbols.ensures.below, subst (λ q. q < length g.tables.steps) c.step.ensures.after c.step.ensures.within) in
    let how : IsNotedAfter c.args.turn (next_of g c.args.vertex k) c.loop-symbol.found c.note.new.found = subst (λ q. IsNotedAfter c.args.turn (record { symbol = k; state = q }) c.loop-symbol.found c.note.new.found) c.step.ensures.after c.in_ok-note.ensures in (
      λ starts s. subst (λ (l : List ℕ). IsFinding g starts c.note.new.found c.args.turn l) (sym (take-more row i 0 lt)) (noted g starts c.loop-symbol.found c.note.new.found c.args.turn (take i row) (c.loop-symbol.invariant.0 starts s) c.args.vertex c.loop-symbol.invariant.1 k goes on how),
      put-keeps (next_of g c.args.vertex k) how.0 c.loop-symbol.found.vertices c.note.new.found.vertices how.1 c.args.turn c.args.vertex c.loop-symbol.invariant.1,
    )

pub returns : goal.returns
returns c = λ starts s.
    let g : Ground = ground_of c.args.followers.now c.args.automaton.now in
    let row : List ℕ = c.after-symbols.result.now in
    let le : length row ≤ c.loop-symbol.symbol-index = c.loop-symbol-test.false in
    turned g starts c.loop-symbol.found c.args.turn (take c.loop-symbol.symbol-index row) c.args.vertex c.loop-symbol.invariant.1 (take_all c.loop-symbol.symbol-index row le ∙ c.after-symbols.ensures.are) (c.loop-symbol.invariant.0 starts s)
