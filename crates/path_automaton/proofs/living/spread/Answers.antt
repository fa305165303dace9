use Rattle.std.proofs.Common.{◌≡◌, ◌<◌, ◌≤◌, ◌-◌, ℕ, Bool, true, List, [], length, sym, ◌∙◌, ap, ap₂, subst, arith}
use Rattle.std.specs.List.{list_any}
use Rattle.path_automaton.specs.Living.{is_set, states_after, IsSpread}
use Rattle.path_automaton.proofs.LivingLaws.{found-at, same-row}
use Rattle.path_automaton.proofs.living.spread.Goals as goal

pub loop-state-preserved-then-some_live : goal.loop-state-preserved-then-some_live
loop-state-preserved-then-some_live c =
    let rows : List (List ℕ) = c.args.rows.now in
    let q : ℕ = c.loop-state.state - 1 in
    let above : 0 < c.loop-state.state = c.loop-state-test.true in
    let within : c.loop-state.state ≤ length rows = c.loop-state.invariant.1 in
    let in_range : q < length rows = omega arith in
    let row : c.as_slice-then-not-known.result.now ≡ states_after rows q = c.as_slice-then-not-known.ensures ∙ c.index-rows-state.is ∙ same-row rows q c.index-rows-state.result [] in_range in
    subst (λ (new : List Bool). IsSpread rows q c.args.living.now new true × (q ≤ length rows)) (sym c.set.ensures)
    (found-at rows c.loop-state.state c.args.living.now c.loop-state.living c.loop-state.changed c.loop-state.invariant.0 above within c.requires.0
    (ap (λ (l : List Bool). is_set l q) (sym c.as_slice.ensures) ∙ c.if-not-known.true)
    (ap₂ (λ (l : List Bool) (r : List ℕ). list_any (is_set l) r) (sym c.as_slice-then-not-known-2.ensures) (sym row) ∙ sym c.some_live.ensures ∙ c.if-some_live.true))
