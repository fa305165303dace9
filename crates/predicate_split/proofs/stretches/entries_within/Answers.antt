use Rattle.std.proofs.Common.{◌++◌, [], ◌∷◌, List, take, refl, sym, ◌∙◌, ap}
use Rattle.std.proofs.lemmas.List.{take_more}
use Rattle.merlin_model.specs.declared.policy.Pred.{Pred}
use Rattle.merlin_model.specs.Predicates.{holds}
use Rattle.predicate_split.specs.declared.pairs.PlacedPred.{PlacedPred}
use Rattle.predicate_split.specs.Overlaps.{holder}
use Rattle.predicate_split.proofs.Stretching.{entry-kept, entry-dropped}
use Rattle.predicate_split.proofs.stretches.entries_within.Goals.{in-No, in_default+in_ok-push-in_default}
use Rattle.predicate_split.proofs.stretches.entries_within.Goals as goal

pub loop-entry-preserved : goal.loop-entry-preserved
loop-entry-preserved c = λ q at.
    let i = c.loop-entry.entry-index in
    let entries = c.args.entries.now in
    let e = c.entry-item.result in
    let more = ap (λ (es : List PlacedPred). holder es q) (sym (take_more entries i e c.loop-entry-test.true ∙ ap (λ (x : PlacedPred). take i entries ++ x ∷ []) (sym c.entry-item.is))) in
    elim c.match-branch-2.branch [
      | in-No w ↦
          ap (λ (es : List PlacedPred). holder es q) w.kept-is
          ∙ entry-dropped c.args.stretch c.loop-entry.kept (take i entries) e c.loop-entry.invariant (λ p within. sym (c.in_ok-pred.ensures p within) ∙ ap (λ (pred : Pred). holds pred p) w.in-No.is) q at
          ∙ more
      | in_default+in_ok-push-in_default w ↦
          ap (λ (es : List PlacedPred). holder es q) (w.kept-is ∙ w.in_ok-push-in_default.ensures.ok)
          ∙ entry-kept c.args.stretch c.loop-entry.kept (take i entries) e (record { place = e.place; pred = c.in_ok-pred.pred }) c.loop-entry.invariant refl (λ p within. c.in_ok-pred.ensures p within) q at
          ∙ more
    ]
