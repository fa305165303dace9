use Rattle.std.proofs.Common.{◌∙◌, sym, subst}
use Rattle.std.specs.List.{AllByRecursion}
use Rattle.merlin_model.specs.Predicates.{IsPred}
use Rattle.negotiator.proofs.Finding.{well-both}
use Rattle.negotiator.proofs.contacts.find.Goals as goal

pub note_all-requires-clause-well : goal.note_all-requires-clause-well
note_all-requires-clause-well c =
    subst (AllByRecursion IsPred) (sym (c.as_slice.ensures ∙ c.in_ok-preds.ensures))
    (well-both c.args.case.now.parent.now.policy c.args.case.now.child.now.policy c.statements-2.ensures.sound.preds c.statements.ensures.sound.preds)
