use Rattle.std.proofs.Common.{◌≡◌, IfOk, List, sym, ◌∙◌, ap, subst}
use Rattle.merlin_model.specs.declared.policy.Pred.{Pred}
use Rattle.predicate_logic.specs.Residues.{folded_all, folded_any, folded_not, residue, residues}
use Rattle.predicate_logic.proofs.Shapes.{residue-All, residue-AnyOf, residue-Not}
use Rattle.predicate_logic.proofs.Meanings.{folded_all-at, folded_any-at}
use Rattle.predicate_logic.proofs.residues.+residue.Goals as goal

pub residue-returns-in-All : goal.residue-returns-in-All
residue-returns-in-All t c =
    subst (λ (a : Pred). IfOk c.residue_of_all.result (λ rest. rest ≡ a))
    (ap (λ (preds : List Pred). folded_all (residues c.args.field c.args.value preds)) c.as_slice.ensures
    ∙ sym (ap (λ (a : Pred). residue c.args.field c.args.value a) c.in-All.is ∙ residue-All _ _ _))
    c.residue_of_all.ensures

pub residue-returns-in-AnyOf : goal.residue-returns-in-AnyOf
residue-returns-in-AnyOf t c =
    subst (λ (a : Pred). IfOk c.residue_of_any.result (λ rest. rest ≡ a))
    (ap (λ (preds : List Pred). folded_any (residues c.args.field c.args.value preds)) c.as_slice-in-AnyOf.ensures
    ∙ sym (ap (λ (a : Pred). residue c.args.field c.args.value a) c.in-AnyOf.is ∙ residue-AnyOf _ _ _))
    c.residue_of_any.ensures

pub residue-returns-in_ok-residue-in-Not : goal.residue-returns-in_ok-residue-in-Not
residue-returns-in_ok-residue-in-Not t c =
    subst (λ (a : Pred). IfOk c.not_of.result (λ rest. rest ≡ a))
    (ap folded_not (c.in_ok-residue-in-Not.ensures ∙ ap (λ (a : Pred). residue c.args.field c.args.value a) c.get.ensures)
    ∙ sym (ap (λ (a : Pred). residue c.args.field c.args.value a) c.in-Not.is ∙ residue-Not _ _ _))
    c.not_of.ensures

pub residue_of_all-returns-in-No : goal.residue_of_all-returns-in-No
residue_of_all-returns-in-No t c = folded_all-at _ _ c.args.preds.now c.loop-pred.pred-index c.pred-item.result c.loop-pred-test.true c.pred-item.is (sym c.in_ok-rest.ensures ∙ c.in-No.is)

pub residue_of_any-returns-in-Yes : goal.residue_of_any-returns-in-Yes
residue_of_any-returns-in-Yes t c = folded_any-at _ _ c.args.preds.now c.loop-pred.pred-index c.pred-item.result c.loop-pred-test.true c.pred-item.is (sym c.in_ok-rest.ensures ∙ c.in-Yes.is)
