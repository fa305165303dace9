use Rattle.std.proofs.Common.{List, not, sym, ◌∙◌, ap}
use Rattle.std.specs.List.{list_all, list_any}
use Rattle.std.proofs.lemmas.Result.{IfOk-weaker}
use Rattle.merlin_model.specs.declared.policy.Pred.{Pred}
use Rattle.merlin_model.specs.Predicates.{holds, All-holds, AnyOf-holds, Not-holds}
use Rattle.predicate_split.proofs.stretches.+narrowed.Goals as goal

pub narrowed-returns-in-All : goal.narrowed-returns-in-All
narrowed-returns-in-All t c =
    IfOk-weaker c.narrowed_all.result _ _
    (λ rest h q at. h q at ∙ ap (λ (preds : List Pred). list_all (λ pred. holds pred q) preds) c.as_slice.ensures ∙ sym (ap (λ (pred : Pred). holds pred q) c.in-All.is ∙ All-holds c.in-All.preds q))
    c.narrowed_all.ensures

pub narrowed-returns-in-AnyOf : goal.narrowed-returns-in-AnyOf
narrowed-returns-in-AnyOf t c =
    IfOk-weaker c.narrowed_any.result _ _
    (λ rest h q at. h q at ∙ ap (λ (preds : List Pred). list_any (λ pred. holds pred q) preds) c.as_slice-in-AnyOf.ensures ∙ sym (ap (λ (pred : Pred). holds pred q) c.in-AnyOf.is ∙ AnyOf-holds c.in-AnyOf.preds q))
    c.narrowed_any.ensures

pub narrowed-returns-in_ok-narrowed-in-Not : goal.narrowed-returns-in_ok-narrowed-in-Not
narrowed-returns-in_ok-narrowed-in-Not t c =
    IfOk-weaker c.not_of.result _ _
    (λ rest e q at.
    ap (λ (pred : Pred). holds pred q) e ∙ Not-holds c.in_ok-narrowed-in-Not.field-0 q
    ∙ ap not (c.in_ok-narrowed-in-Not.ensures q at ∙ ap (λ (pred : Pred). holds pred q) c.get.ensures)
    ∙ sym (ap (λ (pred : Pred). holds pred q) c.in-Not.is ∙ Not-holds c.in-Not.pred q))
    c.not_of.ensures
