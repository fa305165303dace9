use Rattle.std.proofs.Common.{refl, sym, ◌∙◌, subst, ap, arith}
use Rattle.localise.specs.declared.localising.Rates.{Rates}
use Rattle.policy_check.specs.Ends.{AreGuaranteed, places_above}
use Rattle.policy_check.proofs.Guaranteed.{guaranteed-are}
use Rattle.policy_check.proofs.guarantees.ends.Goals as goal

pub returns-then-len-gt-MAX_GUARANTEES-clause-err : goal.returns-then-len-gt-MAX_GUARANTEES-clause-err
returns-then-len-gt-MAX_GUARANTEES-clause-err c =
    let policy = c.args.checked.now.policy in
    let are : AreGuaranteed policy c.in_ok-statements.statements.items =
    subst (AreGuaranteed policy) (sym (c.in_ok-statements.ensures ∙ ap (places_above 0) (c.as_slice.ensures ∙ ap (λ (r : Rates). r.min) c.rates.ensures))) (guaranteed-are policy (c.rates_of_statements.ensures.min policy)) in
    let many = c.if-len-gt-MAX_GUARANTEES.true in
    let long = c.len.ensures in
    ((c.in_ok-statements.statements.items, are, grind (arith, many, long)), refl)

pub ends_of_all-requires-clause-guaranteed : goal.ends_of_all-requires-clause-guaranteed
ends_of_all-requires-clause-guaranteed c =
    let policy = c.args.checked.now.policy in
    let are : AreGuaranteed policy c.in_ok-statements.statements.items =
    subst (AreGuaranteed policy) (sym (c.in_ok-statements.ensures ∙ ap (places_above 0) (c.as_slice.ensures ∙ ap (λ (r : Rates). r.min) c.rates.ensures))) (guaranteed-are policy (c.rates_of_statements.ensures.min policy)) in
    subst (AreGuaranteed policy) (sym c.deref.ensures.value) are
