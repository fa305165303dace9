use Rattle.std.proofs.Common.{◌≡◌, ◌≤◌, ◌+◌, List, length, Contains, Some, slice_get, add-one, sym, ◌∙◌, ap, subst, arith}
use Rattle.std.proofs.lemmas.Option.{slice_get-get_or}
use Rattle.std.proofs.lemmas.Result.{err_from_is_err_and}
use Rattle.merlin_model.specs.declared.policy.Bound.TheVariants.{Max}
use Rattle.merlin_model.specs.declared.policy.Term.{Term}
use Rattle.refinement_model.specs.Refinement.{KeepsCap}
use Rattle.negotiator.proofs.InOrder.{first-cap, one-further, of-all}
use Rattle.negotiator.proofs.asking.ask_caps.Goals as goal

pub returns-in_err-ask_cap-clause-err : goal.returns-in_err-ask_cap-clause-err
returns-in_err-ask_cap-clause-err c net are =
    let p = err_from_is_err_and c.from_residual.result c.from_residual.ensures.1 in
    let at = slice_get-get_or c.args.terms.now c.loop-place.place c.index-terms-place.result c.loop-place-test.true ∙ ap (λ (t : Term). Some t) (sym c.index-terms-place.is) in
    rw (p.1, p.2)
    (first-cap net c.args.parent.now.policy c.args.child.now.policy c.loop-place.place (c.loop-place.place + 1) (add-one c.loop-place.place) c.index-terms-place.result (ap (λ (l : List Term). slice_get l c.loop-place.place) (sym c.requires.terms) ∙ at)
    (λ k t less e. c.loop-place.invariant net are k t less (ap (λ (l : List Term). slice_get l k) c.requires.terms ∙ e)) _ (c.in_err-ask_cap.ensures.err net are))

pub loop-place-preserved : goal.loop-place-preserved
loop-place-preserved c net are =
    let at = slice_get-get_or c.args.terms.now c.loop-place.place c.index-terms-place.result c.loop-place-test.true ∙ ap (λ (t : Term). Some t) (sym c.index-terms-place.is) in
    one-further c.args.terms.now (λ (t : Term). t.bound ≡ Max → KeepsCap net c.args.parent.now.policy c.args.child.now.policy t) c.loop-place.place c.index-terms-place.result at (c.loop-place.invariant net are) (c.in_ok-ask_cap.ensures.ok net are)

pub returns-clause-ok : goal.returns-clause-ok
returns-clause-ok c net are term contains =
    let past : length c.args.terms.now ≤ c.loop-place.place = (let test = c.loop-place-test.false in omega (arith, test)) in
    of-all c.args.terms.now (λ (t : Term). t.bound ≡ Max → KeepsCap net c.args.parent.now.policy c.args.child.now.policy t) c.loop-place.place past (c.loop-place.invariant net are) term (subst (λ (l : List Term). Contains l term) (sym c.requires.terms) contains)
