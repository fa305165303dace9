use Rattle.std.proofs.Common.{◌≡◌, ◌≤◌, not, List, length, Contains, Some, sym, ◌∙◌, ap, subst, arith}
use Rattle.std.proofs.lemmas.Option.{slice_get-get_or}
use Rattle.merlin_model.specs.declared.policy.Bound.{Bound}
use Rattle.merlin_model.specs.declared.policy.Bound.TheVariants.{Min}
use Rattle.merlin_model.specs.declared.policy.Term.{Term}
use Rattle.merlin_model.specs.Rates.{is_max}
use Rattle.refinement_model.specs.Refinement.{IsIn}
use Rattle.negotiator.proofs.MarkedPlaces.{clash}
use Rattle.negotiator.proofs.InOrder.{one-further, of-all}
use Rattle.negotiator.proofs.marking.is_reserved.Goals.{else-is_min-via-then-is_min+else-is_bounded, else-is_min-via-else-is_min}
use Rattle.negotiator.proofs.marking.is_reserved.Goals as goal

pub loop-term-preserved : goal.loop-term-preserved
loop-term-preserved c =
    one-further c.args.terms.now (λ (t : Term). t.bound ≡ Min → ¬ IsIn c.args.policy.now.policy t c.args.statement) c.loop-term.term-index c.term-item.result
    (slice_get-get_or c.args.terms.now c.loop-term.term-index c.term-item.result c.loop-term-test.true ∙ ap (λ (t : Term). Some t) (sym c.term-item.is)) c.loop-term.invariant
    (elim c.else-is_min.branch [
      | else-is_min-via-then-is_min+else-is_bounded w ↦ λ bound h. clash (sym w.if-is_bounded.false ∙ w.is_bounded.ensures.1 h)
      | else-is_min-via-else-is_min w ↦ λ bound h. clash (sym w.if-is_min.false ∙ (c.is_min.ensures ∙ ap (λ (b : Bound). not (is_max b)) bound))
    ])

pub returns : goal.returns
returns c = (
  λ t. clash t,
  λ r. absurd (
      let past : length c.args.terms.now ≤ c.loop-term.term-index = (let test = c.loop-term-test.false in omega (arith, test)) in
      of-all c.args.terms.now (λ (t : Term). t.bound ≡ Min → ¬ IsIn c.args.policy.now.policy t c.args.statement) c.loop-term.term-index past c.loop-term.invariant r.term (subst (λ (ts : List Term). Contains ts r.term) (sym c.requires) r.present) r.is_min r.bounds
      ),
)
