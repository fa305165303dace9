use Rattle.std.proofs.Common.{rules, ◌∷◌, [], ℕ, List, ap, sym, ◌∙◌, subst, refl, add-one, take_all}
use Rattle.merlin_model.specs.declared.policy.Field.{Field}
use Rattle.merlin_model.specs.declared.policy.Pred.{Pred}
use Rattle.merlin_model.specs.Predicates.{holds}
use Rattle.merlin_model.proofs.Members.{In}
use Rattle.predicate_split.specs.Parts.{field_parts}
use Rattle.predicate_split.specs.Walks.{HoldsNowhere}
use Rattle.predicate_split.specs.Walks.{AreFresh}
use Rattle.predicate_split.proofs.Fields.{rest_of-rest}
use Rattle.predicate_split.proofs.Leasts.{IsStep, settled-least, untested-nowhere, step-range, step-next, step-answer, step-tried, step-none, none_found, some_found, either_nowhere, empty_list}
use Rattle.predicate_split.proofs.least.+least_from.Goals as goal

pub least_from-returns-in-Yes-clause-some : goal.least_from-returns-in-Yes-clause-some
least_from-returns-in-Yes-clause-some t c = settled-least c.args.fields.now c.args.packet c.args.pred.now c.requires.opened (ap (λ (q : Pred). holds q c.args.packet) c.in-Yes.is)

pub least_from-returns-else-holds : goal.least_from-returns-else-holds
least_from-returns-else-holds t c = record {
  some = tt;
  none = untested-nowhere c.args.packet c.args.pred.now (subst (λ (fs : List Field). AreFresh fs c.args.packet.proto (c.args.pred.now ∷ [])) (empty_list c.args.fields.now c.in-None.ensures.cases) c.requires.fresh) (sym c.holds.ensures ∙ c.if-holds.false);
}

pub least_within-with-requires : goal.least_within-with-requires
least_within-with-requires t c =
    let step : IsStep c.args.field c.args.rest.now c.args.packet (c.args.pred.now ∷ []) c.deref-value-items.result.now = record {
      rest = c.requires.rest;
      packet = c.value.ensures.packet;
      fresh = c.requires.fresh;
      opened = c.requires.opened;
      parts = c.deref-value-items.ensures.value ∙ c.in_ok-values.ensures ∙ ap (λ (l : List Pred). field_parts c.args.field c.value.result l) c.from_ref.ensures.value ∙ ap (λ (n : ℕ). field_parts c.args.field n (c.args.pred.now ∷ [])) c.value.ensures.value;
    } in
    step-range _ _ _ _ _ c.loop-value.value-index _ step c.loop-value-test.true refl

pub least_within-least_unless-requires : goal.least_within-least_unless-requires
least_within-least_unless-requires t c =
    let step : IsStep c.args.field c.args.rest.now c.args.packet (c.args.pred.now ∷ []) c.deref-value-items.result.now = record {
      rest = c.requires.rest;
      packet = c.value.ensures.packet;
      fresh = c.requires.fresh;
      opened = c.requires.opened;
      parts = c.deref-value-items.ensures.value ∙ c.in_ok-values.ensures ∙ ap (λ (l : List Pred). field_parts c.args.field c.value.result l) c.from_ref.ensures.value ∙ ap (λ (n : ℕ). field_parts c.args.field n (c.args.pred.now ∷ [])) c.value.ensures.value;
    } in
    let next = step-next _ _ _ c.with.result _ c.in_ok-left.left _ c.loop-value.value-index _ step c.loop-value-test.true refl c.with.ensures.with c.in_ok-left.ensures.is in
    (search rules, (rest_of-rest _ _ c.requires.rest, (next.0, (next.1, (c.loop-value.invariant.last, c.loop-value.invariant.earlier)))))

pub least_within-returns-then-is_some-clause-some : goal.least_within-returns-then-is_some-clause-some
least_within-returns-then-is_some-clause-some t c =
    let step : IsStep c.args.field c.args.rest.now c.args.packet (c.args.pred.now ∷ []) c.deref-value-items.result.now = record {
      rest = c.requires.rest;
      packet = c.value.ensures.packet;
      fresh = c.requires.fresh;
      opened = c.requires.opened;
      parts = c.deref-value-items.ensures.value ∙ c.in_ok-values.ensures ∙ ap (λ (l : List Pred). field_parts c.args.field c.value.result l) c.from_ref.ensures.value ∙ ap (λ (n : ℕ). field_parts c.args.field n (c.args.pred.now ∷ [])) c.value.ensures.value;
    } in
    step-answer _ _ _ c.with.result _ c.in_ok-left.left _ c.loop-value.value-index _ step c.loop-value-test.true refl c.with.ensures.with c.in_ok-left.ensures.is c.loop-value.invariant.tried c.in_ok-found.found c.in_ok-found.ensures.some

pub least_within-loop-value-preserved : goal.least_within-loop-value-preserved
least_within-loop-value-preserved t c =
    let nowhere : HoldsNowhere c.in_ok-left.left = none_found c.in_ok-found.found _ (sym c.is_some.ensures ∙ c.if-is_some.false) c.in_ok-found.ensures.none in
    record {
      tried = λ u i. step-tried c.args.field c.args.pred.now c.deref-value-items.result.now c.loop-value.value-index _ c.loop-value-test.true refl c.loop-value.invariant.tried
          (subst HoldsNowhere c.in_ok-left.ensures.is nowhere) u (rw add-one at i);
      last = either_nowhere _ _ _ c.renewed-recent.ensures.last c.loop-value.invariant.last nowhere;
      earlier = either_nowhere _ _ _ c.renewed-recent.ensures.earlier c.loop-value.invariant.last c.loop-value.invariant.earlier;
    }

pub least_within-returns-clause-none : goal.least_within-returns-clause-none
least_within-returns-clause-none t c =
    let step : IsStep c.args.field c.args.rest.now c.args.packet (c.args.pred.now ∷ []) c.deref-value-items.result.now = record {
      rest = c.requires.rest;
      packet = c.value.ensures.packet;
      fresh = c.requires.fresh;
      opened = c.requires.opened;
      parts = c.deref-value-items.ensures.value ∙ c.in_ok-values.ensures ∙ ap (λ (l : List Pred). field_parts c.args.field c.value.result l) c.from_ref.ensures.value ∙ ap (λ (n : ℕ). field_parts c.args.field n (c.args.pred.now ∷ [])) c.value.ensures.value;
    } in
    step-none _ _ _ _ _ step (λ u i. c.loop-value.invariant.tried u (subst (In u) (sym (take_all c.loop-value.value-index c.deref-value-items.result.now c.loop-value-test.false)) i))

pub least_within-returns-then-is_some-clause-none : goal.least_within-returns-then-is_some-clause-none
least_within-returns-then-is_some-clause-none t c = some_found c.in_ok-found.found _ (sym c.is_some.ensures ∙ c.if-is_some.true)

pub least_unless-returns-then-is_recent-clause-none : goal.least_unless-returns-then-is_recent-clause-none
least_unless-returns-then-is_recent-clause-none t c = either_nowhere _ _ _ (c.is_recent.ensures c.if-is_recent.true) c.requires.last c.requires.earlier
