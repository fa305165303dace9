use Rattle.std.proofs.Common.{inl, rules, ℕ, take, ap, sym, ◌∙◌, subst, refl, add-one, take_all}
use Rattle.merlin_model.proofs.Members.{In}
use Rattle.predicate_split.specs.Parts.{field_parts}
use Rattle.predicate_split.specs.Overlaps.{preds_in, pair_at, IsNoLater}
use Rattle.predicate_split.specs.declared.pairs.PlacedPred.{PlacedPred}
use Rattle.std.proofs.Common.{List}
use Rattle.predicate_split.proofs.Fields.{rest_of-rest}
use Rattle.predicate_split.proofs.Leasts.{IsStep, step-range, empty_list}
use Rattle.predicate_split.proofs.TwoHolders.{no_later-refl, no_later-trans, later_pairs, recent-pair, AreTried, short-pair, settled-answer, untested-answer, pairs-next, pairs-more, pairs-all}
use Rattle.predicate_split.proofs.pairs.+pair_from.Goals as goal

pub pair_from-returns-then-entries-lt2 : goal.pair_from-returns-then-entries-lt2
pair_from-returns-then-entries-lt2 t c = short-pair c.args.fields.now c.args.packet c.args.entries.now c.args.known c.if-entries-lt2.true

pub pair_from-returns-then-are_settled : goal.pair_from-returns-then-are_settled
pair_from-returns-then-are_settled t c =
    settled-answer c.args.fields.now c.args.packet c.args.entries.now c.args.known c.earlier.result c.pair_at.result c.requires.packet (sym c.are_settled.ensures ∙ c.if-are_settled.true)
    c.pair_at.ensures c.earlier.ensures.left c.earlier.ensures.right c.earlier.ensures.either

pub pair_from-returns-in-None : goal.pair_from-returns-in-None
pair_from-returns-in-None t c =
    untested-answer c.args.fields.now c.args.packet c.args.entries.now c.args.known c.earlier-in-None.result c.pair_at-in-None.result c.requires.packet (empty_list c.args.fields.now c.in-None.ensures.cases) c.requires.fresh
    c.pair_at-in-None.ensures c.earlier-in-None.ensures.left c.earlier-in-None.ensures.right c.earlier-in-None.ensures.either

pub pair_within-with-requires : goal.pair_within-with-requires
pair_within-with-requires t c =
    let step : IsStep c.args.field c.args.rest.now c.args.packet (preds_in c.args.entries.now) c.deref-value-items.result.now = record {
      rest = c.requires.rest;
      packet = c.value.ensures.packet;
      fresh = c.requires.fresh;
      opened = c.requires.opened;
      parts = c.deref-value-items.ensures.value ∙ c.in_ok-values.ensures ∙ ap (λ (n : ℕ). field_parts c.args.field n (preds_in c.args.entries.now)) c.value.ensures.value;
    } in
    step-range _ _ _ _ _ c.loop-value.value-index _ step c.loop-value-test.true refl

pub pair_within-pair_unless-requires : goal.pair_within-pair_unless-requires
pair_within-pair_unless-requires t c =
    let step : IsStep c.args.field c.args.rest.now c.args.packet (preds_in c.args.entries.now) c.deref-value-items.result.now = record {
      rest = c.requires.rest;
      packet = c.value.ensures.packet;
      fresh = c.requires.fresh;
      opened = c.requires.opened;
      parts = c.deref-value-items.ensures.value ∙ c.in_ok-values.ensures ∙ ap (λ (n : ℕ). field_parts c.args.field n (preds_in c.args.entries.now)) c.value.ensures.value;
    } in
    let next = pairs-next _ _ _ c.with.result c.args.entries.now c.as_slice.result.now _ c.loop-value.value-index _ step c.loop-value-test.true refl c.with.ensures.with (c.as_slice.ensures ∙ c.in_ok-left.ensures) in
    (search rules, (rest_of-rest _ _ c.requires.rest, (next.0, (next.1, (c.with.ensures.packet, (c.loop-value.invariant.last, c.loop-value.invariant.earlier))))))

pub pair_within-loop-value-preserved : goal.pair_within-loop-value-preserved
pair_within-loop-value-preserved t c =
    let step : IsStep c.args.field c.args.rest.now c.args.packet (preds_in c.args.entries.now) c.deref-value-items.result.now = record {
      rest = c.requires.rest;
      packet = c.value.ensures.packet;
      fresh = c.requires.fresh;
      opened = c.requires.opened;
      parts = c.deref-value-items.ensures.value ∙ c.in_ok-values.ensures ∙ ap (λ (n : ℕ). field_parts c.args.field n (preds_in c.args.entries.now)) c.value.ensures.value;
    } in
    let before : AreTried c.args.field c.args.rest.now c.args.packet c.args.entries.now (take c.loop-value.value-index c.deref-value-items.result.now) c.args.known c.loop-value.found = record {
      tried = c.loop-value.invariant.tried;
      no_worse = c.loop-value.invariant.no_worse;
      attained = c.loop-value.invariant.attained;
    } in
    let more = pairs-more _ _ _ c.with.result c.args.entries.now c.as_slice.result.now _ c.loop-value.value-index _ c.args.known c.loop-value.found c.in_ok-found.found step c.loop-value-test.true refl
    c.with.ensures.with (c.as_slice.ensures ∙ c.in_ok-left.ensures) before c.in_ok-found.ensures in
    record { tried = λ u i. more.tried u (rw add-one at i); last = later_pairs _ _ _ c.in_ok-found.found c.renewed_preds-recent.ensures.last (λ q packet. no_later-trans c.in_ok-found.found c.loop-value.found _ c.in_ok-found.ensures.no_worse (c.loop-value.invariant.last q packet)) (λ q packet. subst (λ (l : List PlacedPred). IsNoLater c.in_ok-found.found (pair_at l q)) c.as_slice.ensures (c.in_ok-found.ensures.least q packet)); earlier = later_pairs _ _ _ c.in_ok-found.found c.renewed_preds-recent.ensures.earlier (λ q packet. no_later-trans c.in_ok-found.found c.loop-value.found _ c.in_ok-found.ensures.no_worse (c.loop-value.invariant.last q packet)) (λ q packet. no_later-trans c.in_ok-found.found c.loop-value.found _ c.in_ok-found.ensures.no_worse (c.loop-value.invariant.earlier q packet)); no_worse = more.no_worse; attained = more.attained }

pub pair_within-returns : goal.pair_within-returns
pair_within-returns t c =
    let step : IsStep c.args.field c.args.rest.now c.args.packet (preds_in c.args.entries.now) c.deref-value-items.result.now = record {
      rest = c.requires.rest;
      packet = c.value.ensures.packet;
      fresh = c.requires.fresh;
      opened = c.requires.opened;
      parts = c.deref-value-items.ensures.value ∙ c.in_ok-values.ensures ∙ ap (λ (n : ℕ). field_parts c.args.field n (preds_in c.args.entries.now)) c.value.ensures.value;
    } in
    pairs-all _ _ _ c.args.entries.now _ c.args.known c.loop-value.found step (record {
      tried = λ u i. c.loop-value.invariant.tried u (subst (In u) (sym (take_all c.loop-value.value-index c.deref-value-items.result.now c.loop-value-test.false)) i);
      no_worse = c.loop-value.invariant.no_worse;
      attained = c.loop-value.invariant.attained;
    })

pub pair_unless-returns-then-are_recent : goal.pair_unless-returns-then-are_recent
pair_unless-returns-then-are_recent t c = recent-pair c.args.fields.now c.args.packet c.args.entries.now _ _ c.args.known (c.are_recent.ensures c.if-are_recent.true) c.requires.last c.requires.earlier

pub pair_within-loop-value-init : goal.pair_within-loop-value-init
pair_within-loop-value-init t c = record {
  tried = λ u i. absurd i;
  last = λ q packet. subst (λ (l : List PlacedPred). IsNoLater c.args.known (pair_at l q)) (sym c.new.ensures) tt;
  earlier = λ q packet. subst (λ (l : List PlacedPred). IsNoLater c.args.known (pair_at l q)) (sym c.new-2.ensures) tt;
  no_worse = no_later-refl c.args.known;
  attained = inl refl;
}
