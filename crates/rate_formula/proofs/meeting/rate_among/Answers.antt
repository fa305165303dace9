use Rattle.std.proofs.Common.{◌≡◌, ◌∙◌, ap, sym, false, List, ℕ, bytes_eq, get_or}
use Rattle.rate_formula.proofs.Among.{rate_among-next}
use Rattle.rate_formula.proofs.meeting.rate_among.Goals as goal

pub loop-place-preserved : goal.loop-place-preserved
loop-place-preserved c =
    let other : bytes_eq (get_or c.args.ids.now c.loop-place.place c.index-ids-place.result) c.args.id.now ≡ false =
    ap (λ (name : List ℕ). bytes_eq name c.args.id.now) (sym (c.bytes.ensures ∙ c.index-ids-place.is)) ∙ ap (λ (name : List ℕ). bytes_eq c.bytes.result.now name) (sym c.bytes-in-loop-place.ensures) ∙ sym c.eq.ensures ∙ c.if-eq.false in
    rate_among-next c.args.ids.now c.args.usage.now c.loop-place.place c.args.id.now c.index-ids-place.result c.requires c.loop-place-test.true other ∙ c.loop-place.invariant
