use Rattle.std.proofs.Common.{sym, ◌∙◌, refl}
use Rattle.negotiator.proofs.MarkedPlaces.{clash, id-here, id-later}
use Rattle.negotiator.proofs.marking.has_id.Goals as goal

pub returns-then-is_id : goal.returns-then-is_id
returns-then-is_id c =
    (λ t. c.loop-part.invariant.1 (id-here c.args.parts.now c.loop-part.part-index c.part-item.result c.args.id.now c.loop-part-test.true c.part-item.is (c.is_id.ensures.0 c.if-is_id.true)), λ h. refl)

pub loop-part-preserved : goal.loop-part-preserved
loop-part-preserved c =
    let later = id-later c.args.parts.now c.loop-part.part-index c.part-item.result c.args.id.now c.loop-part-test.true c.part-item.is (λ e. clash (sym c.if-is_id.false ∙ c.is_id.ensures.1 e)) in
    (λ h. later.0 (c.loop-part.invariant.0 h), λ h. c.loop-part.invariant.1 (later.1 h))
