use Rattle.std.proofs.Common.{◌≡◌, ◌++◌, ◌∷◌, [], ap, ◌∙◌, take, append_assoc, flat_map}
use Rattle.std.proofs.lemmas.List.{take_all}
use Rattle.std.proofs.lemmas.Result.{IfOk-weaker}
use Rattle.packet_model.proofs.Parts.{flat_map-next, flat_map-join}
use Rattle.packet_model.proofs.printing.join_parts.Goals as goal

pub loop-part-preserved : goal.loop-part-preserved
loop-part-preserved c =
    let kept : c.loop-part.text.items ≡ flat_map (λ part. part ++ 44 ∷ []) (take c.loop-part.part-index c.args.parts.now) = c.loop-part.invariant in
    let next = flat_map-next c.args.parts.now c.loop-part.part-index c.part-item.result c.loop-part-test.true in
    let regrouped = append_assoc c.loop-part.text.items c.bytes.result.now (44 ∷ []) in
    let pushed = c.in_ok-push.ensures.items in
    let extended = c.in_ok-extend_from_slice.ensures.items in
    cc

pub returns : goal.returns
returns c =
    let kept : c.loop-part.text.items ≡ flat_map (λ part. part ++ 44 ∷ []) c.args.parts.now = c.loop-part.invariant ∙ ap (λ parts. flat_map (λ part. part ++ 44 ∷ []) parts) (take_all c.loop-part.part-index c.args.parts.now c.loop-part-test.false) in
    let extended = c.in_ok-extend_from_slice-2.ensures.items in
    let whole : c.deref.result.now ≡ flat_map (λ part. part ++ 44 ∷ []) c.args.parts.now ++ c.args.last.now = cc in
    IfOk-weaker c.name_from.result _ _ (λ text is. is ∙ whole ∙ flat_map-join c.args.parts.now c.args.last.now) c.name_from.ensures
