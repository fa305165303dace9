use Rattle.std.proofs.Common.{◌≡◌, ◌<◌, ◌≤◌, IfSome, ap, ◌∙◌, refl, subst, arith, Ok, Err, length, take, drop}
use Rattle.std.proofs.lemmas.Option.{IfSome_then}
use Rattle.packet_model.specs.Texts.{later_parts, parts_of, all_fields, AreValueTexts}
use Rattle.packet_model.proofs.ValueTexts.{next_part, one_packet, IsFirstWrong-no_packet}
use Rattle.packet_model.proofs.Faults.{one_more, wrong_part, missing_part, more_parts, whole_text, one_place}
use Rattle.packet_model.specs.declared.reading.PacketFault.TheVariants.{BadPacket}
use Rattle.packet_model.proofs.reading.parse_packet.Goals as goal

pub returns-in_default-clause-place : goal.returns-in_default-clause-place
returns-in_default-clause-place c =
    let kept = c.loop-field.invariant in
    missing_part c.args.text.now c.loop-field.field-index c.loop-field.packet c.loop-field-test.true kept.within (kept.later ∙ ap later_parts c.in_default.is) kept.is_packet kept.values

pub returns-in_default-clause-only : goal.returns-in_default-clause-only
returns-in_default-clause-only c = λ p is. absurd (IsFirstWrong-no_packet _ _ p (returns-in_default-clause-place c) is)

pub loop-field-preserved : goal.loop-field-preserved
loop-field-preserved c =
    let kept = c.loop-field.invariant in
    let left = kept.later ∙ ap later_parts c.in-Some.is ∙ c.first_part.ensures.parts in
    let next = next_part (parts_of c.args.text.now) c.loop-field.field-index _ _ left in
    let room : length c.in-Some.unread.now ≤ length c.args.text.now = subst (λ r. IfSome r (λ unread. length unread.now ≤ length c.args.text.now)) c.in-Some.is kept.room in
    let shorter : IfSome c.first_part.result.1 (λ unread. length unread.now < length c.args.text.now) = IfSome_then c.first_part.result.1 c.first_part.ensures.shorter (λ unread less. omega arith) in
    record {
      within = omega (arith, next.0);
      later = next.2;
      room = IfSome_then c.first_part.result.1 shorter (λ unread less. omega arith);
      after = λ _. shorter;
      is_packet = c.in-Some-read_field.ensures.is_packet;
      values = one_more (parts_of c.args.text.now) c.loop-field.field-index c.loop-field.packet c.in-Some-read_field.read _ _ _ c.loop-field-test.true refl left kept.is_packet c.in-Some-read_field.ensures.some.0 c.in-Some-read_field.ensures.some.1 kept.values;
    }

pub returns-in_default-read_field-clause-place : goal.returns-in_default-read_field-clause-place
returns-in_default-read_field-clause-place c =
    let kept = c.loop-field.invariant in
    let room : length c.in-Some.unread.now ≤ length c.args.text.now = subst (λ r. IfSome r (λ unread. length unread.now ≤ length c.args.text.now)) c.in-Some.is kept.room in
    wrong_part c.args.text.now c.in-Some.unread.now c.loop-field.field-index c.loop-field.packet _ _ _ c.loop-field-test.true refl (kept.later ∙ ap later_parts c.in-Some.is) c.first_part.ensures.parts room kept.is_packet kept.values c.in_default-read_field.ensures.none

pub returns-in_default-read_field-clause-only : goal.returns-in_default-read_field-clause-only
returns-in_default-read_field-clause-only c = λ p is. absurd (IsFirstWrong-no_packet _ _ p (returns-in_default-read_field-clause-place c) is)

pub returns-in-Some-rest-clause-place : goal.returns-in-Some-rest-clause-place
returns-in-Some-rest-clause-place c =
    let kept = c.loop-field.invariant in
    let seven : c.loop-field.field-index ≡ 7 = omega arith in
    let room = subst (λ r. IfSome r (λ unread. length unread.now < length c.args.text.now)) c.in-Some-rest.is (kept.after (omega arith)) in
    more_parts c.args.text.now c.in-Some-rest.more.now c.loop-field.packet
    (subst (λ i. drop i (parts_of c.args.text.now) ≡ parts_of c.in-Some-rest.more.now) seven (kept.later ∙ ap later_parts c.in-Some-rest.is))
    room kept.is_packet
    (subst (λ i. AreValueTexts c.loop-field.packet all_fields (take i (parts_of c.args.text.now))) seven kept.values)

pub returns-in-Some-rest-clause-only : goal.returns-in-Some-rest-clause-only
returns-in-Some-rest-clause-only c = λ p is. absurd (IsFirstWrong-no_packet _ _ p (returns-in-Some-rest-clause-place c) is)

pub returns-in-None-clause-packet : goal.returns-in-None-clause-packet
returns-in-None-clause-packet c = let kept = c.loop-field.invariant in whole_text c.args.text.now c.loop-field.field-index c.loop-field.packet (omega arith) kept.within (kept.later ∙ ap later_parts c.in-None.is) kept.is_packet kept.values

pub returns-in-None-clause-only : goal.returns-in-None-clause-only
returns-in-None-clause-only c = λ p is. ap Ok (one_packet c.args.text.now c.loop-field.packet p (returns-in-None-clause-packet c) is)

pub returns-in_default-clause-only_place : goal.returns-in_default-clause-only_place
returns-in_default-clause-only_place c = λ at is. ap (λ place. Err (BadPacket place)) (one_place c.args.text.now _ at (returns-in_default-clause-place c) is)

pub returns-in_default-read_field-clause-only_place : goal.returns-in_default-read_field-clause-only_place
returns-in_default-read_field-clause-only_place c = λ at is. ap (λ place. Err (BadPacket place)) (one_place c.args.text.now _ at (returns-in_default-read_field-clause-place c) is)

pub returns-in-Some-rest-clause-only_place : goal.returns-in-Some-rest-clause-only_place
returns-in-Some-rest-clause-only_place c = λ at is. ap (λ place. Err (BadPacket place)) (one_place c.args.text.now _ at (returns-in-Some-rest-clause-place c) is)

pub returns-in-None-clause-only_place : goal.returns-in-None-clause-only_place
returns-in-None-clause-only_place c = λ at is. absurd (IsFirstWrong-no_packet c.args.text.now at c.loop-field.packet is (returns-in-None-clause-packet c))
