-- Where the first wrong part of a text begins.
use Rattle.std.proofs.Common.{◌⊎◌, ◌≡◌, ◌+◌, ◌-◌, ◌<◌, ◌≤◌, ◌==◌, inl, inr, ℕ, Bool, true, false, cond, List, [], ◌∷◌, length, take, drop, get_or, refl, sym, ap, ◌∙◌, subst, arith, length-drop}
use Rattle.std.proofs.lemmas.List.{length-take-le, take_all, take-take}
use Rattle.std.specs.List.{join_with_byte}
use Rattle.std.proofs.lemmas.List.Splits.{join_with_byte-slice_split, length-slice_split}
use Rattle.merlin_model.specs.declared.policy.Field.{Field}
use Rattle.merlin_model.specs.declared.policy.Field.TheVariants.{EthSrc}
use Rattle.merlin_model.specs.Packets.{Packet, IsPacket, field_of}
use Rattle.merlin_model.specs.Predicates.{IsPort}
use Rattle.packet_model.specs.Fields.{packet_with}
use Rattle.packet_model.specs.Texts.{length_from, IsPacketText, all_fields, IsValueText, AreValueTexts, BeginsPacket, IsFirstWrong, parts_of}
use Rattle.packet_model.proofs.ValueTexts.{AreValueTexts-take, next_part, next_value, no_value, AreValueTexts-length}

-- a text is as long as its parts with their commas
joined_length : (parts : List (List ℕ)) (text : List ℕ) → parts ≡ parts_of text → length (join_with_byte 44 parts) ≡ length text
joined_length parts text e = ap (λ ps. length (join_with_byte 44 ps)) e ∙ ap length (join_with_byte-slice_split 44 text)

not_seven : (i : ℕ) → i < 7 → ◌≡◌ {A = ℕ} (cond (i == 7) 1 0) 0
not_seven i lt = by (i == 7) refl
  where
    by : (b : Bool) → (i == 7) ≡ b → ◌≡◌ {A = ℕ} (cond b 1 0) 0
    by true e = absurd (grind arith)
    by false e = refl

-- one more part is read
pub one_more : (parts : List (List ℕ)) (i : ℕ) (p q : Packet) (field : Field) (part : List ℕ) (later : List (List ℕ)) → i < 7 → field ≡ get_or all_fields i EthSrc → drop i parts ≡ part ∷ later → IsPacket p → q ≡ packet_with p field (field_of field q) → IsValueText field part (field_of field q) → AreValueTexts p all_fields (take i parts) → AreValueTexts q all_fields (take (i + 1) parts)
one_more parts i p q field part later lt e left is with_it text values =
    let next = next_part parts i part later left in
    let long : length (take i parts) ≡ i = length-take-le i parts (omega arith) in
    subst (λ ps. AreValueTexts q all_fields ps) (sym next.1) (next_value p q field (take i parts) part (omega arith) (e ∙ ap (λ k. get_or all_fields k EthSrc) (sym long)) is with_it text values)

-- a part is wrong
pub wrong_part : (text unread : List ℕ) (i : ℕ) (p : Packet) (field : Field) (part : List ℕ) (later : List (List ℕ)) → i < 7 → field ≡ get_or all_fields i EthSrc → drop i (parts_of text) ≡ parts_of unread → parts_of unread ≡ part ∷ later → length unread ≤ length text → IsPacket p → AreValueTexts p all_fields (take i (parts_of text)) → ((q : Packet) → IsPacket q → (IsPort field → q.proto ≡ p.proto) → IsValueText field part (field_of field q) → ⊥) → IsFirstWrong text (length text - length unread)
wrong_part text unread i p field part later lt e left split room is values none =
    let next = next_part (parts_of text) i part later (left ∙ split) in
    let long : length (take i (parts_of text)) ≡ i = length-take-le i (parts_of text) (omega arith) in
    let rest : length (join_with_byte 44 (drop i (parts_of text))) ≡ length unread = joined_length _ unread left in
    let comma : ◌≡◌ {A = ℕ} (cond (i == 7) 1 0) 0 = not_seven i lt in
    record {
      number = i;
      before = record { packet = p; is_packet = is; values = values };
      wrong = inl (next.0, λ begin. no_value p field (take i (parts_of text)) part (omega arith) (e ∙ ap (λ k. get_or all_fields k EthSrc) (sym long)) values none (subst BeginsPacket next.1 begin));
      place = omega arith;
    }

-- a part is missing
pub missing_part : (text : List ℕ) (i : ℕ) (p : Packet) → i < 7 → i ≤ length (parts_of text) → drop i (parts_of text) ≡ [] → IsPacket p → AreValueTexts p all_fields (take i (parts_of text)) → IsFirstWrong text (length text)
missing_part text i p lt within left is values =
    let rest : length (join_with_byte 44 (drop i (parts_of text))) ≡ 0 = ap (λ ps. length (join_with_byte 44 ps)) left in
    let comma : ◌≡◌ {A = ℕ} (cond (i == 7) 1 0) 0 = not_seven i lt in
    let none : length (parts_of text) - i ≡ 0 = sym (length-drop i (parts_of text)) ∙ ap length left in
    record {
      number = i;
      before = record { packet = p; is_packet = is; values = values };
      wrong = inr (omega arith, lt);
      place = omega arith;
    }

-- more follows the seventh part
pub more_parts : (text more : List ℕ) (p : Packet) → drop 7 (parts_of text) ≡ parts_of more → length more < length text → IsPacket p → AreValueTexts p all_fields (take 7 (parts_of text)) → IsFirstWrong text (length text - length more - 1)
more_parts text more p left room is values =
    let rest : length (join_with_byte 44 (drop 7 (parts_of text))) ≡ length more = joined_length _ more left in
    let some : length (parts_of text) - 7 ≡ length (parts_of more) = sym (length-drop 7 (parts_of text)) ∙ ap length left in
    let one : 0 < length (parts_of more) = omega (arith, length-slice_split (λ byte. byte == 44) more) in
    let eight : 8 ≤ length (parts_of text) = omega arith in
    record {
      number = 7;
      before = record { packet = p; is_packet = is; values = values };
      wrong = inl (omega arith, λ begin. omega (arith, AreValueTexts-length begin.packet all_fields (take 8 (parts_of text)) begin.values, length-take-le 8 (parts_of text) eight));
      place = omega arith;
    }

-- all parts are read, and no more follow
pub whole_text : (text : List ℕ) (i : ℕ) (p : Packet) → i ≡ 7 → i ≤ length (parts_of text) → drop i (parts_of text) ≡ [] → IsPacket p → AreValueTexts p all_fields (take i (parts_of text)) → IsPacketText text p
whole_text text i p seven within left is values =
    let none : length (parts_of text) - i ≡ 0 = sym (length-drop i (parts_of text)) ∙ ap length left in
    record {
      packet = is;
      seven = omega arith;
      values = subst (λ parts. AreValueTexts p all_fields parts) (take_all i (parts_of text) (omega arith)) values;
    }

-- a text has one first wrong part
none_before : (text : List ℕ) (a b : ℕ) (first : IsFirstWrong text a) (second : IsFirstWrong text b) → first.number < second.number → ⊥
none_before text a b first second less = by first.wrong within
  where
    within : second.number ≤ length (parts_of text)
    within = at_most second.wrong
      where
        at_most : ((second.number < length (parts_of text)) × (BeginsPacket (take (second.number + 1) (parts_of text)) → ⊥)) ⊎ ((second.number ≡ length (parts_of text)) × (second.number < 7)) → second.number ≤ length (parts_of text)
        at_most (inl h) = omega (arith, h.0)
        at_most (inr h) = omega (arith, h.0)

    by : ((first.number < length (parts_of text)) × (BeginsPacket (take (first.number + 1) (parts_of text)) → ⊥)) ⊎ ((first.number ≡ length (parts_of text)) × (first.number < 7)) → second.number ≤ length (parts_of text) → ⊥
    by (inl h) w = h.1 (record {
      packet = second.before.packet;
      is_packet = second.before.is_packet;
      values = subst (λ parts. AreValueTexts second.before.packet all_fields parts) (take-take (first.number + 1) second.number (parts_of text) (omega arith)) (AreValueTexts-take second.before.packet (first.number + 1) all_fields (take second.number (parts_of text)) second.before.values);
    })
    by (inr h) w = omega (arith, h.0)

pub one_place : (text : List ℕ) (a b : ℕ) → IsFirstWrong text a → IsFirstWrong text b → a ≡ b
one_place text a b first second =
    let left : first.number < second.number → ⊥ = none_before text a b first second in
    let right : second.number < first.number → ⊥ = none_before text b a second first in
    let same : first.number ≡ second.number = omega arith in
    let place : a + length_from second.number (parts_of text) ≡ length text = subst (λ n. a + length_from n (parts_of text) ≡ length text) same first.place in
    omega (arith, place, second.place)
