use Rattle.std.proofs.Common.{◌≡◌, ◌<◌, ◌≤◌, length, take, drop, IfSome}
use Rattle.merlin_model.specs.Packets.{IsPacket}
use Rattle.packet_model.specs.Texts.{all_fields, AreValueTexts, parts_of, later_parts}
use Rattle.packet_model.proofs.reading.parse_packet.Given as goal

abbrev pub invariant-loop-field : goal.invariant-loop-field
invariant-loop-field l = record {
  within : l.field-index ≤ length (parts_of l.text);
  later : drop l.field-index (parts_of l.text) ≡ later_parts l.rest;
  room : IfSome l.rest (λ unread. length unread.now ≤ length l.text);
  after : 0 < l.field-index → IfSome l.rest (λ unread. length unread.now < length l.text);
  is_packet : IsPacket l.packet;
  values : AreValueTexts l.packet all_fields (take l.field-index (parts_of l.text));
}
