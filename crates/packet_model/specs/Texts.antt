-- The text of a packet: seven parts joined by commas.
use Rattle.std.specs.Prelude.{ℕ, ◌≡◌, ◌<◌, ◌+◌, ◌==◌, ◌^◌, ◌⊎◌, ⊤, Option, None, Some, List, [], ◌∷◌, length, take, drop, if◌then◌else◌}
use Rattle.std.specs.List.{slice_split, join_with_byte}
use Rattle.std.specs.Borrow.{Bor}
use Rattle.std.specs.Fmt.{decimal}
use Rattle.merlin_model.specs.declared.policy.Field.{Field}
use Rattle.merlin_model.specs.declared.policy.Field.TheVariants.{EthSrc, EthDst, IpSrc, IpDst, Proto, Sport, Dport}
use Rattle.merlin_model.specs.Packets.{Packet, IsPacket, field_of}
use Rattle.packet_model.specs.declared.reading.PacketFault.{PacketFault}
use Rattle.packet_model.specs.declared.reading.PacketFault.TheVariants.{BadPacket}
use Rattle.merlin_base.specs.Lexemes.{IsMac, IsIp, IsDecimal}
use Rattle.merlin_base.specs.Addresses.{mac_text, ip_text}

-- the fields in the order in which a packet is written
abbrev pub all_fields : List Field
all_fields = EthSrc ∷ EthDst ∷ IpSrc ∷ IpDst ∷ Proto ∷ Sport ∷ Dport ∷ []

-- how a value of the field is written: a Mac, an IPv4 address, or a number that fits
abbrev pub IsValueText : Field → List ℕ → ℕ → Type 0
IsValueText EthSrc text n = IsMac text n
IsValueText EthDst text n = IsMac text n
IsValueText IpSrc text n = IsIp text n
IsValueText IpDst text n = IsIp text n
IsValueText Proto text n = IsDecimal text n × (n < 2 ^ 8)
IsValueText Sport text n = IsDecimal text n × (n < 2 ^ 16)
IsValueText Dport text n = IsDecimal text n × (n < 2 ^ 16)

-- what stands between the commas of a text
abbrev pub parts_of : List ℕ → List (List ℕ)
parts_of text = slice_split (λ byte. byte == 44) text

-- the parts of a text that may be missing
abbrev pub later_parts : Option (Bor (List ℕ)) → List (List ℕ)
later_parts None = []
later_parts (Some text) = parts_of text.now

-- the parts are texts of the packet's values of these fields, each part of its own field, from the first on
abbrev pub AreValueTexts : Packet → List Field → List (List ℕ) → Type 0
AreValueTexts p fields [] = ⊤
AreValueTexts p [] (part ∷ parts) = ⊥
AreValueTexts p (field ∷ fields) (part ∷ parts) = IsValueText field part (field_of field p) × AreValueTexts p fields parts

-- the text stands for the packet
pub record IsPacketText (text : List ℕ) (p : Packet) : Type 0 where
  pub packet : IsPacket p
  pub seven : length (parts_of text) ≡ 7
  pub values : AreValueTexts p all_fields (parts_of text)

-- the text of some packet begins with these parts
pub record BeginsPacket (parts : List (List ℕ)) : Type 0 where
  pub packet : Packet
  pub is_packet : IsPacket packet
  pub values : AreValueTexts packet all_fields parts

-- the length of what is left of a text from the part of this number on, counted from 0; what follows the seventh
-- part begins with its comma
abbrev pub length_from : ℕ → List (List ℕ) → ℕ
length_from number parts = length (join_with_byte 44 (drop number parts)) + (if number == 7 then 1 else 0)

-- The first part that is wrong or missing stands at this place: some packet's text begins with the parts before it, and
-- none does with this part too, or the part is missing though fewer than seven stand.
pub record IsFirstWrong (text : List ℕ) (at : ℕ) : Type 0 where
  pub number : ℕ
  pub before : BeginsPacket (take number (parts_of text))
  pub wrong : ((number < length (parts_of text)) × (BeginsPacket (take (number + 1) (parts_of text)) → ⊥)) ⊎ ((number ≡ length (parts_of text)) × (number < 7))
  pub place : at + length_from number (parts_of text) ≡ length text

-- the place that a fault names
abbrev pub fault_place : PacketFault → ℕ
fault_place (BadPacket at) = at

-- a packet as it is printed, with Macs in lower case
abbrev pub packet_text : Packet → List ℕ
packet_text p = join_with_byte 44 (mac_text p.eth_src ∷ mac_text p.eth_dst ∷ ip_text p.ip_src ∷ ip_text p.ip_dst ∷ decimal p.proto ∷ decimal p.sport ∷ decimal p.dport ∷ [])
