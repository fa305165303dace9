-- The fields of a match, each with its key and a number: the tag of `dl_vlan` is 0 for `none`, and the number of `dl_type` is 0.
use Rattle.std.specs.Prelude.{ℕ, ◌≡◌, ◌++◌, ◌∷◌, ◌==◌, true, List, Some, codes, if◌then◌else◌}
use Rattle.std.specs.Fmt.{decimal}
use Rattle.merlin_model.specs.declared.config.Vlan.{Vlan}
use Rattle.merlin_model.specs.declared.config.Vlan.TheVariants.{Untagged, Tag}
use Rattle.merlin_model.specs.declared.config.Match.{Match}
use Rattle.merlin_base.specs.Addresses.{mac_text, ip_text}
use Rattle.config_lines.specs.declared.fields.Key.{Key}
use Rattle.config_lines.specs.declared.fields.Key.TheVariants.{InPort, DlSrc, DlDst, DlVlan, DlType, NwProto, NwSrc, NwDst, TpSrc, TpDst}
use Rattle.config_lines.specs.declared.limits.TheConstants.{MAX_TAG}
use Rattle.config_lines.specs.Words.{IsLimited, IsPortNumber}
use Rattle.config_lines.specs.Parts.{IsMacNumber, IsIpNumber, HasOneByte, HasTwoBytes}

abbrev pub key_word : Key → List ℕ
key_word InPort = codes "in_port"
key_word DlSrc = codes "dl_src"
key_word DlDst = codes "dl_dst"
key_word DlVlan = codes "dl_vlan"
key_word DlType = codes "dl_type"
key_word NwProto = codes "nw_proto"
key_word NwSrc = codes "nw_src"
key_word NwDst = codes "nw_dst"
key_word TpSrc = codes "tp_src"
key_word TpDst = codes "tp_dst"

-- the place of a field among all
abbrev pub key_rank : Key → ℕ
key_rank InPort = 0
key_rank DlSrc = 1
key_rank DlDst = 2
key_rank DlVlan = 3
key_rank DlType = 4
key_rank NwProto = 5
key_rank NwSrc = 6
key_rank NwDst = 7
key_rank TpSrc = 8
key_rank TpDst = 9

abbrev pub vlan_number_text : ℕ → List ℕ
vlan_number_text n = if n == 0 then codes "none" else decimal n

abbrev pub field_value_text : Key → ℕ → List ℕ
field_value_text InPort n = decimal n
field_value_text DlSrc n = mac_text n
field_value_text DlDst n = mac_text n
field_value_text DlVlan n = vlan_number_text n
field_value_text DlType n = codes "0x0800"
field_value_text NwProto n = decimal n
field_value_text NwSrc n = ip_text n
field_value_text NwDst n = ip_text n
field_value_text TpSrc n = decimal n
field_value_text TpDst n = decimal n

abbrev pub IsValue : Key → ℕ → Type 0
IsValue InPort n = IsPortNumber n
IsValue DlSrc n = IsMacNumber n
IsValue DlDst n = IsMacNumber n
IsValue DlVlan n = IsLimited 0 MAX_TAG n
IsValue DlType n = n ≡ 0
IsValue NwProto n = HasOneByte n
IsValue NwSrc n = IsIpNumber n
IsValue NwDst n = IsIpNumber n
IsValue TpSrc n = HasTwoBytes n
IsValue TpDst n = HasTwoBytes n

-- a key and its number
abbrev pub field_text : Key → ℕ → List ℕ
field_text key n = key_word key ++ 61 ∷ field_value_text key n

abbrev pub vlan_of_tag : ℕ → Vlan
vlan_of_tag n = if n == 0 then Untagged else Tag n

-- the match with one field set
abbrev pub match_with : Match → Key → ℕ → Match
match_with m InPort n = record m { in_port = Some n }
match_with m DlSrc n = record m { dl_src = Some n }
match_with m DlDst n = record m { dl_dst = Some n }
match_with m DlVlan n = record m { dl_vlan = Some (vlan_of_tag n) }
match_with m DlType n = record m { dl_type = true }
match_with m NwProto n = record m { nw_proto = Some n }
match_with m NwSrc n = record m { nw_src = Some n }
match_with m NwDst n = record m { nw_dst = Some n }
match_with m TpSrc n = record m { tp_src = Some n }
match_with m TpDst n = record m { tp_dst = Some n }
