-- The numbers of a rule's message, read back.
use Rattle.std.proofs.Common.{ℕ, ◌+◌, ◌*◌, ◌^◌, ◌≡◌, ◌==◌, ◌≤◌, ◌<◌, Bool, true, false, List, [], ◌∷◌, length, drop, take, Option, Some, None, IfSome, option_map, refl, ap, ◌∙◌, arith}
use Rattle.byteorder.specs.Numbers.{big_number-reads_back}
use Rattle.merlin_model.specs.declared.config.Action.{Action}
use Rattle.merlin_model.specs.declared.config.Action.TheVariants.{SetVlan, StripVlan, Output, Enqueue}
use Rattle.merlin_model.specs.declared.config.Vlan.{Vlan}
use Rattle.merlin_model.specs.declared.config.Vlan.TheVariants.{Untagged, Tag}
use Rattle.merlin_model.specs.declared.config.Match.{Match}
use Rattle.merlin_model.specs.declared.config.Rule.{Rule}
use Rattle.openflow_wire.specs.Rules.{IsRule, IsPhysicalPort, AreActions, IsVlan}
use Rattle.openflow_wire.specs.Fields.{number_at, wildcards_of, is_left_out}
use Rattle.openflow_wire.specs.Messages.{actions_bytes, message_of, match_wildcards, wildcard_bits, number_of_bits, bit_number, named, vlan_number, ether_type}
use Rattle.openflow_wire.proofs.Bits.{below, bits_from}

-- how long the actions are
pub actions_few : (actions : List Action) → AreActions actions → length (actions_bytes actions) ≤ 24
actions_few [] h = omega arith
actions_few (SetVlan n ∷ []) h = omega arith
actions_few (StripVlan ∷ []) h = omega arith
actions_few (Output out ∷ []) h = omega arith
actions_few (Enqueue out queue ∷ []) h = omega arith
actions_few (SetVlan n ∷ Output out ∷ []) h = omega arith
actions_few (SetVlan n ∷ Enqueue out queue ∷ []) h = omega arith
actions_few (SetVlan n ∷ SetVlan k ∷ []) h = omega arith
actions_few (SetVlan n ∷ StripVlan ∷ []) h = omega arith
actions_few (StripVlan ∷ Output out ∷ []) h = omega arith
actions_few (StripVlan ∷ Enqueue out queue ∷ []) h = omega arith
actions_few (StripVlan ∷ SetVlan k ∷ []) h = omega arith
actions_few (StripVlan ∷ StripVlan ∷ []) h = omega arith
actions_few (Output out ∷ b ∷ []) h = absurd h.0
actions_few (Enqueue out queue ∷ b ∷ []) h = absurd h.0
actions_few (a ∷ b ∷ c ∷ actions) h = absurd h

pub length_back : (rule : Rule) (xid : ℕ) → IsRule rule →
    number_at (message_of rule xid) 2 2 ≡ 72 + length (actions_bytes rule.actions)
length_back rule xid is = big_number-reads_back 2 _ (drop 4 (message_of rule xid)) (let few = actions_few rule.actions is.actions in omega (arith, few))

pub xid_back : (rule : Rule) (xid : ℕ) → xid < 2 ^ 32 → number_at (message_of rule xid) 4 4 ≡ xid
xid_back rule xid h = big_number-reads_back 4 xid (drop 8 (message_of rule xid)) h

pub priority_back : (rule : Rule) (xid : ℕ) → IsRule rule → number_at (message_of rule xid) 62 2 ≡ rule.priority
priority_back rule xid is = big_number-reads_back 2 rule.priority (drop 64 (message_of rule xid)) is.priority

-- the value of a field, where it is named and has its width
value_small : (value : Option ℕ) (limit : ℕ) → 0 < limit → IfSome value (λ n. n < limit) → named value < limit
value_small None limit some h = some
value_small (Some n) limit some h = h

-- The fields of the match.

pub in_port_back : (rule : Rule) (xid : ℕ) → IsRule rule → number_at (message_of rule xid) 12 2 ≡ named rule.fits.in_port
in_port_back rule xid is = big_number-reads_back 2 _ (drop 14 (message_of rule xid)) (small rule.fits.in_port is.fits.in_port)
  where
    small : (o : Option ℕ) → IfSome o IsPhysicalPort → named o < 2 ^ 16
    small None h = omega arith
    small (Some n) h = omega (arith, h)

pub dl_src_back : (rule : Rule) (xid : ℕ) → IsRule rule → number_at (message_of rule xid) 14 6 ≡ named rule.fits.dl_src
dl_src_back rule xid is = big_number-reads_back 6 _ (drop 20 (message_of rule xid)) (value_small rule.fits.dl_src (2 ^ 48) (omega arith) is.fits.dl_src)

pub dl_dst_back : (rule : Rule) (xid : ℕ) → IsRule rule → number_at (message_of rule xid) 20 6 ≡ named rule.fits.dl_dst
dl_dst_back rule xid is = big_number-reads_back 6 _ (drop 26 (message_of rule xid)) (value_small rule.fits.dl_dst (2 ^ 48) (omega arith) is.fits.dl_dst)

pub dl_vlan_back : (rule : Rule) (xid : ℕ) → IsRule rule →
    number_at (message_of rule xid) 26 2 ≡ named (option_map vlan_number rule.fits.dl_vlan)
dl_vlan_back rule xid is = big_number-reads_back 2 _ (drop 28 (message_of rule xid)) (small rule.fits.dl_vlan is.fits.dl_vlan)
  where
    small : (o : Option Vlan) → IfSome o IsVlan → named (option_map vlan_number o) < 2 ^ 16
    small None h = omega arith
    small (Some Untagged) h = omega arith
    small (Some (Tag n)) h = omega (arith, h)

pub dl_type_back : (rule : Rule) (xid : ℕ) → number_at (message_of rule xid) 30 2 ≡ ether_type rule.fits.dl_type
dl_type_back rule xid = big_number-reads_back 2 _ (drop 32 (message_of rule xid)) (small rule.fits.dl_type)
  where
    small : (b : Bool) → ether_type b < 2 ^ 16
    small true = omega arith
    small false = omega arith

pub nw_proto_back : (rule : Rule) (xid : ℕ) → IsRule rule → number_at (message_of rule xid) 33 1 ≡ named rule.fits.nw_proto
nw_proto_back rule xid is = big_number-reads_back 1 _ (drop 34 (message_of rule xid)) (value_small rule.fits.nw_proto (2 ^ 8) (omega arith) is.fits.nw_proto)

pub nw_src_back : (rule : Rule) (xid : ℕ) → IsRule rule → number_at (message_of rule xid) 36 4 ≡ named rule.fits.nw_src
nw_src_back rule xid is = big_number-reads_back 4 _ (drop 40 (message_of rule xid)) (value_small rule.fits.nw_src (2 ^ 32) (omega arith) is.fits.nw_src)

pub nw_dst_back : (rule : Rule) (xid : ℕ) → IsRule rule → number_at (message_of rule xid) 40 4 ≡ named rule.fits.nw_dst
nw_dst_back rule xid is = big_number-reads_back 4 _ (drop 44 (message_of rule xid)) (value_small rule.fits.nw_dst (2 ^ 32) (omega arith) is.fits.nw_dst)

pub tp_src_back : (rule : Rule) (xid : ℕ) → IsRule rule → number_at (message_of rule xid) 44 2 ≡ named rule.fits.tp_src
tp_src_back rule xid is = big_number-reads_back 2 _ (drop 46 (message_of rule xid)) (value_small rule.fits.tp_src (2 ^ 16) (omega arith) is.fits.tp_src)

pub tp_dst_back : (rule : Rule) (xid : ℕ) → IsRule rule → number_at (message_of rule xid) 46 2 ≡ named rule.fits.tp_dst
tp_dst_back rule xid is = big_number-reads_back 2 _ (drop 48 (message_of rule xid)) (value_small rule.fits.tp_dst (2 ^ 16) (omega arith) is.fits.tp_dst)

-- The wildcards.

wildcards_small : (m : Match) → match_wildcards m < 2 ^ 32
wildcards_small m = let h = below 32 (wildcard_bits m) in h

pub wildcards_back : (rule : Rule) (xid : ℕ) → wildcards_of (message_of rule xid) ≡ match_wildcards rule.fits
wildcards_back rule xid = big_number-reads_back 4 _ (drop 12 (message_of rule xid)) (wildcards_small rule.fits)

one : (b : Bool) → (bit_number b + 2 * 0 == 1) ≡ b
one true = refl
one false = refl

-- a bit of the wildcards, by its place among the bits
pub bit_back : (rule : Rule) (xid place : ℕ) (b : Bool) → take 1 (drop place (wildcard_bits rule.fits)) ≡ b ∷ [] →
    is_left_out place (wildcards_of (message_of rule xid)) ≡ b
bit_back rule xid place b e =
    ap (is_left_out place) (wildcards_back rule xid)
    ∙ ap (λ n. n == 1) (bits_from place 1 (wildcard_bits rule.fits) ∙ ap number_of_bits e) ∙ one b
