-- What a packet function that is declared in a topology does.
use Rattle.std.specs.Prelude.{ℕ, ◌^◌, Bool, false, List, [], ◌∷◌, if◌then◌else◌, nat_lt}
use Rattle.merlin_model.specs.declared.policy.Field.{Field}
use Rattle.merlin_model.specs.declared.policy.Field.TheVariants.{EthSrc, EthDst, IpSrc, IpDst, Proto, Sport, Dport}
use Rattle.merlin_model.specs.declared.network.FnDecl.{FnDecl}
use Rattle.merlin_model.specs.Packets.{Packet}
use Rattle.packet_model.specs.Fields.{packet_with}

-- the field may be set to this value: the value is in its range, and it is not the destination that switches go by
abbrev pub may_set : Field → ℕ → Bool
may_set EthSrc n = nat_lt n (2 ^ 48)
may_set EthDst n = false
may_set IpSrc n = nat_lt n (2 ^ 32)
may_set IpDst n = nat_lt n (2 ^ 32)
may_set Proto n = nat_lt n (2 ^ 8)
may_set Sport n = nat_lt n (2 ^ 16)
may_set Dport n = nat_lt n (2 ^ 16)

-- the packet with a field set, where that may be
abbrev pub with_member : Field × ℕ → Packet → Packet
with_member member p = if may_set member.0 member.1 then packet_with p member.0 member.1 else p

-- with each of these fields set in turn
abbrev pub with_members : List (Field × ℕ) → Packet → Packet
with_members [] p = p
with_members (member ∷ members) p = with_members members (with_member member p)

-- what the function makes of a packet
abbrev pub rewritten : FnDecl → Packet → Packet
rewritten decl p = with_members decl.set p
