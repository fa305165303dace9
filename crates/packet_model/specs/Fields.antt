-- A packet with one field set, and packets that go from one host to another.
use Rattle.std.specs.Prelude.{ℕ, ◌≡◌, ◌≢◌, ◌==◌, ◌||◌, ◌↔◌, Bool, IsTrue, Some, if◌then◌else◌}
use Rattle.merlin_model.specs.declared.policy.Field.{Field}
use Rattle.merlin_model.specs.declared.policy.Field.TheVariants.{EthSrc, EthDst, IpSrc, IpDst, Proto, Sport, Dport}
use Rattle.merlin_model.specs.declared.network.HostAddress.{HostAddress}
use Rattle.merlin_model.specs.Packets.{Packet, source_of, destination_of}
use Rattle.merlin_model.specs.Networks.{Network, IsNetwork, IsProper, address_of}

-- the protocols that have ports are TCP and UDP
abbrev pub has_ports : ℕ → Bool
has_ports proto = (proto == 6) || (proto == 17)

-- under any other protocol both ports are 0
abbrev pub ports_cleared : Packet → Packet
ports_cleared p = if has_ports p.proto then p else record p { sport = 0; dport = 0 }

abbrev pub replace : Field → ℕ → Packet → Packet
replace EthSrc n p = record p { eth_src = n }
replace EthDst n p = record p { eth_dst = n }
replace IpSrc n p = record p { ip_src = n }
replace IpDst n p = record p { ip_dst = n }
replace Proto n p = record p { proto = n }
replace Sport n p = record p { sport = n }
replace Dport n p = record p { dport = n }

-- the packet with one field set, and without ports that its protocol does not have
abbrev pub packet_with : Packet → Field → ℕ → Packet
packet_with p field n = ports_cleared (replace field n p)

-- The packet goes from one host to another, which these addresses tell apart: it bears both source
-- addresses of the one and both destination addresses of the other.
abbrev pub IsBetween : Packet → HostAddress → HostAddress → Type 0
IsBetween p src dst = (src ≢ dst) × (source_of p ≡ src) × (destination_of p ≡ dst)

-- In every network that has hosts with these addresses the test tells whether the packet is proper from the one to the other.
abbrev pub TellsProper : Bool → Packet → HostAddress → HostAddress → Type 0
TellsProper test p src dst =
    (net : Network) (s d : ℕ) → IsNetwork net → address_of net s ≡ Some src → address_of net d ≡ Some dst → IsTrue test ↔ IsProper net p s d
