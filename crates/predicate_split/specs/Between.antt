-- Predicates that can hold between two hosts.
use Rattle.std.specs.Prelude.{◌≡◌, true}
use Rattle.merlin_model.specs.declared.network.HostAddress.{HostAddress}
use Rattle.merlin_model.specs.declared.policy.Pred.{Pred}
use Rattle.merlin_model.specs.Packets.{Packet, IsPacket, source_of, destination_of}
use Rattle.merlin_model.specs.Predicates.{holds}

-- the predicate holds of some packet that bears the one addresses as its sources and the other as its destinations
pub record HoldsBetween (src dst : HostAddress) (pred : Pred) : Type 0 where
  pub packet : Packet
  pub is_packet : IsPacket packet
  pub source : source_of packet ≡ src
  pub destination : destination_of packet ≡ dst
  pub holds : holds pred packet ≡ true
