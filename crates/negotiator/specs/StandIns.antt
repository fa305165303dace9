-- Packets between two hosts that stand for all others: each other packet is judged as one of them that does not come after it.
use Rattle.std.specs.Prelude.{ℕ, ◌≡◌, ◌<◌, false, ◌^◌, ◌⊎◌, nat_lt, List, [], ◌∷◌, ◌++◌, map, Contains, if◌then◌else◌}
use Rattle.std.specs.List.{AllByRecursion, flat_map}
use Rattle.merlin_model.specs.declared.network.HostAddress.{HostAddress}
use Rattle.merlin_model.specs.declared.policy.Field.{Field}
use Rattle.merlin_model.specs.declared.policy.Field.TheVariants.{Proto, Sport, Dport}
use Rattle.merlin_model.specs.declared.policy.Pred.{Pred}
use Rattle.merlin_model.specs.Packets.{Packet, IsPacket, ComesBefore}
use Rattle.merlin_model.specs.Predicates.{holds}
use Rattle.packet_model.specs.Fields.{IsBetween, has_ports}
use Rattle.predicate_logic.specs.Mentions.{mentions, ascending}
use Rattle.predicate_logic.specs.Residues.{residues}
use Rattle.predicate_split.specs.Parts.{least_from}
use Rattle.predicate_split.specs.Cells.{between_hosts, packet_between, protos}

-- addresses have 48 and 32 bits
abbrev pub IsHostAddress : HostAddress → Type 0
IsHostAddress a = (a.eth < 2 ^ 48) × (a.ip < 2 ^ 32)

-- each predicate holds of both packets or of neither
abbrev pub AreJudgedAlike : List Pred → Packet → Packet → Type 0
AreJudgedAlike preds p q = AllByRecursion (λ pred. holds pred p ≡ holds pred q) preds

-- the packet is no later than the other
abbrev pub IsNoLaterThan : Packet → Packet → Type 0
IsNoLaterThan c p = (c ≡ p) ⊎ ComesBefore c p

-- Packets between two hosts, of which one is no later than each packet between them, and is judged alike.
pub record AreStandIns (preds : List Pred) (src dst : HostAddress) (packets : List Packet) : Type 0 where
  pub between : AllByRecursion (λ c. IsPacket c × IsBetween c src dst) packets
  pub each : (p : Packet) → IsPacket p → IsBetween p src dst →
      (c : Packet) × Contains packets c × IsNoLaterThan c p × AreJudgedAlike preds p c

-- How they are found: each value that is mentioned, and the least of all others.

-- the least number that is not among some ascending ones, if it is below the limit
abbrev pub least_other : ℕ → List ℕ → List ℕ
least_other limit named = if nat_lt (least_from 0 named) limit then least_from 0 named ∷ [] else []

-- what ports are told apart under a protocol, by what is left of the predicates; a protocol without ports has 0
abbrev pub ports_told : Field → List Pred → ℕ → List ℕ
ports_told f under proto =
    if has_ports proto then ascending (flat_map (mentions f) under) ++ least_other (2 ^ 16) (ascending (flat_map (mentions f) under)) else 0 ∷ []

-- a protocol without ports has 0 alone
abbrev pub AreFreeOfPorts : ℕ → List ℕ → Type 0
AreFreeOfPorts proto ports = has_ports proto ≡ false → AllByRecursion (λ n. n ≡ 0) ports

-- what is mentioned of ports fits them
pub record HasSmallPorts (left : List Pred) (proto : ℕ) : Type 0 where
  pub sports : AllByRecursion (λ n. n < 2 ^ 16) (ports_told Sport (residues Proto proto left) proto)
  pub dports : AllByRecursion (λ n. n < 2 ^ 16) (ports_told Dport (residues Proto proto left) proto)

module _ (src dst : HostAddress) where
  abbrev pub packets_to : List ℕ → ℕ → ℕ → List Packet
  packets_to dports proto sport = map (packet_between src dst proto sport) dports

  abbrev pub packets_from : List ℕ → List ℕ → ℕ → List Packet
  packets_from sports dports proto = flat_map (packets_to dports proto) sports

  -- under a protocol that is mentioned
  abbrev pub packets_under : List Pred → ℕ → List Packet
  packets_under left proto =
      packets_from (ports_told Sport (residues Proto proto left) proto) (ports_told Dport (residues Proto proto left) proto) proto

  -- under the least protocol that is not
  abbrev pub other_packets : List ℕ → List Packet
  other_packets named = map (λ proto. packet_between src dst proto 0 0) (least_other (2 ^ 8) named)

  abbrev pub packets_left : List Pred → List Packet
  packets_left left = flat_map (packets_under left) (protos left) ++ other_packets (protos left)

abbrev pub stand_ins : List Pred → HostAddress → HostAddress → List Packet
stand_ins preds src dst = packets_left src dst (between_hosts src dst preds)
