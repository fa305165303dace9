-- The parts of a line that have parts themselves: what a rule matches and does, what a line of iptables matches, a symbol.
use Rattle.std.specs.Prelude.{ℕ, ◌≡◌, ◌≤◌, ◌<◌, ◌^◌, ◌⊎◌, List, [], ◌∷◌, Option, None, Some}
use Rattle.merlin_model.specs.declared.policy.Symbol.{Symbol}
use Rattle.merlin_model.specs.declared.config.Out.{Out}
use Rattle.merlin_model.specs.declared.config.Out.TheVariants.{InPort, Port}
use Rattle.merlin_model.specs.declared.config.Action.{Action}
use Rattle.merlin_model.specs.declared.config.Action.TheVariants.{SetVlan, StripVlan, Output, Enqueue}
use Rattle.merlin_model.specs.declared.config.Vlan.{Vlan}
use Rattle.merlin_model.specs.declared.config.Vlan.TheVariants.{Untagged, Tag}
use Rattle.merlin_model.specs.declared.config.Match.{Match}
use Rattle.merlin_model.specs.declared.config.HostMatch.{HostMatch}
use Rattle.merlin_model.specs.Networks.{Network}
use Rattle.config_lines.specs.Words.{IsPortNumber, IsTag, IsQueue, IsOptional, IsLocation, IsLineFunction}

abbrev pub IsMacNumber : ℕ → Type 0
IsMacNumber n = n < 2 ^ 48

abbrev pub IsIpNumber : ℕ → Type 0
IsIpNumber n = n < 2 ^ 32

abbrev pub HasOneByte : ℕ → Type 0
HasOneByte n = n ≤ 255

abbrev pub HasTwoBytes : ℕ → Type 0
HasTwoBytes n = n ≤ 65535

abbrev pub IsLineVlan : Vlan → Type 0
IsLineVlan Untagged = Unit {0}
IsLineVlan (Tag tag) = IsTag tag

-- the numbers that a match names
pub record IsLineMatch (m : Match) : Type 0 where
  pub in_port : IsOptional IsPortNumber m.in_port
  pub dl_src : IsOptional IsMacNumber m.dl_src
  pub dl_dst : IsOptional IsMacNumber m.dl_dst
  pub dl_vlan : IsOptional IsLineVlan m.dl_vlan
  pub nw_proto : IsOptional HasOneByte m.nw_proto
  pub nw_src : IsOptional IsIpNumber m.nw_src
  pub nw_dst : IsOptional IsIpNumber m.nw_dst
  pub tp_src : IsOptional HasTwoBytes m.tp_src
  pub tp_dst : IsOptional HasTwoBytes m.tp_dst

abbrev pub IsLineOut : Out → Type 0
IsLineOut InPort = Unit {0}
IsLineOut (Port port) = IsPortNumber port

-- an action that changes the tag
abbrev pub IsTagging : Action → Type 0
IsTagging (SetVlan tag) = IsTag tag
IsTagging StripVlan = Unit {0}
IsTagging (Output out) = ⊥
IsTagging (Enqueue out queue) = ⊥

-- an action by which the frame leaves
abbrev pub IsSending : Action → Type 0
IsSending (SetVlan tag) = ⊥
IsSending StripVlan = ⊥
IsSending (Output out) = IsLineOut out
IsSending (Enqueue out queue) = IsLineOut out × IsQueue queue

-- none, or one by which the frame leaves, or one that changes the tag before that
abbrev pub AreLineActions : List Action → Type 0
AreLineActions [] = Unit {0}
AreLineActions (send ∷ []) = IsSending send
AreLineActions (change ∷ send ∷ []) = IsTagging change × IsSending send
AreLineActions (first ∷ second ∷ third ∷ more) = ⊥

-- a port is named behind TCP and UDP alone
abbrev pub MayNamePorts : Option ℕ → Type 0
MayNamePorts proto = (proto ≡ Some 6) ⊎ (proto ≡ Some 17)

pub record IsHostMatch (m : HostMatch) : Type 0 where
  pub src : IsIpNumber m.src
  pub dst : IsIpNumber m.dst
  pub proto : IsOptional HasOneByte m.proto
  pub sport : IsOptional HasTwoBytes m.sport
  pub dport : IsOptional HasTwoBytes m.dport
  pub ports : (m.sport ≡ None) × (m.dport ≡ None) ⊎ MayNamePorts m.proto

-- a location, and any function, wherever that is placed
pub record IsLineSymbol (net : Network) (symbol : Symbol) : Type 0 where
  pub loc : IsLocation net symbol.loc
  pub fun : IsOptional (IsLineFunction net) symbol.fun
