-- Siblings whose scopes share a packet, under those parents that were asked so far.
use Rattle.std.specs.Prelude.{ℕ, ◌≡◌, ◌<◌, ◌≤◌, ◌⊎◌, ⊤, List, Option, None, Some}
use Rattle.merlin_model.specs.Packets.{Packet, IsPacket, IsLeastPacket}
use Rattle.predicate_split.specs.declared.fault.SplitFault.TheVariants.{TooManyClasses}
use Rattle.predicate_split.specs.Refusals.{RefusesClasses}
use Rattle.delegation.specs.declared.fault.DelegationFault.{DelegationFault}
use Rattle.delegation.specs.declared.fault.DelegationFault.TheVariants.{Classes, OutOfMemory}
use Rattle.delegation.specs.declared.node.Node.{Node}
use Rattle.delegation.specs.declared.scopes.SharedPair.{SharedPair}
use Rattle.delegation.specs.NamedTrees.{scopes_under}
use Rattle.delegation.specs.SharedScopes.{ShareScope}

-- the one pair of numbers comes no later than the other
abbrev pub ComesNoLater : ℕ → ℕ → ℕ → ℕ → Type 0
ComesNoLater i j k l = (i < k) ⊎ ((i ≡ k) × (j ≤ l))

-- the same of pairs that may not be there: none comes after each
abbrev pub IsFoundNoLater : Option SharedPair → Option SharedPair → Type 0
IsFoundNoLater a None = ⊤
IsFoundNoLater None (Some b) = ⊥
IsFoundNoLater (Some a) (Some b) = ComesNoLater a.first a.second b.first b.second

module _ (nodes : List Node) (IsAsked : ℕ → Type 0) where
  -- no two under one of these parents share a packet
  abbrev pub ShareNoneUnder : Type 0
  ShareNoneUnder = (i j : ℕ) (p : Packet) → IsPacket p → (share : ShareScope nodes i j p) → IsAsked share.parent → ⊥

  -- the least pair under one of these parents that shares a packet, and the least packet that the two share
  pub record IsLeastUnder (i j : ℕ) (packet : Packet) : Type 0 where
    pub first_pair : (k l : ℕ) (q : Packet) → IsPacket q → (share : ShareScope nodes k l q) → IsAsked share.parent → ComesNoLater i j k l
    pub least_packet : IsLeastPacket (ShareScope nodes i j) packet

  abbrev pub IsLeastSharing : Option SharedPair → Type 0
  IsLeastSharing None = ShareNoneUnder
  IsLeastSharing (Some pair) = IsLeastUnder pair.first pair.second pair.packet

-- the scopes of the children of this node are in too many classes
abbrev pub RefusesScopes : List Node → ℕ → DelegationFault → Type 0
RefusesScopes nodes place (Classes node count) = (node ≡ place) × RefusesClasses (scopes_under nodes place) (TooManyClasses count)
RefusesScopes nodes place OutOfMemory = ⊤
RefusesScopes nodes place _ = ⊥
