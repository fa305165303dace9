-- Which children of one node have scopes that share a packet.
use Rattle.std.specs.Prelude.{ℕ, ◌≡◌, ◌<◌, ◌≤◌, ◌⊎◌, true, List, Some, slice_get}
use Rattle.merlin_model.specs.Packets.{Packet, IsPacket, IsLeastPacket}
use Rattle.merlin_model.specs.Predicates.{holds}
use Rattle.delegation.specs.declared.node.Node.{Node}

-- two nodes under one parent, the earlier first, whose scopes both hold of the packet
pub record ShareScope (nodes : List Node) (i j : ℕ) (p : Packet) : Type 0 where
  pub before : i < j
  pub first : Node
  pub second : Node
  pub has_first : slice_get nodes i ≡ Some first
  pub has_second : slice_get nodes j ≡ Some second
  pub parent : ℕ
  pub of_first : first.parent ≡ Some parent
  pub of_second : second.parent ≡ Some parent
  pub holds_first : holds first.scope p ≡ true
  pub holds_second : holds second.scope p ≡ true

-- no two siblings' scopes share a packet
abbrev pub HasApartScopes : List Node → Type 0
HasApartScopes nodes = (i j : ℕ) (p : Packet) → IsPacket p → ShareScope nodes i j p → ⊥

-- the least pair of siblings, over the whole tree, whose scopes share a packet, and the least packet that they share
pub record IsLeastShared (nodes : List Node) (i j : ℕ) (packet : Packet) : Type 0 where
  pub first_pair : (k l : ℕ) (q : Packet) → IsPacket q → ShareScope nodes k l q → (i < k) ⊎ ((i ≡ k) × (j ≤ l))
  pub least_packet : IsLeastPacket (ShareScope nodes i j) packet
