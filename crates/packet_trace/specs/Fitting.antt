-- The rule that acts on a frame.
use Rattle.std.specs.Prelude.{ℕ, ◌≡◌, ◌≤◌, ◌<◌, Bool, false, true, ◌&&◌, nat_lt, List, Option, None, Some, slice_get}
use Rattle.merlin_model.specs.declared.config.Match.{Match}
use Rattle.merlin_model.specs.declared.config.Rule.{Rule}
use Rattle.merlin_model.specs.Packets.{Packet}
use Rattle.merlin_model.specs.Machine.{Frame, agrees, vlan_agrees, is_for}
use Rattle.packet_trace.specs.declared.frame.Frame.{Frame as At}

abbrev pub frame_of : At → Frame
frame_of f = record { loc = f.loc; port = f.port; tag = f.tag; packet = f.packet }

abbrev pub frame : ℕ → ℕ → Option ℕ → Packet → Frame
frame loc port tag packet = record { loc = loc; port = port; tag = tag; packet = packet }

-- A match fits part by part: the link and its tag, the network, and then the ports.

abbrev pub link_fits : Match → Frame → Bool
link_fits m f = agrees m.in_port f.port && agrees m.dl_src f.packet.eth_src && agrees m.dl_dst f.packet.eth_dst && vlan_agrees m.dl_vlan f.tag

abbrev pub network_fits : Match → Frame → Bool
network_fits m f = link_fits m f && agrees m.nw_proto f.packet.proto && agrees m.nw_src f.packet.ip_src && agrees m.nw_dst f.packet.ip_dst

-- no rule stands at the frame's switch and fits it
abbrev pub NoneFits : List Rule → Frame → Type 0
NoneFits rules f = (k : ℕ) (rule : Rule) → slice_get rules k ≡ Some rule → is_for f rule ≡ false

-- Of the rules before a place, this one acts.
pub record ActsBelow (rules : List Rule) (f : Frame) (place : ℕ) (k : ℕ) (r : Rule) : Type 0 where
  pub below : k < place
  pub stands : slice_get rules k ≡ Some r
  pub fits : is_for f r ≡ true
  pub highest : (j : ℕ) → j < place → (q : Rule) → slice_get rules j ≡ Some q → is_for f q ≡ true → q.priority ≤ r.priority
  pub first : (j : ℕ) → j < k → (q : Rule) → slice_get rules j ≡ Some q → is_for f q ≡ true → q.priority < r.priority

-- The place and the priority of the rule that acts of those before a place, or none where none fits.
abbrev pub IsBestBelow : List Rule → Frame → ℕ → Option (ℕ × ℕ) → Type 0
IsBestBelow rules f place None = (j : ℕ) → j < place → (q : Rule) → slice_get rules j ≡ Some q → is_for f q ≡ false
IsBestBelow rules f place (Some best) = (r : Rule) × ActsBelow rules f place best.0 r × (best.1 ≡ r.priority)

-- a rule of this priority comes before it
abbrev pub beats : Option (ℕ × ℕ) → ℕ → Bool
beats None priority = true
beats (Some best) priority = nat_lt best.1 priority
