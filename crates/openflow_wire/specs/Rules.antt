-- Which rules have a message: those that a line of a result stands for.
use Rattle.std.specs.Prelude.{ℕ, ◌≤◌, ◌<◌, ◌^◌, List, [], ◌∷◌, IfSome, ⊤}
use Rattle.merlin_model.specs.declared.config.Out.{Out}
use Rattle.merlin_model.specs.declared.config.Out.TheVariants.{InPort, Port}
use Rattle.merlin_model.specs.declared.config.Action.{Action}
use Rattle.merlin_model.specs.declared.config.Action.TheVariants.{SetVlan, StripVlan, Output, Enqueue}
use Rattle.merlin_model.specs.declared.config.Vlan.{Vlan}
use Rattle.merlin_model.specs.declared.config.Vlan.TheVariants.{Untagged, Tag}
use Rattle.merlin_model.specs.declared.config.Match.{Match}
use Rattle.merlin_model.specs.declared.config.Rule.{Rule}
use Rattle.openflow_wire.specs.declared.numbers.TheConstants.{GREATEST_PORT, MAX_VLAN, MAX_QUEUE_ID}

abbrev pub IsPhysicalPort : ℕ → Type 0
IsPhysicalPort n = (1 ≤ n) × (n ≤ GREATEST_PORT)

abbrev pub IsVlanId : ℕ → Type 0
IsVlanId n = (1 ≤ n) × (n ≤ MAX_VLAN)

abbrev pub IsQueueId : ℕ → Type 0
IsQueueId n = (1 ≤ n) × (n ≤ MAX_QUEUE_ID)

abbrev pub IsOut : Out → Type 0
IsOut InPort = ⊤
IsOut (Port n) = IsPhysicalPort n

abbrev pub IsVlan : Vlan → Type 0
IsVlan Untagged = ⊤
IsVlan (Tag n) = IsVlanId n

-- each field that is named has a number of its width, a port and a tag those that there are
pub record IsMatch (m : Match) : Type 0 where
  pub in_port : IfSome m.in_port IsPhysicalPort
  pub dl_src : IfSome m.dl_src (λ n. n < 2 ^ 48)
  pub dl_dst : IfSome m.dl_dst (λ n. n < 2 ^ 48)
  pub dl_vlan : IfSome m.dl_vlan IsVlan
  pub nw_proto : IfSome m.nw_proto (λ n. n < 2 ^ 8)
  pub nw_src : IfSome m.nw_src (λ n. n < 2 ^ 32)
  pub nw_dst : IfSome m.nw_dst (λ n. n < 2 ^ 32)
  pub tp_src : IfSome m.tp_src (λ n. n < 2 ^ 16)
  pub tp_dst : IfSome m.tp_dst (λ n. n < 2 ^ 16)

-- an action that changes the tag
abbrev pub ChangesTag : Action → Type 0
ChangesTag (SetVlan n) = IsVlanId n
ChangesTag StripVlan = ⊤
ChangesTag (Output out) = ⊥
ChangesTag (Enqueue out queue) = ⊥

-- an action that sends the frame
abbrev pub Sends : Action → Type 0
Sends (SetVlan n) = ⊥
Sends StripVlan = ⊥
Sends (Output out) = IsOut out
Sends (Enqueue out queue) = IsOut out × IsQueueId queue

-- nothing, or one action that sends, behind one at most that changes the tag
abbrev pub AreActions : List Action → Type 0
AreActions [] = ⊤
AreActions (send ∷ []) = Sends send
AreActions (change ∷ send ∷ []) = ChangesTag change × Sends send
AreActions (a ∷ b ∷ c ∷ actions) = ⊥

pub record IsRule (rule : Rule) : Type 0 where
  pub priority : rule.priority < 2 ^ 16
  pub fits : IsMatch rule.fits
  pub actions : AreActions rule.actions
