-- The machine: what a configuration does with a packet, hop by hop.
use Rattle.std.specs.Prelude.{ℕ, ◌≡◌, ◌≤◌, ◌<◌, ◌==◌, Bool, true, false, not, ◌&&◌, List, [], ◌∷◌, map, length, filter, filter_map, find, take_while, Option, None, Some, is_some, slice_get, if◌then◌else◌}
use Rattle.std.specs.List.{last_or}
use Rattle.merlin_model.specs.declared.network.LocationKind.{LocationKind}
use Rattle.merlin_model.specs.declared.network.LocationKind.TheVariants.{Host, Switch, Middlebox}
use Rattle.merlin_model.specs.declared.config.Out.{Out}
use Rattle.merlin_model.specs.declared.config.Out.TheVariants.{InPort, Port}
use Rattle.merlin_model.specs.declared.config.Action.{Action}
use Rattle.merlin_model.specs.declared.config.Action.TheVariants.{SetVlan, StripVlan, Output, Enqueue}
use Rattle.merlin_model.specs.declared.config.Vlan.{Vlan}
use Rattle.merlin_model.specs.declared.config.Vlan.TheVariants.{Untagged, Tag}
use Rattle.merlin_model.specs.declared.config.Match.{Match}
use Rattle.merlin_model.specs.declared.config.Rule.{Rule}
use Rattle.merlin_model.specs.declared.config.Process.{Process}
use Rattle.merlin_model.specs.declared.config.HostMatch.{HostMatch}
use Rattle.merlin_model.specs.declared.config.HostLine.{HostLine}
use Rattle.merlin_model.specs.declared.config.HostLine.TheVariants as line
use Rattle.merlin_model.specs.declared.config.Config.{Config}
use Rattle.merlin_model.specs.Packets.{Packet, IsPacket}
use Rattle.merlin_model.specs.Networks.{Network, kind_of, DirectedLink, directed_links}
use Rattle.merlin_model.specs.Rates.{greatest_of}

-- A frame stands at a location, where it came in by a port, with a VLAN tag or untagged. A packet
-- that starts at its host has port 0.
pub record Frame : Type 0 where
  pub loc : ℕ
  pub port : ℕ
  pub tag : Option ℕ
  pub packet : Packet

abbrev pub start : ℕ → Packet → Frame
start s p = record { loc = s; port = 0; tag = None; packet = p }

-- What is recorded of a location that a frame leaves: the functions that ran there, the queue that
-- it was sent through, and the class that the host put it in.
pub record Visit : Type 0 where
  pub loc : ℕ
  pub functions : List ℕ
  pub queue : Option ℕ
  pub class : Option ℕ

pub data End : Type 0 where
  Delivered : (host : ℕ) → (packet : Packet) → End
  Dropped : (loc : ℕ) → End

-- A frame goes on over a directed link, under a new tag, and leaves a record; or this is its end.
pub data Next : Type 0 where
  Forwards : (link : DirectedLink) → (tag : Option ℕ) → (visit : Visit) → Next
  Stops : (end : End) → Next

-- Which rule fits. A field that a match does not name fits anything.

abbrev pub agrees : Option ℕ → ℕ → Bool
agrees None n = true
agrees (Some value) n = value == n

abbrev pub tag_is : Option ℕ → ℕ → Bool
tag_is None n = false
tag_is (Some tag) n = tag == n

abbrev pub vlan_agrees : Option Vlan → Option ℕ → Bool
vlan_agrees None tag = true
vlan_agrees (Some Untagged) tag = not (is_some tag)
vlan_agrees (Some (Tag n)) tag = tag_is tag n

abbrev pub fits : Match → Frame → Bool
fits m f =
    agrees m.in_port f.port && agrees m.dl_src f.packet.eth_src && agrees m.dl_dst f.packet.eth_dst
    && vlan_agrees m.dl_vlan f.tag && agrees m.nw_proto f.packet.proto && agrees m.nw_src f.packet.ip_src
    && agrees m.nw_dst f.packet.ip_dst && agrees m.tp_src f.packet.sport && agrees m.tp_dst f.packet.dport

-- the rule stands at the frame's switch and fits it
abbrev pub is_for : Frame → Rule → Bool
is_for f r = (r.loc == f.loc) && fits r.fits f

-- The same part by part.
pub record Fits (r : Rule) (f : Frame) : Type 0 where
  pub loc : r.loc ≡ f.loc
  pub in_port : agrees r.fits.in_port f.port ≡ true
  pub dl_src : agrees r.fits.dl_src f.packet.eth_src ≡ true
  pub dl_dst : agrees r.fits.dl_dst f.packet.eth_dst ≡ true
  pub dl_vlan : vlan_agrees r.fits.dl_vlan f.tag ≡ true
  pub nw_proto : agrees r.fits.nw_proto f.packet.proto ≡ true
  pub nw_src : agrees r.fits.nw_src f.packet.ip_src ≡ true
  pub nw_dst : agrees r.fits.nw_dst f.packet.ip_dst ≡ true
  pub tp_src : agrees r.fits.tp_src f.packet.sport ≡ true
  pub tp_dst : agrees r.fits.tp_dst f.packet.dport ≡ true

-- the rules of the frame's switch that fit it
abbrev pub fitting_rules : List Rule → Frame → List Rule
fitting_rules rules f = filter (is_for f) rules

-- of these the first whose priority is the highest
abbrev pub acting_rule : List Rule → Frame → Option Rule
acting_rule rules f = find (λ r. r.priority == greatest_of (map (λ q. q.priority) (fitting_rules rules f))) (fitting_rules rules f)

-- The same by places: the rule at place k acts when it fits, no rule that fits has a higher
-- priority, and none before it has the same.
pub record ActsAt (rules : List Rule) (f : Frame) (k : ℕ) (r : Rule) : Type 0 where
  pub stands : slice_get rules k ≡ Some r
  pub fits : is_for f r ≡ true
  pub highest : (j : ℕ) (q : Rule) → slice_get rules j ≡ Some q → is_for f q ≡ true →
      q.priority ≤ r.priority
  pub first : (j : ℕ) (q : Rule) → j < k → slice_get rules j ≡ Some q → is_for f q ≡ true →
      q.priority < r.priority

-- the first `process` line of the frame's middlebox for its tag and destination
abbrev pub acting_process : List Process → Frame → Option Process
acting_process processes f = find (λ p. (p.loc == f.loc) && tag_is f.tag p.tag && (p.eth_dst == f.packet.eth_dst)) processes

-- The host's lists. OUTPUT is read to its first line that fits. POSTROUTING is read to its first
-- RETURN that fits, and the last CLASSIFY before it that fits counts.

abbrev pub host_fits : HostMatch → Packet → Bool
host_fits m p =
    (m.src == p.ip_src) && (m.dst == p.ip_dst) && agrees m.proto p.proto && agrees m.sport p.sport && agrees m.dport p.dport

-- what an OUTPUT line says of the packet: whether it is dropped
abbrev pub output_of : ℕ → Packet → HostLine → Option Bool
output_of host p (line.Output h m drop) = if (h == host) && host_fits m p then Some drop else None
output_of host p (line.Root h) = None
output_of host p (line.Class h class rate ceil) = None
output_of host p (line.Classify h m class) = None
output_of host p (line.Leave h m) = None

abbrev pub class_of : ℕ → Packet → HostLine → Option ℕ
class_of host p (line.Classify h m class) = if (h == host) && host_fits m p then Some class else None
class_of host p (line.Root h) = None
class_of host p (line.Class h class rate ceil) = None
class_of host p (line.Leave h m) = None
class_of host p (line.Output h m drop) = None

abbrev pub leaves : ℕ → Packet → HostLine → Bool
leaves host p (line.Leave h m) = (h == host) && host_fits m p
leaves host p (line.Root h) = false
leaves host p (line.Class h class rate ceil) = false
leaves host p (line.Classify h m class) = false
leaves host p (line.Output h m drop) = false

abbrev pub first_of : {X : Type 0} → List X → Option X
first_of [] = None
first_of (x ∷ xs) = Some x

abbrev pub is_dropped_by : List HostLine → ℕ → Packet → Bool
is_dropped_by lines host p = says_drop (first_of (filter_map (output_of host p) lines))
  where
    says_drop : Option Bool → Bool
    says_drop None = false
    says_drop (Some drop) = drop

abbrev pub class_by : List HostLine → ℕ → Packet → Option ℕ
class_by lines host p = last_or None (filter_map (class_of host p) (take_while (λ l. not (leaves host p l)) lines))

-- What is sent.

-- the directed link that leaves a location by a port
abbrev pub link_at : Network → ℕ → ℕ → Option DirectedLink
link_at net loc port = find (λ link. (link.from == loc) && (link.out_port == port)) (directed_links net)

-- the directed link of a host
abbrev pub uplink_of : Network → ℕ → Option DirectedLink
uplink_of net loc = find (λ link. link.from == loc) (directed_links net)

-- over that directed link, or dropped where there is none
abbrev pub send_over : ℕ → Option DirectedLink → Option ℕ → Visit → Next
send_over loc None tag visit = Stops (Dropped loc)
send_over loc (Some link) tag visit = Forwards link tag visit

-- a named port is no way back
abbrev pub link_to : Network → Frame → Out → Option DirectedLink
link_to net f InPort = link_at net f.loc f.port
link_to net f (Port port) = if port == f.port then None else link_at net f.loc port

-- what a list of actions does with a frame that has this tag
abbrev pub act : Network → Frame → Option ℕ → List Action → Next
act net f tag [] = Stops (Dropped f.loc)
act net f tag (SetVlan n ∷ actions) = act net f (Some n) actions
act net f tag (StripVlan ∷ actions) = act net f None actions
act net f tag (Output out ∷ actions) = send_over f.loc (link_to net f out) tag (record { loc = f.loc; functions = []; queue = None; class = None })
act net f tag (Enqueue out queue ∷ actions) = send_over f.loc (link_to net f out) tag (record { loc = f.loc; functions = []; queue = Some queue; class = None })

-- One step, by what stands there.

abbrev pub at_switch : Network → Frame → Option Rule → Next
at_switch net f None = Stops (Dropped f.loc)
at_switch net f (Some rule) = act net f f.tag rule.actions

-- queue 0 of a `process` line means none
abbrev pub queue_of : ℕ → Option ℕ
queue_of q = if q == 0 then None else Some q

abbrev pub at_middlebox : Network → Frame → Option Process → Next
at_middlebox net f None = Stops (Dropped f.loc)
at_middlebox net f (Some line) =
    send_over f.loc (link_at net f.loc line.port) (Some line.next_tag)
    (record { loc = f.loc; functions = line.functions; queue = queue_of line.queue; class = None })

abbrev pub from_host : Network → List HostLine → Frame → Next
from_host net lines f =
    if is_dropped_by lines f.loc f.packet then Stops (Dropped f.loc)
    else send_over f.loc (uplink_of net f.loc) None (record { loc = f.loc; functions = []; queue = None; class = class_by lines f.loc f.packet })

-- a tagged frame is dropped at a host
abbrev pub arrived_at : ℕ → Option ℕ → Packet → Next
arrived_at loc None p = Stops (Delivered loc p)
arrived_at loc (Some tag) p = Stops (Dropped loc)

abbrev pub next_at : Network → Config → Frame → Option LocationKind → Next
next_at net config f None = Stops (Dropped f.loc)
next_at net config f (Some (Host address)) = if f.port == 0 then from_host net config.hosts f else arrived_at f.loc f.tag f.packet
next_at net config f (Some Switch) = at_switch net f (acting_rule config.rules f)
next_at net config f (Some Middlebox) = at_middlebox net f (acting_process config.processes f)

-- where a frame goes
abbrev pub next : Network → Config → Frame → Next
next net config f = next_at net config f (kind_of net f.loc)

-- The packet after a step. Functions may change it, and of what they do only this is known: eth.dst
-- stays.
abbrev pub MayBecome : Option LocationKind → Packet → Packet → Type 0
MayBecome None p q = q ≡ p
MayBecome (Some (Host address)) p q = q ≡ p
MayBecome (Some Switch) p q = q ≡ p
MayBecome (Some Middlebox) p q = IsPacket q × (q.eth_dst ≡ p.eth_dst)

-- a hop from one frame to the next, with what it records
pub record Hops (net : Network) (config : Config) (f : Frame) (visit : Visit) (g : Frame) : Type 0 where
  pub link : DirectedLink
  pub goes : next net config f ≡ Forwards link g.tag visit
  pub loc : g.loc ≡ link.to
  pub port : g.port ≡ link.in_port
  pub packet : MayBecome (kind_of net f.loc) f.packet g.packet

-- the hops from f to g, with their records
abbrev pub Reaches : Network → Config → Frame → List Visit → Frame → Type 0
Reaches net config f [] g = g ≡ f
Reaches net config f (visit ∷ visits) g =
    (h : Frame) × Hops net config f visit h × Reaches net config h visits g

-- a whole run from f to an end
pub record Runs (net : Network) (config : Config) (f : Frame) (visits : List Visit) (end : End) : Type 0 where
  pub last : Frame
  pub hops : Reaches net config f visits last
  pub stops : next net config last ≡ Stops end

-- no run from f makes more than n hops, and P holds of each whole run
pub record RunsWithin (net : Network) (config : Config) (n : ℕ) (f : Frame) (P : List Visit → End → Type 0) : Type 0 where
  pub ends : (visits : List Visit) (g : Frame) → Reaches net config f visits g → length visits ≤ n
  pub outcome : (visits : List Visit) (end : End) → Runs net config f visits end → P visits end

-- Each run from f comes to an end, and so: P holds of its records and its end.
abbrev pub EachRun : Network → Config → Frame → (List Visit → End → Type 0) → Type 0
EachRun net config f P = (n : ℕ) × RunsWithin net config n f P
