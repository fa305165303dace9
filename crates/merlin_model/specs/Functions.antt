-- Packet functions that a caller hands in, and the runs in which they run.
use Rattle.std.specs.Prelude.{ℕ, ◌≡◌, List, [], ◌∷◌, MatchOption, slice_get}
use Rattle.merlin_model.specs.declared.network.FnDecl.{FnDecl}
use Rattle.merlin_model.specs.declared.config.Config.{Config}
use Rattle.merlin_model.specs.Packets.{Packet, IsPacket}
use Rattle.merlin_model.specs.Networks.{Network, DirectedLink}
use Rattle.merlin_model.specs.Machine.{Frame, Visit, End, Forwards, Stops, next}

-- What packet functions do: which packets the function of a declaration may make of a packet.
abbrev pub Behaviour : Type 1
Behaviour = FnDecl → Packet → Packet → Type 0

-- each function makes the one packet that is answered for it
abbrev pub answers_of : (FnDecl → Packet → Packet) → Behaviour
answers_of answer decl p q = q ≡ answer decl p

-- each function makes a packet of a packet, and keeps eth.dst
abbrev pub KeepsDestination : Behaviour → Type 0
KeepsDestination behaviour =
    (decl : FnDecl) (p q : Packet) → IsPacket p → behaviour decl p q → IsPacket q
    × (q.eth_dst ≡ p.eth_dst)

-- the function of this number may make q of p; a number that names no function leaves the packet as
-- it is
abbrev pub MayMake : Network → Behaviour → ℕ → Packet → Packet → Type 0
MayMake net behaviour function p q = MatchOption (slice_get net.functions function) (q ≡ p) (λ decl. behaviour decl p q)

-- the functions of these numbers, one after the other, may make q of p
abbrev pub MayMakeInTurn : Network → Behaviour → List ℕ → Packet → Packet → Type 0
MayMakeInTurn net behaviour [] p q = q ≡ p
MayMakeInTurn net behaviour (function ∷ functions) p q =
    (r : Packet) × MayMake net behaviour function p r × MayMakeInTurn net behaviour functions r q

-- a hop from one frame to the next, with what it records; the functions that it records have run
pub record HopsBy (net : Network) (config : Config) (behaviour : Behaviour) (f : Frame) (visit : Visit) (g : Frame) : Type 0 where
  pub link : DirectedLink
  pub goes : next net config f ≡ Forwards link g.tag visit
  pub loc : g.loc ≡ link.to
  pub port : g.port ≡ link.in_port
  pub packet : MayMakeInTurn net behaviour visit.functions f.packet g.packet

-- such hops from f to g, with their records
abbrev pub ReachesBy : Network → Config → Behaviour → Frame → List Visit → Frame → Type 0
ReachesBy net config behaviour f [] g = g ≡ f
ReachesBy net config behaviour f (visit ∷ visits) g =
    (h : Frame) × HopsBy net config behaviour f visit h × ReachesBy net config behaviour h visits g

-- a whole run from f to an end, by these functions
pub record RunsBy (net : Network) (config : Config) (behaviour : Behaviour) (f : Frame) (visits : List Visit) (end : End) : Type 0 where
  pub last : Frame
  pub hops : ReachesBy net config behaviour f visits last
  pub stops : next net config last ≡ Stops end
