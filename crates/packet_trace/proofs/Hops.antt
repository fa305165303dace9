-- Hops by packet functions, one after the other.
use Rattle.std.proofs.Common.{◌≡◌, ℕ, ◌<◌, ◌≤◌, ◌+◌, true, false, List, None, Some, IsSome, ◌⊎◌, inl, inr, slice_get, option_map, drop, get_or, [], ◌∷◌, ◌++◌, length, map, refl, sym, ◌∙◌, ap, subst, arith}
use Rattle.std.proofs.lemmas.Option.{slice_get_cases}
use Rattle.std.proofs.lemmas.List.{map-append, length-map, drop_more, drop_all}
use Rattle.merlin_model.specs.declared.config.Config.{Config}
use Rattle.merlin_model.specs.Packets.{Packet}
use Rattle.merlin_model.specs.declared.network.Location.{Location}
use Rattle.merlin_model.specs.Networks.{Network, IsNetwork, IsHost, address_at}
use Rattle.merlin_model.specs.Functions.{Behaviour, MayMake, MayMakeInTurn, HopsBy, ReachesBy}
use Rattle.merlin_model.specs.Machine.{Frame, Visit}
use Rattle.packet_trace.specs.Fitting.{frame}
use Rattle.packet_trace.specs.declared.moves.Left.{Left}
use Rattle.packet_trace.specs.declared.moves.Move.TheVariants.{Leaves, Arrives, Drops}
use Rattle.packet_trace.specs.declared.trace.Visit as trace
use Rattle.packet_trace.specs.declared.trace.End.TheVariants as end
use Rattle.packet_trace.specs.Steps.{functions_by_line, visit_of, IsMove, IsLonger}
use Rattle.packet_trace.specs.Trace.{record_of, IsTraceOf}
use Rattle.packet_trace.proofs.LinkedBoth.{leads_to}

-- a host is a location
pub host_located : (net : Network) (host : ℕ) → IsHost net host → host < length net.locations
host_located net host is = by (slice_get_cases net.locations host).1
  where
    nowhere : false ≡ true → host < length net.locations
    nowhere e = cc

    by : ((x : Location) × (host < length net.locations) × (slice_get net.locations host ≡ Some x) × (get_or net.locations host x ≡ x)) ⊎ ((length net.locations ≤ host) × (slice_get net.locations host ≡ None)) → host < length net.locations
    by (inl (x, within, at, same)) = within
    by (inr (past, none)) = nowhere (subst (λ o. IsSome (address_at (option_map (λ (l : Location). l.kind) o))) none is)

-- a frame that leaves comes to a location
pub leaves_for : (net : Network) (config : Config) → IsNetwork net → (f : Frame) (to port : ℕ) (tag : _) (left : Left) → IsMove net config f (Leaves to port tag left) → to < length net.locations
leaves_for net config lawful f to port tag left (link, goes, loc, in_port) =
    subst (λ l. l < length net.locations) (sym loc) (leads_to net lawful config f link tag (visit_of config f.loc left) goes)

module _ (net : Network) (config : Config) (behaviour : Behaviour) where
  -- a frame that leaves, and whose packet the functions that run change, hops
  pub hop_by : (f : Frame) (to port : ℕ) (tag : _) (left : Left) (functions : List ℕ) (packet : Packet) → IsMove net config f (Leaves to port tag left) →
      functions ≡ functions_by_line config.processes left.process → MayMakeInTurn net behaviour functions f.packet packet →
      HopsBy net config behaviour f (visit_of config f.loc left) (frame to port tag packet)
  hop_by f to port tag left functions packet (link, goes, loc, in_port) ran made =
      record { link = link; goes = goes; loc = loc; port = in_port; packet = subst (λ fs. MayMakeInTurn net behaviour fs f.packet packet) ran made }

  -- no hop leads from a frame to itself
  pub starts : (f : Frame) (visits : List trace.Visit) → visits ≡ [] → ReachesBy net config behaviour f (map record_of visits) f
  starts f visits none = subst (λ vs. ReachesBy net config behaviour f (map record_of vs) f) (sym none) refl

  one_more : (visits : List Visit) (f g h : Frame) (visit : Visit) → ReachesBy net config behaviour f visits g → HopsBy net config behaviour g visit h → ReachesBy net config behaviour f (visits ++ visit ∷ []) h
  one_more [] f g h visit e hop = (h, subst (λ x. HopsBy net config behaviour x visit h) e hop, refl)
  one_more (first ∷ visits) f g h visit (x, one, more) hop = (x, one, one_more visits x g h visit more hop)

  -- one hop more, and its record
  pub went_on : (visits more : List trace.Visit) (functions : List ℕ) (f g h : Frame) (left : Left) → functions ≡ functions_by_line config.processes left.process →
      IsLonger visits g.loc functions left more → ReachesBy net config behaviour f (map record_of visits) g →
      HopsBy net config behaviour g (visit_of config g.loc left) h → ReachesBy net config behaviour f (map record_of more) h
  went_on visits more functions f g h left ran longer reaches hop =
      let records : map record_of more ≡ map record_of visits ++ record { loc = g.loc; functions = functions; queue = left.queue; class = left.class } ∷ [] =
      ap (map record_of) longer ∙ map-append record_of visits _ in
      let same : map record_of more ≡ map record_of visits ++ visit_of config g.loc left ∷ [] =
      records ∙ ap (λ fs. map record_of visits ++ record { loc = g.loc; functions = fs; queue = left.queue; class = left.class } ∷ []) ran in
      subst (λ rs. ReachesBy net config behaviour f rs h) (sym same) (one_more (map record_of visits) f g h (visit_of config g.loc left) reaches hop)

  module _ (visits : List trace.Visit) (f g : Frame) (reaches : ReachesBy net config behaviour f (map record_of visits) g) (few : length visits < 65536) where
    short : length (map record_of visits) ≤ 65535
    short = omega (arith, length-map visits record_of)

    pub delivered : (host : ℕ) (packet : Packet) → IsMove net config g (Arrives host packet) → IsTraceOf net config behaviour f visits (end.Delivered host packet)
    delivered host packet stops = record { run = record { last = g; hops = reaches; stops = stops }; few = short }

    pub dropped : (loc : ℕ) → IsMove net config g (Drops loc) → IsTraceOf net config behaviour f visits (end.Dropped loc)
    dropped loc stops = record { run = record { last = g; hops = reaches; stops = stops }; few = short }

-- what the rest of the functions may make of a packet, all may make of the first packet
abbrev pub LeavesRest : Network → Behaviour → List ℕ → ℕ → Packet → Packet → Type 0
LeavesRest net behaviour functions index first changed =
    (q : Packet) → MayMakeInTurn net behaviour (drop index functions) changed q → MayMakeInTurn net behaviour functions first q

module _ (net : Network) (behaviour : Behaviour) (functions : List ℕ) (first : Packet) where
  -- one function more has run
  pub one_function : (index function : ℕ) (p q : Packet) → index < length functions → function ≡ get_or functions index 0 →
      LeavesRest net behaviour functions index first p → MayMake net behaviour function p q → LeavesRest net behaviour functions (index + 1) first q
  one_function index function p q within is rest made last more =
      let made_at : MayMake net behaviour (get_or functions index 0) p q = subst (λ n. MayMake net behaviour n p q) is made in
      rest last (subst (λ fs. MayMakeInTurn net behaviour fs p last) (sym (drop_more functions index 0 within)) (q, made_at, more))

  -- all have run
  pub all_functions : (index : ℕ) (p : Packet) → length functions ≤ index → LeavesRest net behaviour functions index first p → MayMakeInTurn net behaviour functions first p
  all_functions index p past rest = rest p (subst (λ fs. MayMakeInTurn net behaviour fs p p) (sym (drop_all index functions past)) refl)
