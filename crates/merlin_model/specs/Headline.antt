-- What a compiled configuration promises: of packets, of guarantees and of caps.
use Rattle.std.specs.Prelude.{ℕ, ◌≡◌, ◌≢◌, ◌≤◌, ◌<◌, ◌+◌, ◌*◌, ◌==◌, ◌&&◌, ◌↔◌, ◌⊎◌, List, [], ◌∷◌, ◌++◌, map, sum, sum_by, filter, length, AllPairs, Contains, Option, None, Some, slice_get}
use Rattle.std.specs.List.{AllByRecursion, AllZip}
use Rattle.std.specs.List.Sorted.{IsStrictlyIncreasing}
use Rattle.merlin_model.specs.declared.policy.Symbol.{Symbol}
use Rattle.merlin_model.specs.declared.policy.Ends.{Ends}
use Rattle.merlin_model.specs.declared.config.Queue.{Queue}
use Rattle.merlin_model.specs.declared.config.HostLine.TheVariants as line
use Rattle.merlin_model.specs.declared.config.Config.{Config}
use Rattle.merlin_model.specs.Packets.{Packet, IsPacket}
use Rattle.merlin_model.specs.Networks.{Network, IsHost, IsProper, DirectedLink, directed_links}
use Rattle.merlin_model.specs.Words.{Stop, visits, crossings}
use Rattle.merlin_model.specs.Policies.{Policy, match_of, IsAllowed, IsOnPath}
use Rattle.merlin_model.specs.Rates.{max_of, min_of, IsGuaranteed, IsLiveSource, AreLiveSources, IsShareAt}
use Rattle.merlin_model.specs.Assignments.{load, IsFeasible}
use Rattle.merlin_model.specs.Machine.{start, Visit, End, Delivered, Dropped, EachRun}

-- where a record was made, and the functions that ran there
abbrev pub stop_of : Visit → Stop
stop_of v = record { loc = v.loc; functions = v.functions }

-- a stop at a host
abbrev pub stop_at : ℕ → Stop
stop_at loc = record { loc = loc; functions = [] }

-- the packet is allowed some walk
abbrev pub HasAllowed : Network → Policy → ℕ → Packet → Type 0
HasAllowed net policy s p = (w : List Symbol) × IsAllowed net policy p s w

-- statement i is uncapped, or has a share above 0 at s
abbrev pub HasRoom : Network → Policy → ℕ → ℕ → Type 0
HasRoom net policy i s = (max_of policy i ≡ None) ⊎ ((c : ℕ) × IsShareAt net policy i s c × (0 < c))

-- w is the walk that is written for the guaranteed statement i
abbrev pub IsWalkOf : List Ends → List (List Symbol) → ℕ → List Symbol → Type 0
IsWalkOf ends walks i w =
    (k : ℕ) × (e : Ends) × (slice_get ends k ≡ Some e) × (e.statement ≡ i)
    × (slice_get walks k ≡ Some w)

-- a walk is written for the guaranteed statement i, and it is on the path of the statement
abbrev pub HasWalkOnPath : Policy → List Ends → List (List Symbol) → ℕ → Type 0
HasWalkOnPath policy ends walks i =
    (w : List Symbol) × IsWalkOf ends walks i w × IsOnPath policy i w

-- t is the first switch of host s
abbrev pub IsFirstSwitch : Network → ℕ → ℕ → Type 0
IsFirstSwitch net s t =
    (link : DirectedLink) × Contains (directed_links net) link × (link.from ≡ s) × (link.to ≡ t)

-- dropped at once, or at the first switch
abbrev pub IsDroppedAtHost : ℕ → List Visit → End → Type 0
IsDroppedAtHost s records end = (records ≡ []) × (end ≡ Dropped s)

abbrev pub IsDroppedAtSwitch : Network → ℕ → List Visit → End → Type 0
IsDroppedAtSwitch net s records end =
    (t : ℕ) × IsFirstSwitch net s t × (map stop_of records ≡ stop_at s ∷ []) × (end ≡ Dropped t)

-- each class of each host has one line
abbrev pub HasOneLinePerClass : Config → Type 0
HasOneLinePerClass config =
    (i j s x : ℕ) (rate ceil rate' ceil' : ℕ) →
    slice_get config.hosts i ≡ Some (line.Class s x rate ceil) →
    slice_get config.hosts j ≡ Some (line.Class s x rate' ceil') → i ≡ j

module _ (net : Network) (policy : Policy) (ends : List Ends) (walks : List (List Symbol)) (config : Config) where
  -- The run is delivered at the end of an allowed walk, after the stops of that walk. It is the
  -- written walk of a guaranteed statement; for best effort no allowed word has fewer symbols.
  pub record FollowsWalk (s d : ℕ) (p : Packet) (records : List Visit) (end : End) : Type 0 where
    pub packet : Packet
    pub delivered : end ≡ Delivered d packet
    pub word : List Symbol
    pub allowed : IsAllowed net policy p s word
    pub stops : map stop_of records ++ stop_at d ∷ [] ≡ visits word
    pub written : IsGuaranteed policy (match_of policy p) →
        IsWalkOf ends walks (match_of policy p) word
    pub shortest : ¬ IsGuaranteed policy (match_of policy p) → (other : List Symbol) →
        IsAllowed net policy p s other → length word ≤ length other

  -- Packets: each run of each packet from each host.
  pub record DeliversPackets : Type 0 where
    pub allowed : (s d : ℕ) (p : Packet) → IsPacket p → IsProper net p s d →
        HasAllowed net policy s p → HasRoom net policy (match_of policy p) s →
        EachRun net config (start s p) (FollowsWalk s d p)
    pub no_share : (s d : ℕ) (p : Packet) → IsPacket p → IsProper net p s d →
        IsShareAt net policy (match_of policy p) s 0 →
        EachRun net config (start s p) (IsDroppedAtHost s)
    pub none_allowed : (s d : ℕ) (p : Packet) → IsPacket p → IsProper net p s d →
        ¬ HasAllowed net policy s p → ¬ IsShareAt net policy (match_of policy p) s 0 →
        EachRun net config (start s p) (IsDroppedAtSwitch net s)
    pub improper : (s : ℕ) (p : Packet) → IsPacket p → IsHost net s →
        ((d : ℕ) → ¬ IsProper net p s d) →
        EachRun net config (start s p) (λ records end. IsDroppedAtHost s records end ⊎ IsDroppedAtSwitch net s records end)

  -- the line reserves, on one directed link that a guaranteed walk crosses, the minimum as often as
  -- the walk crosses it
  pub record IsReservation (q : Queue) : Type 0 where
    pub place : ℕ
    pub at : Ends
    pub walk : List Symbol
    pub statement : slice_get ends place ≡ Some at
    pub walks_there : slice_get walks place ≡ Some walk
    pub link : DirectedLink
    pub present : Contains (directed_links net) link
    pub crossed : 0 < crossings walk link.from link.to
    pub loc : q.loc ≡ link.from
    pub port : q.port ≡ link.out_port
    pub number : q.queue ≡ place + 1
    pub rate : q.rate ≡ min_of policy at.statement * crossings walk link.from link.to

  -- what the queue lines of a directed link reserve together
  abbrev pub reserved_on : DirectedLink → ℕ
  reserved_on link = sum_by (λ q. q.rate) (filter (λ q. (q.loc == link.from) && (q.port == link.out_port)) config.queues)

  -- host s has this class, with this rate
  abbrev pub HasClass : ℕ → Option ℕ → ℕ → Type 0
  HasClass s class rate =
      (x : ℕ) × (ceil : ℕ) × (class ≡ Some x) × Contains config.hosts (line.Class s x rate ceil)

  -- the first record is the host's, in a class of this rate, and all others are through the queue
  pub record GoesThrough (s q rate : ℕ) (records : List Visit) : Type 0 where
    pub first : Visit
    pub others : List Visit
    pub begins : records ≡ first ∷ others
    pub host : first.loc ≡ s
    pub class : HasClass s first.class rate
    pub queues : AllByRecursion (λ v. v.queue ≡ Some q) others

  -- Queues: reserved exactly for the guarantees, within the capacities, and taken by the packets.
  pub record MeetsGuarantees : Type 0 where
    pub lines : (q : Queue) → Contains config.queues q ↔ IsReservation q
    pub once : AllPairs (λ q r. q ≢ r) config.queues
    pub loads :
        AllByRecursion (λ link. reserved_on link ≡ load net policy ends walks link.from link.to) (directed_links net)
    pub feasible : IsFeasible net policy ends walks
    pub taken : (s : ℕ) (p : Packet) (k : ℕ) (e : Ends) → IsPacket p → HasAllowed net policy s p →
        slice_get ends k ≡ Some e → e.statement ≡ match_of policy p →
        EachRun net config (start s p) (λ records end. GoesThrough s (k + 1) (min_of policy e.statement) records)

  -- statement i has a class at host s: s is a live source of it, and it is guaranteed or has a
  -- share above 0
  abbrev pub IsClassed : ℕ → ℕ → Type 0
  IsClassed i s =
      IsLiveSource net policy i s
      × (IsGuaranteed policy i ⊎ ((c : ℕ) × IsShareAt net policy i s c × (0 < c)))

  -- class x of host s is that of statement i: its classed statements are numbered from 1, in their
  -- order
  pub record IsClassOf (i s x : ℕ) : Type 0 where
    pub classed : List ℕ
    pub ascending : IsStrictlyIncreasing classed
    pub exactly : (j : ℕ) → Contains classed j ↔ IsClassed j s
    pub place : ℕ
    pub stands : slice_get classed place ≡ Some i
    pub number : x ≡ place + 1

  -- the ceiling of statement i at host s, 0 where it has no class there
  abbrev pub IsCeiling : ℕ → ℕ → ℕ → Type 0
  IsCeiling i s c =
      ((¬ IsClassed i s) × (c ≡ 0))
      ⊎ ((x : ℕ) × (rate : ℕ) × IsClassOf i s x × Contains config.hosts (line.Class s x rate c))

  -- Caps: the ceilings of a statement sum to its cap, and its packets are in its classes.
  pub record KeepsCaps : Type 0 where
    pub sums : (i cap : ℕ) (hosts : List ℕ) → max_of policy i ≡ Some cap →
        AreLiveSources net policy i hosts → hosts ≢ [] →
        (ceilings : List ℕ) × AllZip (IsCeiling i) hosts ceilings × (sum ceilings ≡ cap)
    pub classed : (s : ℕ) (p : Packet) (c : ℕ) → IsPacket p → HasAllowed net policy s p →
        IsShareAt net policy (match_of policy p) s c → 0 < c →
        EachRun net config (start s p) (λ records end.
        (first : Visit) × (others : List Visit) × (x : ℕ) × (records ≡ first ∷ others)
        × (first.class ≡ Some x) × IsClassOf (match_of policy p) s x)
