-- Networks: what stands where, and what is linked to what.
use Rattle.std.specs.Prelude.{ℕ, ◌≡◌, ◌≢◌, ◌<◌, ◌==◌, ◌⊎◌, ⊤, List, [], ◌∷◌, ◌++◌, length, map, filter, Contains, Option, None, Some, IsSome, slice_get, option_map}
use Rattle.std.specs.List.{AllByRecursion}
use Rattle.merlin_model.specs.declared.network.HostAddress.{HostAddress}
use Rattle.merlin_model.specs.declared.network.LocationKind.{LocationKind}
use Rattle.merlin_model.specs.declared.network.LocationKind.TheVariants.{Host, Switch, Middlebox}
use Rattle.merlin_model.specs.declared.network.Location.{Location}
use Rattle.merlin_model.specs.declared.network.Link.{Link}
pub use Rattle.merlin_model.specs.declared.network.DirectedLink.{DirectedLink}
use Rattle.merlin_model.specs.declared.network.FnDecl.{FnDecl}
use Rattle.merlin_model.specs.Packets.{Packet, source_of, destination_of}

-- A network. Locations, links and functions go by their place in these lists.
pub record Network : Type 0 where
  pub locations : List Location
  pub links : List Link
  pub functions : List FnDecl

-- what stands there, if it is a location
abbrev pub kind_of : Network → ℕ → Option LocationKind
kind_of net loc = option_map (λ l. l.kind) (slice_get net.locations loc)

-- the addresses of the host there, if there is a host
abbrev pub address_at : Option LocationKind → Option HostAddress
address_at None = None
address_at (Some (Host address)) = Some address
address_at (Some Switch) = None
address_at (Some Middlebox) = None

abbrev pub address_of : Network → ℕ → Option HostAddress
address_of net loc = address_at (kind_of net loc)

abbrev pub IsHost : Network → ℕ → Type 0
IsHost net loc = IsSome (address_of net loc)

abbrev pub IsSwitch : Network → ℕ → Type 0
IsSwitch net loc = kind_of net loc ≡ Some Switch

abbrev pub IsMiddlebox : Network → ℕ → Type 0
IsMiddlebox net loc = kind_of net loc ≡ Some Middlebox

-- the locations at which a function is placed, if it is one
abbrev pub places_of : Network → ℕ → Option (List ℕ)
places_of net function = option_map (λ f. f.places) (slice_get net.functions function)

-- all names: locations and functions share one space of names
abbrev pub names_of : Network → List (List ℕ)
names_of net = map (λ l. l.name) net.locations ++ map (λ f. f.name) net.functions

-- A packet is proper from host s to another host d when it bears the source addresses of s and the
-- destination addresses of d.
pub record IsProper (net : Network) (p : Packet) (s d : ℕ) : Type 0 where
  pub differ : s ≢ d
  pub source : address_of net s ≡ Some (source_of p)
  pub destination : address_of net d ≡ Some (destination_of p)

-- a link as it is seen from its end a, and from its end b
abbrev pub from_a : Link → DirectedLink
from_a link =
    record { from = link.a; out_port = link.aport; to = link.b; in_port = link.bport; capacity = link.capacity; back = link.back; weight = link.weight }

abbrev pub from_b : Link → DirectedLink
from_b link =
    record { from = link.b; out_port = link.bport; to = link.a; in_port = link.aport; capacity = link.back; back = link.capacity; weight = link.weight }

-- both directions of each link, the one from a to b first
abbrev pub directed_links_of : List Link → List DirectedLink
directed_links_of [] = []
directed_links_of (link ∷ links) =
    from_a link ∷ from_b link
    ∷ directed_links_of links

abbrev pub directed_links : Network → List DirectedLink
directed_links net = directed_links_of net.links

-- the same link seen from its other end
abbrev pub back_of : DirectedLink → DirectedLink
back_of w =
    record { from = w.to; out_port = w.in_port; to = w.from; in_port = w.out_port; capacity = w.back; back = w.capacity; weight = w.weight }

-- a directed link of the network leads from the one location to the other
pub record AreLinked (net : Network) (from to : ℕ) : Type 0 where
  pub link : DirectedLink
  pub present : Contains (directed_links net) link
  pub starts : link.from ≡ from
  pub ends : link.to ≡ to

-- R holds of each element and each later one
abbrev pub Pairwise : {X : Type 0} → (X → X → Type 0) → List X → Type 0
Pairwise R [] = ⊤
Pairwise R (x ∷ xs) = AllByRecursion (R x) xs × Pairwise R xs

-- no two elements are equal
abbrev pub AreDifferent : {X : Type 0} → List X → Type 0
AreDifferent xs = Pairwise (λ u v. u ≢ v) xs

-- the directed links that leave a location
abbrev pub links_from : Network → ℕ → List DirectedLink
links_from net loc = filter (λ link. link.from == loc) (directed_links net)

-- A directed link leads from one location to another by ports from 1 on, carries something, and has
-- a weight.
abbrev pub JoinsLocations : Network → DirectedLink → Type 0
JoinsLocations net link =
    (link.from < length net.locations) × (link.from ≢ link.to) × (0 < link.out_port)
    × (0 < link.capacity) × (0 < link.weight)

-- What a network that is read from a file keeps.
pub record IsNetwork (net : Network) : Type 0 where
  -- a link joins two different locations by ports from 1 on, carries something each way, and has a
  -- weight
  pub ends : AllByRecursion (JoinsLocations net) (directed_links net)
  -- each port of a location is that of one link, and two locations have at most one link
  pub ports :
      Pairwise (λ v w. v.from ≡ w.from → (v.out_port ≢ w.out_port) × (v.to ≢ w.to)) (directed_links net)
  -- no two hosts share an address
  pub addresses : (h k : ℕ) (a b : HostAddress) → address_of net h ≡ Some a →
      address_of net k ≡ Some b → (a.eth ≡ b.eth) ⊎ (a.ip ≡ b.ip) → h ≡ k
  -- a host has exactly one link, to a switch
  pub host_link : (h : ℕ) → IsHost net h → (link : DirectedLink) × (links_from net h ≡ link ∷ [])
      × IsSwitch net link.to
  -- functions are placed at middleboxes, at each at most once
  pub placed :
      AllByRecursion (λ f. AllByRecursion (IsMiddlebox net) f.places × AreDifferent f.places) net.functions
  -- no two locations or functions share a name
  pub names : AreDifferent (names_of net)
