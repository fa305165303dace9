-- The rules of topologies, in the order in which they are asked.
use Rattle.std.specs.Prelude.{◌≡◌, ◌<◌, ◌⊎◌, ◌==◌, ℕ, List, [], ◌∷◌, length, filter, Some, slice_get, option_map}
use Rattle.std.specs.List.{AllByRecursion}
use Rattle.merlin_model.specs.declared.network.HostAddress.{HostAddress}
use Rattle.merlin_model.specs.declared.network.LocationKind.TheVariants.{Host, Switch, Middlebox}
use Rattle.merlin_model.specs.declared.network.Location.{Location}
use Rattle.merlin_model.specs.declared.network.Link.{Link}
use Rattle.merlin_model.specs.declared.network.DirectedLink.{DirectedLink}
use Rattle.merlin_model.specs.declared.network.FnDecl.{FnDecl}
use Rattle.merlin_model.specs.Networks.{Network, AreDifferent, names_of, directed_links}
use Rattle.topology_rules.specs.Counts.{counts, AreWithinLimits}
use Rattle.topology_rules.specs.Clashes.{HasNoClash}

-- two equal names
abbrev pub AreOne : List ℕ → List ℕ → Type 0
AreOne x y = x ≡ y

-- two hosts that share an address
pub record ShareAddress (k l : Location) : Type 0 where
  pub one : HostAddress
  pub other : HostAddress
  pub is_host : k.kind ≡ Host one
  pub is_host_too : l.kind ≡ Host other
  pub shared : (one.eth ≡ other.eth) ⊎ (one.ip ≡ other.ip)

-- two ends of links with one port of one location
abbrev pub SharePort : DirectedLink → DirectedLink → Type 0
SharePort v w = (v.from ≡ w.from) × (v.out_port ≡ w.out_port)

-- two links that join the same locations, whichever way round
abbrev pub AreParallel : Link → Link → Type 0
AreParallel k l = ((k.a ≡ l.a) × (k.b ≡ l.b)) ⊎ ((k.a ≡ l.b) × (k.b ≡ l.a))

-- one directed link leaves the location, to a switch
abbrev pub IsLinked : List Location → List DirectedLink → ℕ → Type 0
IsLinked locations ws loc =
    (directed : DirectedLink) × (filter (λ w. w.from == loc) ws ≡ directed ∷ [])
    × (option_map (λ l. l.kind) (slice_get locations directed.to) ≡ Some Switch)

-- so it is where there is a host
abbrev pub IsLinkedIfHost : List Location → List DirectedLink → ℕ → Type 0
IsLinkedIfHost locations ws loc =
    (address : HostAddress) → option_map (λ l. l.kind) (slice_get locations loc) ≡ Some (Host address) →
    IsLinked locations ws loc

-- a host at this location, the first that is not so linked
pub record IsFirstUnlinked (locations : List Location) (ws : List DirectedLink) (loc : ℕ) : Type 0 where
  pub within : loc < length locations
  pub unlinked : ¬ IsLinkedIfHost locations ws loc
  pub before : (k : ℕ) → k < loc → IsLinkedIfHost locations ws k

abbrev pub HostsAreLinked : List Location → List DirectedLink → Type 0
HostsAreLinked locations ws = (loc : ℕ) → loc < length locations → IsLinkedIfHost locations ws loc

abbrev pub IsMiddleboxAmong : List Location → ℕ → Type 0
IsMiddleboxAmong locations loc = option_map (λ l. l.kind) (slice_get locations loc) ≡ Some Middlebox

-- the places are middleboxes, none of them twice
abbrev pub ArePlacesAmong : List Location → List ℕ → Type 0
ArePlacesAmong locations places = AllByRecursion (IsMiddleboxAmong locations) places × AreDifferent places

abbrev pub IsPlacedAmong : List Location → FnDecl → Type 0
IsPlacedAmong locations f = ArePlacesAmong locations f.places

-- The rules up to one, each with those before it.

abbrev pub IsSmall : Network → Type 0
IsSmall net = AreWithinLimits (counts net)

pub record HasNames (net : Network) : Type 0 where
  pub small : IsSmall net
  pub names : HasNoClash AreOne (names_of net)

pub record HasAddresses (net : Network) : Type 0 where
  pub earlier : HasNames net
  pub addresses : HasNoClash ShareAddress net.locations

pub record HasPorts (net : Network) : Type 0 where
  pub earlier : HasAddresses net
  pub ports : HasNoClash SharePort (directed_links net)

pub record HasLinks (net : Network) : Type 0 where
  pub earlier : HasPorts net
  pub links : HasNoClash AreParallel net.links

pub record HasHosts (net : Network) : Type 0 where
  pub earlier : HasLinks net
  pub hosts : HostsAreLinked net.locations (directed_links net)

pub record KeepsRules (net : Network) : Type 0 where
  pub earlier : HasHosts net
  pub placed : AllByRecursion (IsPlacedAmong net.locations) net.functions
