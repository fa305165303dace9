-- Which text describes which network, and why a text is refused.
use Rattle.std.specs.Prelude.{◌≡◌, ◌<◌, ◌+◌, ⊤, ℕ, List, Some, slice_get}
use Rattle.merlin_model.specs.Networks.{Network, names_of, directed_links}
use Rattle.topology_shape.specs.declared.fault.ShapeFault.{ShapeFault}
use Rattle.topology_shape.specs.declared.fault.ShapeFault.TheVariants as shape
use Rattle.topology_shape.specs.Format.{location_names}
use Rattle.topology_shape.specs.Faults.{IsShapeText, IsShapeFaultOf}
use Rattle.topology_rules.specs.declared.fault.NetFault.{NetFault}
use Rattle.topology_rules.specs.declared.fault.NetFault.TheVariants.{Json, Shape, TooLarge, DuplicateName, DuplicateAddress, DuplicatePort, ParallelLink, HostLink, Placement, OutOfMemory}
use Rattle.topology_rules.specs.Counts.{counts, IsFirstExcess}
use Rattle.topology_rules.specs.Clashes.{IsFirstClash, IsFirstFailure}
use Rattle.topology_rules.specs.Rules.{AreOne, ShareAddress, SharePort, AreParallel, IsFirstUnlinked, IsPlacedAmong, IsSmall, HasNames, HasAddresses, HasPorts, HasLinks, HasHosts, KeepsRules}

-- this is the name of the location
abbrev pub IsNameAt : Network → ℕ → List ℕ → Type 0
IsNameAt net loc name = slice_get (location_names net.locations) loc ≡ Some name

-- What a described network is refused for: the first rule that it breaks, where it breaks it first. Want of memory has no cause.
abbrev pub Breaks : Network → NetFault → Type 0
Breaks net Json = ⊥
Breaks net (Shape what) = ⊥
Breaks net (TooLarge what count) = IsFirstExcess (counts net) what count
Breaks net (DuplicateName name) =
    IsSmall net × (place : ℕ) × (clash : IsFirstClash AreOne (names_of net) place) × (name ≡ clash.second)
Breaks net (DuplicateAddress name) =
    HasNames net × (loc : ℕ) × IsFirstClash ShareAddress net.locations loc × IsNameAt net loc name
Breaks net (DuplicatePort name port) =
    HasAddresses net × (place : ℕ) × (clash : IsFirstClash SharePort (directed_links net) place)
    × IsNameAt net clash.second.from name × (port ≡ clash.second.out_port)
Breaks net (ParallelLink link) = HasPorts net × IsFirstClash AreParallel net.links link
Breaks net (HostLink name) =
    HasLinks net × (loc : ℕ) × IsFirstUnlinked net.locations (directed_links net) loc × IsNameAt net loc name
Breaks net (Placement name) =
    HasHosts net × (function : ℕ) × (failure : IsFirstFailure (IsPlacedAmong net.locations) net.functions function)
    × (name ≡ failure.element.name)
Breaks net OutOfMemory = ⊤

-- there is more of this than its limit, or memory ran out
abbrev pub IsExcess : List ℕ → ℕ → ℕ → NetFault → Type 0
IsExcess what count limit (TooLarge word number) = (limit < count) × (word ≡ what) × (number ≡ limit + 1)
IsExcess what count limit OutOfMemory = ⊤
IsExcess what count limit fault = ⊥

-- the bytes are a JSON text that describes the network, and the network keeps the rules
abbrev pub IsTopology : List ℕ → Network → Type 0
IsTopology bytes net = IsShapeText bytes net × KeepsRules net

-- the bytes describe a network that is refused so
abbrev pub IsBroken : List ℕ → NetFault → Type 0
IsBroken bytes fault = (net : Network) × IsShapeText bytes net × Breaks net fault

-- Why bytes are refused, the first of the causes. Want of memory has none.
abbrev pub Refuses : NetFault → List ℕ → Type 0
Refuses Json bytes = IsShapeFaultOf bytes shape.Json
Refuses (Shape what) bytes = IsShapeFaultOf bytes (shape.Wrong what)
Refuses (TooLarge what count) bytes = IsBroken bytes (TooLarge what count)
Refuses (DuplicateName name) bytes = IsBroken bytes (DuplicateName name)
Refuses (DuplicateAddress name) bytes = IsBroken bytes (DuplicateAddress name)
Refuses (DuplicatePort name port) bytes = IsBroken bytes (DuplicatePort name port)
Refuses (ParallelLink link) bytes = IsBroken bytes (ParallelLink link)
Refuses (HostLink name) bytes = IsBroken bytes (HostLink name)
Refuses (Placement name) bytes = IsBroken bytes (Placement name)
Refuses OutOfMemory bytes = ⊤

-- the refusal for a fault of the shape
abbrev pub of_shape : ShapeFault → NetFault
of_shape shape.Json = Json
of_shape (shape.Wrong what) = Shape what
of_shape shape.OutOfMemory = OutOfMemory

-- the bytes have no shape, and this refusal says why
abbrev pub IsShapeRefusal : List ℕ → NetFault → Type 0
IsShapeRefusal bytes fault = (cause : ShapeFault) × IsShapeFaultOf bytes cause × (fault ≡ of_shape cause)
