-- What is looked up in a network.
use Rattle.std.specs.Prelude.{ℕ, List, Option, slice_get, option_map}
use Rattle.merlin_model.specs.declared.network.LocationKind.{LocationKind}
use Rattle.merlin_model.specs.declared.network.LocationKind.TheVariants.{Host, Switch, Middlebox}
use Rattle.merlin_model.specs.declared.network.Place.{Place}
use Rattle.merlin_model.specs.declared.network.Place.TheVariants as place
use Rattle.merlin_model.specs.Networks.{Network, kind_of}
use Rattle.merlin_model.specs.declared.network.DirectedLink.{DirectedLink}

-- the name of a location, if it is one
abbrev pub name_of : Network → ℕ → Option (List ℕ)
name_of net loc = option_map (λ l. l.name) (slice_get net.locations loc)

abbrev pub place_of_kind : LocationKind → Place
place_of_kind (Host address) = place.Host
place_of_kind Switch = place.Switch
place_of_kind Middlebox = place.Middlebox

-- what stands at a location, if it is one
abbrev pub place_at : Network → ℕ → Option Place
place_at net loc = option_map place_of_kind (kind_of net loc)

-- where a directed link ends: the location and its port
abbrev pub far_end : DirectedLink → ℕ × ℕ
far_end directed = (directed.to, directed.in_port)
