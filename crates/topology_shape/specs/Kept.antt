-- What the fields of named locations keep.
use Rattle.std.specs.Prelude.{List}
use Rattle.merlin_model.specs.declared.network.Location.{Location}
use Rattle.topology_shape.specs.declared.named.NamedLocations.TheInside.{Inside}
use Rattle.topology_shape.specs.Format.{location_names}
use Rattle.topology_shape.specs.Numbering.{IsNumbering}

abbrev pub locations_kept : Inside → List Location
locations_kept named = named.locations.items

-- the table numbers the names of the locations
abbrev pub AreNumbered : Inside → Type 0
AreNumbered named = IsNumbering named.numbers.entries (location_names named.locations.items)
