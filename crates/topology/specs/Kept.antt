-- What the fields of a topology keep.
use Rattle.std.specs.Prelude.{◌≡◌}
use Rattle.merlin_model.specs.Networks.{Network, directed_links}
use Rattle.topology_shape.specs.Described.{described_by}
use Rattle.topology.specs.declared.net.Topology.TheInside.{Inside}
use Rattle.topology.specs.Lawful.{IsTopologyNetwork}
use Rattle.topology.specs.Symbols.{network_symbols}
use Rattle.topology.specs.Tables.{AreLinkTables}

abbrev pub network_of : Inside → Network
network_of t = described_by t.shape

-- The network keeps what each that is read keeps; the tables have its directed links, in order, and the symbols are its own.
pub record IsIndexed (t : Inside) : Type 0 where
  pub lawful : IsTopologyNetwork (network_of t)
  pub tables : AreLinkTables t.tables.far_ends.entries t.tables.ports.entries (directed_links (network_of t))
  pub symbols : t.symbols.items ≡ network_symbols (network_of t)
