-- The cells of one protocol: a row for each source port that is told apart, with a cell for each destination port.
use Rattle.std.specs.Prelude.{ℕ, ◌≡◌, ◌<◌, ◌+◌, ◌*◌, ◌^◌, ⊤, nat_lt, Bool, true, false, List, [], ◌∷◌, ◌++◌, map, length, Option, None, Some, if◌then◌else◌}
use Rattle.std.specs.List.{AllByRecursion, flat_map}
use Rattle.merlin_model.specs.declared.policy.Field.{Field}
use Rattle.merlin_model.specs.declared.policy.Field.TheVariants.{Proto, Sport, Dport}
use Rattle.merlin_model.specs.Packets.{Packet}
use Rattle.packet_model.specs.Fields.{has_ports, packet_with}
use Rattle.predicate_split.specs.declared.pairs.PlacedPred.{PlacedPred}
use Rattle.predicate_split.specs.declared.pair_cells.Cell.{Cell}
use Rattle.predicate_split.specs.declared.pair_cells.Ranks.{Ranks}
use Rattle.predicate_split.specs.declared.fault.SplitFault.{SplitFault}
use Rattle.predicate_split.specs.declared.fault.SplitFault.TheVariants.{TooManyClasses, TooManyCells, OutOfMemory}
use Rattle.predicate_split.specs.declared.fault.TheConstants.{MAX_CELLS}
use Rattle.predicate_split.specs.declared.grids.Choice.{Choice}
use Rattle.predicate_split.specs.declared.grids.Grid.{Grid}
use Rattle.predicate_split.specs.Classes.{zero_packet}
use Rattle.predicate_split.specs.Parts.{least_from}
use Rattle.predicate_split.specs.Overlaps.{holder}
use Rattle.predicate_split.specs.Left.{entries_at, named_by}
use Rattle.predicate_split.specs.Cells.{value_of, choices}

-- the ports that entries mention under a protocol, which has them
abbrev pub ports_by : Field → ℕ → List PlacedPred → List ℕ
ports_by f proto entries = if has_ports proto then named_by f entries else []

-- a port or a star, with the least port that stands for it
abbrev pub choice_of : List ℕ → Option ℕ → Choice
choice_of named port = record { port = port; value = value_of named port }

-- each of these ports, or a star where it matches some other
abbrev pub port_choices : Bool → List ℕ → List Choice
port_choices is_each named = map (choice_of named) (choices is_each (2 ^ 16) named)

-- the least packet of a cell, from a packet of its protocol
abbrev pub chosen_packet : Packet → Choice → Choice → Packet
chosen_packet p sport dport = packet_with (packet_with p Sport sport.value) Dport dport.value

-- a cell of the packet's protocol, owned by the first of the entries that holds
abbrev pub chosen_cell : List PlacedPred → Packet → Choice → Choice → Cell
chosen_cell entries p sport dport = record {
  proto = Some p.proto;
  sport = sport.port;
  dport = dport.port;
  owner = holder entries (chosen_packet p sport dport);
}

abbrev pub cell_row : List PlacedPred → Packet → Choice → List Choice → List Cell
cell_row entries p sport dports = map (chosen_cell entries p sport) dports

abbrev pub rows_of : List PlacedPred → Packet → List Choice → List Choice → List Cell
rows_of entries p sports dports = flat_map (λ sport. cell_row entries p sport dports) sports

-- what tells packets of a protocol apart
pub record IsGrid (left : List PlacedPred) (proto : ℕ) (grid : Grid) : Type 0 where
  pub packet : grid.packet ≡ packet_with zero_packet Proto proto
  pub entries : grid.entries ≡ entries_at Proto proto left
  pub sports : grid.sports.items ≡ port_choices true (ports_by Sport proto (entries_at Proto proto left))
  pub other_sports : grid.other_sports.items ≡ port_choices false (ports_by Sport proto (entries_at Proto proto left))
  pub dports : grid.dports.items ≡ port_choices true (ports_by Dport proto (entries_at Proto proto left))
  pub other_dports : grid.other_dports.items ≡ port_choices false (ports_by Dport proto (entries_at Proto proto left))

-- each port that entries mention once a protocol is fixed is one
abbrev pub NamesPorts : List PlacedPred → Type 0
NamesPorts left =
    (proto : ℕ) → AllByRecursion (λ n. n < 2 ^ 16) (ports_by Sport proto (entries_at Proto proto left))
    × AllByRecursion (λ n. n < 2 ^ 16) (ports_by Dport proto (entries_at Proto proto left))

-- how many cells a protocol has
abbrev pub cells_in : Grid → ℕ
cells_in grid = (length grid.sports.items + length grid.other_sports.items) * (length grid.dports.items + length grid.other_dports.items)

abbrev pub grid_size : List PlacedPred → ℕ → ℕ
grid_size left proto =
    (length (port_choices true (ports_by Sport proto (entries_at Proto proto left))) + length (port_choices false (ports_by Sport proto (entries_at Proto proto left))))
    * (length (port_choices true (ports_by Dport proto (entries_at Proto proto left))) + length (port_choices false (ports_by Dport proto (entries_at Proto proto left))))

-- the cells of a protocol with each source port or a star, and each destination port or a star
abbrev pub rows_under : List PlacedPred → Bool → Bool → ℕ → List Cell
rows_under left has_sport has_dport proto =
    rows_of (entries_at Proto proto left) (packet_with zero_packet Proto proto)
    (port_choices has_sport (ports_by Sport proto (entries_at Proto proto left)))
    (port_choices has_dport (ports_by Dport proto (entries_at Proto proto left)))

-- the cells of a grid are added, each to its rank
pub record IsGrownByGrid (grid : Grid) (old new : Ranks) : Type 0 where
  pub both : new.both.items ≡ old.both.items ++ rows_of grid.entries grid.packet grid.sports.items grid.dports.items
  pub sport : new.sport.items ≡ old.sport.items ++ rows_of grid.entries grid.packet grid.sports.items grid.other_dports.items
  pub dport : new.dport.items ≡ old.dport.items ++ rows_of grid.entries grid.packet grid.other_sports.items grid.dports.items
  pub neither : new.neither.items ≡ old.neither.items ++ rows_of grid.entries grid.packet grid.other_sports.items grid.other_dports.items

-- the cells of a protocol are added
pub record IsGrown (left : List PlacedPred) (proto : ℕ) (old new : Ranks) : Type 0 where
  pub both : new.both.items ≡ old.both.items ++ rows_under left true true proto
  pub sport : new.sport.items ≡ old.sport.items ++ rows_under left true false proto
  pub dport : new.dport.items ≡ old.dport.items ++ rows_under left false true proto
  pub neither : new.neither.items ≡ old.neither.items ++ rows_under left false false proto

-- the cells of these protocols
pub record AreCellsUnder (left : List PlacedPred) (protos : List ℕ) (ranks : Ranks) : Type 0 where
  pub both : ranks.both.items ≡ flat_map (rows_under left true true) protos
  pub sport : ranks.sport.items ≡ flat_map (rows_under left true false) protos
  pub dport : ranks.dport.items ≡ flat_map (rows_under left false true) protos
  pub neither : ranks.neither.items ≡ flat_map (rows_under left false false) protos

-- the cell for all protocols but these
abbrev pub other_cells : List PlacedPred → List ℕ → List Cell
other_cells left named =
    if nat_lt (least_from 0 named) (2 ^ 8) then
    record { proto = None; sport = None; dport = None; owner = holder left (packet_with zero_packet Proto (least_from 0 named)) } ∷ []
    else []

-- all cells, by falling priority
abbrev pub cells_left : List PlacedPred → List Cell
cells_left left =
    flat_map (rows_under left true true) (named_by Proto left)
    ++ (flat_map (rows_under left true false) (named_by Proto left)
    ++ (flat_map (rows_under left false true) (named_by Proto left)
    ++ (flat_map (rows_under left false false) (named_by Proto left)
    ++ other_cells left (named_by Proto left))))

-- Why so many cells are refused where there is room for some.
abbrev pub RefusesRoom : ℕ → ℕ → SplitFault → Type 0
RefusesRoom count room (TooManyClasses most) = ⊥
RefusesRoom count room (TooManyCells most) = (room < count) × (most ≡ MAX_CELLS + 1)
RefusesRoom count room OutOfMemory = ⊤
