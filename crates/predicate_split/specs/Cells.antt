-- The cells of a pair of hosts: what a first switch matches on of the packets between them, and which predicate owns them.
use Rattle.std.specs.Prelude.{ℕ, suc, ◌≡◌, ◌<◌, ◌+◌, ◌==◌, ◌&&◌, ◌^◌, ⊤, nat_lt, Bool, true, false, List, [], ◌∷◌, ◌++◌, map, length, find, Option, None, Some, if◌then◌else◌}
use Rattle.std.specs.List.{flat_map}
use Rattle.merlin_model.specs.declared.policy.Field.{Field}
use Rattle.merlin_model.specs.declared.policy.Field.TheVariants.{EthSrc, EthDst, IpSrc, IpDst, Proto, Sport, Dport}
use Rattle.merlin_model.specs.declared.policy.Pred.{Pred}
use Rattle.merlin_model.specs.declared.network.HostAddress.{HostAddress}
use Rattle.merlin_model.specs.Packets.{Packet}
use Rattle.merlin_model.specs.Predicates.{holds}
use Rattle.packet_model.specs.Fields.{has_ports, IsBetween}
use Rattle.predicate_logic.specs.Residues.{residues}
use Rattle.predicate_logic.specs.Mentions.{mentions, ascending}
use Rattle.predicate_split.specs.declared.pair_cells.Cell.{Cell}
use Rattle.predicate_split.specs.declared.fault.SplitFault.{SplitFault}
use Rattle.predicate_split.specs.declared.fault.SplitFault.TheVariants.{TooManyClasses, TooManyCells, OutOfMemory}
use Rattle.predicate_split.specs.declared.fault.TheConstants.{MAX_CELLS}
use Rattle.predicate_split.specs.Parts.{least_from}

-- a star matches everything
abbrev pub allows : Option ℕ → ℕ → Bool
allows None n = true
allows (Some m) n = m == n

abbrev pub cell_matches : Packet → Cell → Bool
cell_matches p c = allows c.proto p.proto && allows c.sport p.sport && allows c.dport p.dport

-- the place, counted from n, of the first predicate that holds of the packet
abbrev pub owner_from : ℕ → List Pred → Packet → Option ℕ
owner_from n [] p = None
owner_from n (pred ∷ rest) p = if holds pred p then Some n else owner_from (suc n) rest p

-- what is left of the predicates between two hosts
abbrev pub between_hosts : HostAddress → HostAddress → List Pred → List Pred
between_hosts src dst preds = residues IpDst dst.ip (residues IpSrc src.ip (residues EthDst dst.eth (residues EthSrc src.eth preds)))

abbrev pub packet_between : HostAddress → HostAddress → ℕ → ℕ → ℕ → Packet
packet_between src dst proto sport dport = record { eth_src = src.eth; eth_dst = dst.eth; ip_src = src.ip; ip_dst = dst.ip; proto = proto; sport = sport; dport = dport }

-- the protocols that are mentioned by what is left between two hosts
abbrev pub protos : List Pred → List ℕ
protos left = ascending (flat_map (mentions Proto) left)

-- the ports that are mentioned under a protocol, which has them
abbrev pub ports_under : Field → List Pred → ℕ → List ℕ
ports_under f left proto = if has_ports proto then ascending (flat_map (mentions f) (residues Proto proto left)) else []

-- A star stands for the least value that is not mentioned.
abbrev pub value_of : List ℕ → Option ℕ → ℕ
value_of named None = least_from 0 named
value_of named (Some n) = n

-- A cell's own packet: each star stands for its least value, and a protocol that is not mentioned has no ports.
abbrev pub packet_of_cell : List Pred → HostAddress → HostAddress → Option ℕ → Option ℕ → Option ℕ → Packet
packet_of_cell left src dst None sport dport = packet_between src dst (least_from 0 (protos left)) 0 0
packet_of_cell left src dst (Some proto) sport dport =
    packet_between src dst proto (value_of (ports_under Sport left proto) sport) (value_of (ports_under Dport left proto) dport)

abbrev pub own_packet : List Pred → HostAddress → HostAddress → Cell → Packet
own_packet preds src dst c = packet_of_cell (between_hosts src dst preds) src dst c.proto c.sport c.dport

-- each of these values, or a star where some value below the limit is not among them
abbrev pub choices : Bool → ℕ → List ℕ → List (Option ℕ)
choices true limit named = map Some named
choices false limit named = if nat_lt (least_from 0 named) limit then None ∷ [] else []

-- From the predicates, what is left of them, and the hosts.
module _ (preds left : List Pred) (src dst : HostAddress) where
  abbrev pub cell_of : Option ℕ → Option ℕ → Option ℕ → Cell
  cell_of proto a b = record { proto = proto; sport = a; dport = b; owner = owner_from 0 preds (packet_of_cell left src dst proto a b) }

  -- the cells of a protocol, with each source port or a star, and each destination port or a star
  abbrev pub cells_under : Bool → Bool → ℕ → List Cell
  cells_under has_sport has_dport proto =
      flat_map (λ a. map (cell_of (Some proto) a) (choices has_dport (2 ^ 16) (ports_under Dport left proto))) (choices has_sport (2 ^ 16) (ports_under Sport left proto))

  -- by falling priority, then by protocol, source port and destination port
  abbrev pub all_cells : List Cell
  all_cells =
      flat_map (cells_under true true) (protos left)
      ++ (flat_map (cells_under true false) (protos left)
      ++ (flat_map (cells_under false true) (protos left)
      ++ (flat_map (cells_under false false) (protos left)
      ++ map (λ proto. cell_of proto None None) (choices false (2 ^ 8) (protos left)))))

-- the cells of a pair of hosts, in order
abbrev pub cells_between : List Pred → HostAddress → HostAddress → List Cell
cells_between preds src dst = all_cells preds (between_hosts src dst preds) src dst

-- The packet goes between the hosts, and this is the first of their cells that fits it.
abbrev pub FitsFirst : List Pred → HostAddress → HostAddress → Cell → Packet → Type 0
FitsFirst preds src dst c p = IsBetween p src dst × (find (cell_matches p) (cells_between preds src dst) ≡ Some c)

-- Why `cells` refuses: more cells than there may be, counted up to one past the limit, or want of memory.
abbrev pub RefusesCells : List Pred → HostAddress → HostAddress → SplitFault → Type 0
RefusesCells preds src dst (TooManyClasses count) = ⊥
RefusesCells preds src dst (TooManyCells count) = (MAX_CELLS < length (cells_between preds src dst)) × (count ≡ MAX_CELLS + 1)
RefusesCells preds src dst OutOfMemory = ⊤
