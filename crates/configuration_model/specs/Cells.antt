-- The cells of a pair of hosts, as tables and host lines need them.
use Rattle.std.specs.Prelude.{ℕ, suc, ◌≡◌, ◌≤◌, ◌&&◌, Bool, true, List, [], ◌∷◌, find, Option, None, Some, option_map, unwrap_or, Contains, if◌then◌else◌}
use Rattle.merlin_model.specs.declared.policy.Pred.{Pred}
use Rattle.merlin_model.specs.declared.network.HostAddress.{HostAddress}
use Rattle.merlin_model.specs.Packets.{Packet, IsPacket, source_of, destination_of}
use Rattle.merlin_model.specs.Networks.{Network, Pairwise, address_of}
use Rattle.rules_model.specs.Tables.{Cell}
use Rattle.predicate_split.specs.declared.pair_cells.Cell.{Cell as HostCell}
use Rattle.predicate_split.specs.Cells.{cell_matches, owner_from}

-- the priority, by the parts that are named
abbrev pub priority_by : Option ℕ → Option ℕ → Option ℕ → ℕ
priority_by None a b = 20
priority_by (Some p) None None = 30
priority_by (Some p) None (Some b) = 40
priority_by (Some p) (Some a) None = 50
priority_by (Some p) (Some a) (Some b) = 60

abbrev pub priority_of : HostCell → ℕ
priority_of c = priority_by c.proto c.sport c.dport

-- What is owed of the cells between two hosts: the first that fits a packet names its owner; they stand by falling priority,
-- and of one priority at most one fits a packet.
pub record AreCells (preds : List Pred) (src dst : HostAddress) (cells : List HostCell) : Type 0 where
  pub first : (p : Packet) → IsPacket p → source_of p ≡ src → destination_of p ≡ dst → option_map (λ c. c.owner) (find (cell_matches p) cells) ≡ Some (owner_from 0 preds p)
  pub falling : Pairwise (λ b c. priority_of c ≤ priority_of b) cells
  pub one : (p : Packet) (b c : HostCell) → Contains cells b → Contains cells c → cell_matches p b ≡ true → cell_matches p c ≡ true → priority_of b ≡ priority_of c → b ≡ c

-- the cells of each pair of different hosts
abbrev pub AreAllCells : Network → List Pred → (ℕ → ℕ → List HostCell) → Type 0
AreAllCells net preds cells = (s d : ℕ) (a b : HostAddress) → (s ≡ d → ⊥) → address_of net s ≡ Some a → address_of net d ≡ Some b → AreCells preds a b (cells s d)

-- the statement that owns a cell, or the default
abbrev pub owner_of : ℕ → HostCell → ℕ
owner_of default c = unwrap_or c.owner default

-- a cell as a table has it
abbrev pub table_cell : HostCell → Cell
table_cell c = record { priority = priority_of c; proto = c.proto; sport = c.sport; dport = c.dport }

-- the owner goes by the parts that are named, and a cell without a protocol has no ports
pub record IsRegular (own : Option ℕ → Option ℕ → Option ℕ → Option ℕ) (c : HostCell) : Type 0 where
  pub owner : c.owner ≡ own c.proto c.sport c.dport
  pub star : c.proto ≡ None → (c.sport ≡ None) × (c.dport ≡ None)
