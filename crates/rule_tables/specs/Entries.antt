-- Entries: which cells they are made for.
use Rattle.std.specs.Prelude.{ℕ, ◌≡◌, ◌≢◌, List, Option, None, Some, option_map, slice_get}
use Rattle.std.specs.List.{AllByRecursion}
use Rattle.std.specs.Option.{option_and_then}
use Rattle.merlin_model.specs.Networks.{Network, IsHost}
use Rattle.rules_model.specs.declared.attached_host.AttachedHost.{AttachedHost}
use Rattle.rules_model.specs.Products.{Group}
use Rattle.rules_model.specs.Tables.{IngressEntry, IsIngressEntry, owned_by}
use Rattle.configuration_model.specs.Cells.{table_cell}
use Rattle.rule_tables.specs.declared.branches.TagKey.{TagKey as ListedKey}
use Rattle.rule_tables.specs.declared.branches.OwnedCell.{OwnedCell}
use Rattle.rule_tables.specs.declared.entries.Entry.{Entry}
use Rattle.rule_tables.specs.Branches.{owned_of}
use Rattle.rule_tables.specs.Hops.{table_hop}
use Rattle.rule_tables.specs.Rows.{tags_alone}

-- the host at a location, by a list with a place for each location
abbrev pub attached_in : List (Option AttachedHost) → ℕ → Option AttachedHost
attached_in hosts loc = option_and_then (λ h. h) (slice_get hosts loc)

pub record IsBetweenHosts (net : Network) (c : OwnedCell) : Type 0 where
  pub source : IsHost net c.source
  pub dest : IsHost net c.dest
  pub differ : c.source ≢ c.dest

abbrev pub AreBetweenHosts : Network → List OwnedCell → Type 0
AreBetweenHosts net owned = AllByRecursion (IsBetweenHosts net) owned

abbrev pub entry_of : Entry → IngressEntry
entry_of e = record {
  pair = record { source = e.source.loc; dest = e.dest; from = e.source.address; to = e.address; link = e.source.link };
  cell = table_cell e.cell;
  group = e.group;
  queue = e.queue;
  hop = option_map table_hop e.hop;
}

-- the entry of a cell
pub record IsCellEntry (net : Network) (groups : List Group) (tags : List ListedKey) (c : OwnedCell) (e : Entry) : Type 0 where
  pub is : IsIngressEntry net groups (tags_alone tags) (entry_of e)
  pub owned : owned_by (entry_of e) ≡ owned_of c

abbrev pub IsEntryMade : Network → List Group → List ListedKey → OwnedCell → Option Entry → Type 0
IsEntryMade net groups tags c None = ⊥
IsEntryMade net groups tags c (Some e) = IsCellEntry net groups tags c e
