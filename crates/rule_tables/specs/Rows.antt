-- Rows: which vertices they are made for.
use Rattle.std.specs.Prelude.{ℕ, suc, ◌≡◌, ◌⊎◌, ◌↔◌, List, [], ◌∷◌, ◌++◌, map, Option, None, Some, slice_get, Contains}
use Rattle.std.specs.List.{flat_map}
use Rattle.merlin_model.specs.Networks.{Network, IsHost, Pairwise}
use Rattle.rules_model.specs.Products.{Vertex, loc_of, Group, AreWrittenWalks}
use Rattle.rules_model.specs.Tables.{TagKey, IsBelowKey, IsTagKey, TableRow, Plan, IsTableRow}
use Rattle.product_graph.specs.Products.{vertex_of}
use Rattle.rule_tables.specs.declared.branches.TagKey.{TagKey as ListedKey}
use Rattle.rule_tables.specs.declared.branches.Branch.{Branch}
use Rattle.rule_tables.specs.declared.branches.GroupBranches.{GroupBranches}
use Rattle.rule_tables.specs.declared.rows.Row.{Row}
use Rattle.rule_tables.specs.Branches.{key_of, vertex_in, AreGroupBranches}
use Rattle.rule_tables.specs.Hops.{table_hop}

-- what is known of the groups and the tags
pub record IsReady (net : Network) (groups : List Group) (tags : List ListedKey) : Type 0 where
  pub written_are : AreWrittenWalks net groups
  pub ascend : Pairwise IsBelowKey (map key_of tags)
  pub are : (key : TagKey) → Contains (map key_of tags) key ↔ IsTagKey net groups key

abbrev pub AreAllBranches : Network → List Group → List GroupBranches → Type 0
AreAllBranches net groups branches =
    (g : ℕ) (group : GroupBranches) → slice_get branches g ≡ Some group → AreGroupBranches net groups g group

-- a plan of tags alone
abbrev pub tags_alone : List ListedKey → Plan
tags_alone tags = record { tags = map key_of tags; rows = []; entries = [] }

abbrev pub table_row : Row → TableRow
table_row row = record {
  group = row.group;
  dest = row.dest;
  vertex = vertex_of row.vertex;
  tag = row.tag;
  eth = row.eth;
  hop = table_hop row.hop;
  queue = row.queue;
}

-- a spot is a group, a destination and a vertex
abbrev pub Spot : Type 0
Spot = ℕ × ℕ × Vertex

-- the row of a spot
pub record IsRowOf (net : Network) (groups : List Group) (tags : List ListedKey) (spot : Spot) (row : Row) : Type 0 where
  pub is : IsTableRow net groups (tags_alone tags) (table_row row)
  pub group : row.group ≡ spot.0
  pub dest : row.dest ≡ spot.1
  pub vertex : vertex_of row.vertex ≡ spot.2

abbrev pub IsRowOrHost : Network → List Group → List ListedKey → ℕ → ℕ → Vertex → Option Row → Type 0
IsRowOrHost net groups tags g d v None = IsHost net (loc_of v)
IsRowOrHost net groups tags g d v (Some row) = IsRowOf net groups tags (g, d, v) row

-- the rows are those of the spots at no host, in their order
abbrev pub AreSpotRows : Network → List Group → List ListedKey → List Spot → List Row → Type 0
AreSpotRows net groups tags [] rows = rows ≡ []
AreSpotRows net groups tags (spot ∷ spots) rows =
    (IsHost net (loc_of spot.2) × AreSpotRows net groups tags spots rows)
    ⊎ ((row : Row) × (rest : List Row) × (rows ≡ row ∷ rest) × IsRowOf net groups tags spot row
    × AreSpotRows net groups tags spots rest)

-- the rows of these spots were added
abbrev pub AddsRows : Network → List Group → List ListedKey → List Spot → List Row → List Row → Type 0
AddsRows net groups tags spots old new = (added : List Row) × (new ≡ old ++ added) × AreSpotRows net groups tags spots added

abbrev pub spots_of_branch : ℕ → Branch → List Spot
spots_of_branch g branch = map (λ step. (g, branch.dest, vertex_in step)) branch.steps

abbrev pub spots_of_group : ℕ → GroupBranches → List Spot
spots_of_group g group = flat_map (spots_of_branch g) group.branches

-- the spots of all groups, which are numbered from g
abbrev pub spots_from : ℕ → List GroupBranches → List Spot
spots_from g [] = []
spots_from g (group ∷ groups) = spots_of_group g group ++ spots_from (suc g) groups
