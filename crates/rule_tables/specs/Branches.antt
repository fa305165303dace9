-- What tables are made from, and what they are.
use Rattle.std.specs.Prelude.{ℕ, suc, ◌≡◌, ◌≢◌, ◌<◌, ◌↔◌, List, [], ◌∷◌, length, map, Option, None, Some, option_map, slice_get, Contains}
use Rattle.merlin_model.specs.declared.config.Rule.{Rule}
use Rattle.merlin_model.specs.declared.config.Process.{Process}
use Rattle.merlin_model.specs.Networks.{Network, IsHost, Pairwise}
use Rattle.rules_model.specs.Products.{Vertex, Group, Follows, AllowsWalk, start_in, queue_in}
use Rattle.rules_model.specs.Tables.{TagKey, Cell, IsBelowKey, IsTagKey, Owned, all_owned, Plan, IsPlan, IsInOrder, table_rules, table_processes}
use Rattle.product_graph.specs.Products.{vertex_of}
use Rattle.configuration_model.specs.Cells.{table_cell}
use Rattle.rule_tables.specs.declared.branches.TagKey.{TagKey as ListedKey}
use Rattle.rule_tables.specs.declared.branches.Step.{Step}
use Rattle.rule_tables.specs.declared.branches.Branch.{Branch}
use Rattle.rule_tables.specs.declared.branches.GroupBranches.{GroupBranches}
use Rattle.rule_tables.specs.declared.branches.OwnedCell.{OwnedCell}

-- a key as it is listed, and a cell
abbrev pub key_of : ListedKey → TagKey
key_of k = record { group = k.group; state = k.state; fun = k.fun }

abbrev pub owned_of : OwnedCell → Owned
owned_of c = record { source = c.source; dest = c.dest; cell = table_cell c.cell; group = c.group }

abbrev pub vertex_in : Step → Vertex
vertex_in step = vertex_of step.vertex

-- a key has this number, counted from 1
abbrev pub IsTagNumber : List TagKey → TagKey → ℕ → Type 0
IsTagNumber tags key n = (k : ℕ) × (slice_get tags k ≡ Some key) × (n ≡ suc k)

-- the vertex at a place
abbrev pub vertex_at : List Step → ℕ → Option Vertex
vertex_at steps k = option_map vertex_in (slice_get steps k)

-- the place of what follows the vertex at a place: none of itself is the end
abbrev pub next_step_at : List Step → ℕ → Option (Option ℕ)
next_step_at steps k = option_map (λ step. step.next) (slice_get steps k)

-- from place k these vertices follow, up to the end
abbrev pub LeadsOn : List Step → ℕ → List Vertex → Type 0
LeadsOn steps k [] = next_step_at steps k ≡ Some None
LeadsOn steps k (u ∷ us) =
    (j : ℕ) × (next_step_at steps k ≡ Some (Some j)) × (vertex_at steps j ≡ Some u) × LeadsOn steps j us

-- The vertices of the product of group g for a destination, all of them once, each with what follows
-- it.
pub record IsBranch (net : Network) (groups : List Group) (g : ℕ) (branch : Branch) : Type 0 where
  pub follow : (k : ℕ) (v : Vertex) → vertex_at branch.steps k ≡ Some v →
      (us : List Vertex) × LeadsOn branch.steps k us × Follows net groups g branch.dest v us
  pub all : (v : Vertex) (us : List Vertex) → Follows net groups g branch.dest v us →
      Contains (map vertex_in branch.steps) v
  pub differ : Pairwise (λ u v. u ≢ v) (map vertex_in branch.steps)

-- the branches of group g, one for each destination that something leads to
pub record AreGroupBranches (net : Network) (groups : List Group) (g : ℕ) (group : GroupBranches) : Type 0 where
  pub queue : group.queue ≡ queue_in groups g
  pub queue_above : group.queue ≢ Some 0
  pub ascend : Pairwise (λ a b. a.dest < b.dest) group.branches
  pub each : (branch : Branch) → Contains group.branches branch → IsBranch net groups g branch
  pub all : (d : ℕ) (v : Vertex) (us : List Vertex) → Follows net groups g d v us →
      (branch : Branch) × Contains group.branches branch × (branch.dest ≡ d)

-- the branches of all groups; where a walk is allowed between two hosts, its start is followed
pub record AreBranches (net : Network) (groups : List Group) (branches : List GroupBranches) : Type 0 where
  pub size : length branches ≡ length groups
  pub each : (g : ℕ) (group : GroupBranches) → slice_get branches g ≡ Some group → AreGroupBranches net groups g group
  pub starts : (g s d : ℕ) → IsHost net s → IsHost net d → s ≢ d → AllowsWalk net groups g s d →
      (us : List Vertex) × Follows net groups g d (start_in groups g s) us

-- all that tables are made from: the tags in order, the branches, and the cells in order
pub record IsPrepared (net : Network) (groups : List Group) (cells : ℕ → ℕ → List (Cell × ℕ)) (tags : List ListedKey) (branches : List GroupBranches) (owned : List OwnedCell) : Type 0 where
  pub tags_ascend : Pairwise IsBelowKey (map key_of tags)
  pub tags_are : (key : TagKey) → Contains (map key_of tags) key ↔ IsTagKey net groups key
  pub branches_are : AreBranches net groups branches
  pub owned_are : map owned_of owned ≡ all_owned net cells

-- the rules and `process` lines of a plan in order
pub record AreTablesOf (net : Network) (groups : List Group) (cells : ℕ → ℕ → List (Cell × ℕ)) (rules : List Rule) (processes : List Process) : Type 0 where
  pub plan : Plan
  pub plan_is : IsPlan net groups plan
  pub in_order : IsInOrder net groups cells plan
  pub rules_are : rules ≡ table_rules net plan
  pub processes_are : processes ≡ table_processes net plan
