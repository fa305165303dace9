-- What the products of groups come to: their tags, and how many more entries there may be.
use Rattle.std.specs.Prelude.{ℕ, ◌≡◌, ◌≢◌, ◌≤◌, ◌<◌, ◌+◌, ◌⊎◌, ◌↔◌, ◌==◌, ◌&&◌, ⊤, Bool, not, List, [], ◌∷◌, ◌++◌, length, map, sum_by, count_by, is_some, IsSome, Option, None, Some, Contains}
use Rattle.std.specs.List.{AllByRecursion, AllZip, slice_index_or}
use Rattle.merlin_model.specs.Networks.{Network, IsHost, Pairwise, kind_of}
use Rattle.rules_model.specs.Products.{SymbolAutomaton, Vertex, loc_of, Group, IsVertex, AllowsWalk, start_in}
use Rattle.rules_model.specs.Tables.{TagKey as ModelKey, tag_key_of, IsBelowKey, is_host_kind}
use Rattle.product_graph.specs.declared.span.Vertex.{Vertex as ListedVertex}
use Rattle.product_graph.specs.declared.span.Span2.{Span2}
use Rattle.product_graph.specs.declared.span.Span2.TheVariants.{Pair, All}
use Rattle.product_graph.specs.Products.{dest_of}
use Rattle.rule_tables.specs.declared.branches.Branch.{Branch}
use Rattle.rule_tables.specs.Branches.{vertex_in, IsBranch}
use Rattle.predicate_split.specs.declared.fault.TheConstants.{MAX_CELLS}
use Rattle.openflow_rules.specs.declared.fault.TheConstants.{MAX_TAGS, MAX_ENTRIES}
use Rattle.openflow_rules.specs.declared.fault.RuleFault.{RuleFault}
use Rattle.openflow_rules.specs.declared.fault.RuleFault.TheVariants.{TooManyTags, TooManyCells, TooManyEntries, OutOfMemory}
use Rattle.openflow_rules.specs.declared.spans.GroupSpan.{GroupSpan}
use Rattle.openflow_rules.specs.Planning.{AreInnerVertices, entries_in}
use Rattle.openflow_rules.specs.SinkBranches.{IsSinkBranch}
use Rattle.openflow_rules.specs.declared.gathering.Gathered.{Gathered}

-- the vertex is at no host
abbrev pub is_inner : Network → ListedVertex → Bool
is_inner net v = not (is_host_kind (kind_of net v.symbol.loc))

-- the vertices are at so many locations
abbrev pub AreVerticesWithin : ℕ → List ListedVertex → Type 0
AreVerticesWithin n vertices = AllByRecursion (λ v. v.symbol.loc < n) vertices

-- how many vertices with a function are at a location
abbrev pub functions_at : List ListedVertex → ℕ → ℕ
functions_at vertices loc = count_by (λ u. (u.symbol.loc == loc) && is_some u.symbol.fun) vertices

-- for each location how many vertices with a function are there
pub record CountsFunctions (vertices : List ListedVertex) (locations : ℕ) (counts : List ℕ) : Type 0 where
  pub size : length counts ≡ locations
  pub each : (loc : ℕ) → loc < locations → slice_index_or counts loc 0 ≡ functions_at vertices loc

-- What is left of the room for entries after so many more. None where there is no room for them.
abbrev pub IsRoomAfter : Option ℕ → ℕ → Option ℕ → Type 0
IsRoomAfter None n after = after ≡ None
IsRoomAfter (Some room) n None = room < n
IsRoomAfter (Some room) n (Some left) = left + n ≡ room

-- what is left of the room for all entries
abbrev pub IsRoomBeside : ℕ → Option ℕ → Type 0
IsRoomBeside total None = MAX_ENTRIES < total
IsRoomBeside total (Some left) = left + total ≡ MAX_ENTRIES

-- the key was put among the others
abbrev pub IsKeyPut : ModelKey → List ModelKey → List ModelKey → Type 0
IsKeyPut key old new = (k : ModelKey) → Contains new k ↔ (Contains old k ⊎ (k ≡ key))

-- the tag is that of one of the vertices
abbrev pub IsTagOfVertex : ℕ → List Vertex → ModelKey → Type 0
IsTagOfVertex group vertices key = (v : Vertex) × Contains vertices v × (key ≡ tag_key_of group v)

-- the tags of the vertices were put among the others
abbrev pub AreTagsPut : ℕ → List Vertex → List ModelKey → List ModelKey → Type 0
AreTagsPut group vertices old new = (k : ModelKey) → Contains new k ↔ (Contains old k ⊎ IsTagOfVertex group vertices k)

-- different keys of a kind, more than there may be of tags
pub record AreManyKeys (IsKey : ModelKey → Type 0) : Type 0 where
  pub keys : List ModelKey
  pub ascend : Pairwise IsBelowKey keys
  pub each : AllByRecursion IsKey keys
  pub many : MAX_TAGS < length keys

-- The fault of tags of a kind. Want of memory has no cause.
abbrev pub IsTagFault : (ModelKey → Type 0) → RuleFault → Type 0
IsTagFault IsKey (TooManyTags count) = AreManyKeys IsKey × (count ≡ MAX_TAGS + 1)
IsTagFault IsKey (TooManyCells count) = ⊥
IsTagFault IsKey (TooManyEntries count) = ⊥
IsTagFault IsKey OutOfMemory = ⊤

-- the branch is that of a product of best effort; of a guaranteed one nothing is said
abbrev pub IsBranchOfSpan : Network → SymbolAutomaton → Span2 → Branch → Type 0
IsBranchOfSpan net a (All d) branch = IsSinkBranch net a d branch
IsBranchOfSpan net a (Pair s d) branch = ⊤

-- the branch was kept where there is room
abbrev pub IsBranchKept : Option ℕ → Branch → List Branch → List Branch → Type 0
IsBranchKept None branch old new = new ≡ old
IsBranchKept (Some room) branch old new = new ≡ old ++ branch ∷ []

module _ (net : Network) (groups : List Group) where
  -- the branch of group g for host d, with each vertex that an allowed walk starts from
  pub record IsBranchTo (g d : ℕ) (branch : Branch) : Type 0 where
    pub dest : branch.dest ≡ d
    pub is : IsBranch net groups g branch
    pub starts : (s : ℕ) → IsHost net s → s ≢ d → AllowsWalk net groups g s d →
        Contains (map vertex_in branch.steps) (start_in groups g s)

  -- the branch is that of group g for the span, if it is of best effort
  abbrev pub IsBranchBy : ℕ → Span2 → Branch → Type 0
  IsBranchBy g (All d) branch = IsBranchTo g d branch
  IsBranchBy g (Pair s d) branch = ⊤

  abbrev pub IsBranchFor : GroupSpan → Branch → Type 0
  IsBranchFor s branch = IsBranchBy s.group s.span branch

  -- the vertices at no host of a product
  abbrev pub AreInnerOf : GroupSpan → List Vertex → Type 0
  AreInnerOf s vertices = AreInnerVertices net groups s.group (dest_of s.span) vertices

  -- the tag is that of a vertex at no host, in one of these products
  pub record IsTagIn (spans : List GroupSpan) (key : ModelKey) : Type 0 where
    pub span : GroupSpan
    pub among : Contains spans span
    pub vertex : Vertex
    pub outside : ¬ IsHost net (loc_of vertex)
    pub stands : IsVertex net groups span.group (dest_of span.span) vertex
    pub is : key ≡ tag_key_of span.group vertex

  -- what a product comes to was added
  pub record IsAddition (s : GroupSpan) (old new : Gathered) : Type 0 where
    pub vertices : List Vertex
    pub are : AreInnerOf s vertices
    pub tags : AreTagsPut s.group vertices old.tags new.tags
    pub few : length new.tags ≤ MAX_TAGS
    pub room : IsRoomAfter old.room (entries_in vertices) new.room
    pub branch : Branch
    pub branch_is : IsBranchFor s branch
    pub kept : IsBranchKept new.room branch old.branches new.branches

  -- what these products come to
  pub record IsGathered (spans : List GroupSpan) (g : Gathered) : Type 0 where
    pub tags : (k : ModelKey) → Contains g.tags k ↔ IsTagIn spans k
    pub few : length g.tags ≤ MAX_TAGS
    pub vertices : List (List Vertex)
    pub are : AllZip AreInnerOf spans vertices
    pub room : IsRoomBeside (sum_by entries_in vertices) g.room
    pub branches : IsSome g.room → AllZip IsBranchFor spans g.branches

abbrev pub AreAllBelow : ℕ → List ℕ → Type 0
AreAllBelow n ks = AllByRecursion (λ k. k < n) ks

-- The fault of so many cells where there is room for fewer. Want of memory has no cause.
abbrev pub IsCellFault : ℕ → ℕ → RuleFault → Type 0
IsCellFault cells room (TooManyTags count) = ⊥
IsCellFault cells room (TooManyCells count) = (room < cells) × (count ≡ MAX_CELLS + 1)
IsCellFault cells room (TooManyEntries count) = ⊥
IsCellFault cells room OutOfMemory = ⊤
