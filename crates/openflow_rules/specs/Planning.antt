-- What a plan of rules is made for, and why there is none: the limits of tags, cells and entries.
use Rattle.std.specs.Prelude.{ℕ, ◌≡◌, ◌≤◌, ◌<◌, ◌+◌, ◌↔◌, ◌==◌, ◌&&◌, ⊤, List, [], ◌∷◌, Option, None, Some, length, map, filter_map, sum_by, count_by, is_some, slice_get, Contains}
use Rattle.std.specs.List.{AllByRecursion, AllZip, enumerate_from, flat_map}
use Rattle.merlin_model.specs.declared.policy.Ends.{Ends}
use Rattle.merlin_model.specs.declared.policy.Symbol.{Symbol}
use Rattle.merlin_model.specs.Networks.{Network, IsHost, Pairwise}
use Rattle.merlin_model.specs.Words.{at}
use Rattle.path_automaton.specs.Automata.{AutomatonTables}
use Rattle.topology.specs.Symbols.{network_symbols}
use Rattle.rules_model.specs.Products.{Vertex, loc_of, WrittenWalk, Group, IsVertex, IsBefore}
use Rattle.rules_model.specs.Tables.{TagKey, IsBelowKey, IsTagKey, all_hosts}
use Rattle.predicate_split.specs.declared.fault.TheConstants.{MAX_CELLS}
use Rattle.policy_check.specs.Checked.{CheckedPolicy}
use Rattle.configuration_model.specs.Groups.{AreGrouped, AreGroups}
use Rattle.configuration_model.specs.Pairs.{count_of_cells}
use Rattle.openflow_rules.specs.declared.fault.TheConstants.{MAX_TAGS, MAX_ENTRIES}
use Rattle.openflow_rules.specs.declared.fault.RuleFault.{RuleFault}
use Rattle.openflow_rules.specs.declared.fault.RuleFault.TheVariants.{TooManyTags, TooManyCells, TooManyEntries, OutOfMemory}

-- what a plan is made for
pub record Planned : Type 0 where
  pub net : Network
  pub checked : CheckedPolicy
  pub ends : List Ends

-- one automaton for each statement, the default's last
abbrev pub statement_automata : CheckedPolicy → List AutomatonTables
statement_automata checked = filter_map (slice_get checked.automata) checked.automaton_numbers

-- words that tell the ends of walks, and no more
abbrev pub bare_walks : List Ends → List (List Symbol)
bare_walks ends = map (λ e. at e.src ∷ at e.dst ∷ []) ends

-- the tags of some groups, in order
pub record AreTags (net : Network) (groups : List Group) (tags : List TagKey) : Type 0 where
  pub ascend : Pairwise IsBelowKey tags
  pub are : (key : TagKey) → Contains tags key ↔ IsTagKey net groups key

-- the vertices of the product of group g for destination d that are at no host, in order
pub record AreInnerVertices (net : Network) (groups : List Group) (g d : ℕ) (vertices : List Vertex) : Type 0 where
  pub ascend : Pairwise IsBefore vertices
  pub are : (v : Vertex) → Contains vertices v ↔ ((¬ IsHost net (loc_of v)) × IsVertex net groups g d v)

-- a vertex counts one, and one more for each vertex with a function at its location
abbrev pub vertex_entries : List Vertex → Vertex → ℕ
vertex_entries vertices v = 1 + count_by (λ u. (loc_of u == loc_of v) && is_some u.symbol.fun) vertices

abbrev pub entries_in : List Vertex → ℕ
entries_in vertices = sum_by (vertex_entries vertices) vertices

-- a guaranteed group has one product, that of its ends; every other one has those of all destinations
abbrev pub destinations_of : Network → Option WrittenWalk → List ℕ
destinations_of net None = all_hosts net
destinations_of net (Some w) = w.dest ∷ []

-- the products of some groups, each by its group and its destination
abbrev pub products_of : Network → List Group → List (ℕ × ℕ)
products_of net groups = flat_map (λ g. map (λ d. (g.0, d)) (destinations_of net g.1.written)) (enumerate_from 0 groups)

-- so many entries there are, over all products
pub record HaveEntries (net : Network) (groups : List Group) (count : ℕ) : Type 0 where
  pub vertices : List (List Vertex)
  pub are : AllZip (λ p vs. AreInnerVertices net groups p.0 p.1 vs) (products_of net groups) vertices
  pub count_is : count ≡ sum_by entries_in vertices

module _ (net : Network) (checked : CheckedPolicy) (ends : List Ends) where
  -- The groups of the policy, before walks are chosen: of a guaranteed one only the ends are known.
  pub record ArePlanned (groups : List Group) : Type 0 where
    pub leaders : List ℕ
    pub group_of : List ℕ
    pub grouped : AreGrouped checked.policy leaders group_of
    pub are : AreGroups checked.policy (network_symbols net) (statement_automata checked) ends (bare_walks ends) leaders groups

  -- the tags are no more than there may be
  pub record HasFewTags : Type 0 where
    pub groups : List Group
    pub planned : ArePlanned groups
    pub tags : List TagKey
    pub are : AreTags net groups tags
    pub few : length tags ≤ MAX_TAGS

  -- there are more tags than there may be: so many different ones
  pub record HasManyTags : Type 0 where
    pub groups : List Group
    pub planned : ArePlanned groups
    pub tags : List TagKey
    pub ascend : Pairwise IsBelowKey tags
    pub each : AllByRecursion (IsTagKey net groups) tags
    pub many : MAX_TAGS < length tags

  pub record HasEntries (count : ℕ) : Type 0 where
    pub groups : List Group
    pub planned : ArePlanned groups
    pub are : HaveEntries net groups count

  abbrev pub HasFewCells : Type 0
  HasFewCells = count_of_cells net checked.policy ≤ MAX_CELLS

  abbrev pub HasFewEntries : Type 0
  HasFewEntries = (n : ℕ) × HasEntries n × (n ≤ MAX_ENTRIES)

  -- tags, cells and entries are within their limits
  pub record IsWithinLimits : Type 0 where
    pub tags : HasFewTags
    pub cells : HasFewCells
    pub entries : HasFewEntries

  -- Why there is no plan: the first limit that is passed, tags before cells before entries, counted up to one past it. Want of memory has no cause.
  abbrev pub PassesLimit : RuleFault → Type 0
  PassesLimit (TooManyTags count) = HasManyTags × (count ≡ MAX_TAGS + 1)
  PassesLimit (TooManyCells count) = HasFewTags × (MAX_CELLS < count_of_cells net checked.policy) × (count ≡ MAX_CELLS + 1)
  PassesLimit (TooManyEntries count) = HasFewTags × HasFewCells × ((n : ℕ) × HasEntries n × (MAX_ENTRIES < n)) × (count ≡ MAX_ENTRIES + 1)
  PassesLimit OutOfMemory = ⊤
