-- What is made ready for the tables of a checked policy.
use Rattle.std.specs.Prelude.{ℕ, ◌≡◌, ◌≤◌, ◌<◌, ◌+◌, ⊤, List, length, map, Option, None, IsSome}
use Rattle.std.specs.List.{AllZip}
use Rattle.merlin_model.specs.declared.policy.Ends.{Ends}
use Rattle.merlin_model.specs.Networks.{Network}
use Rattle.merlin_model.specs.Policies.{Policy}
use Rattle.merlin_model.specs.Assignments.{AreAllEnds}
use Rattle.topology.specs.Symbols.{network_symbols}
use Rattle.rules_model.specs.Products.{Group}
use Rattle.rules_model.specs.Tables.{all_hosts}
use Rattle.predicate_split.specs.declared.fault.TheConstants.{MAX_CELLS}
use Rattle.policy_check.specs.Checked.{CheckedPolicy, HasAutomata}
use Rattle.configuration_model.specs.Groups.{AreGrouped, AreGroups}
use Rattle.configuration_model.specs.Pairs.{count_of_cells}
use Rattle.openflow_rules.specs.declared.fault.TheConstants.{MAX_TAGS, MAX_ENTRIES}
use Rattle.openflow_rules.specs.declared.fault.RuleFault.{RuleFault}
use Rattle.openflow_rules.specs.declared.fault.RuleFault.TheVariants.{TooManyTags, TooManyCells, TooManyEntries, OutOfMemory}
use Rattle.openflow_rules.specs.declared.gathering.Gathered.{Gathered}
use Rattle.openflow_rules.specs.declared.preparing.PlanParts.{PlanParts}
use Rattle.openflow_rules.specs.Planning.{statement_automata, bare_walks, AreTags, HaveEntries}
use Rattle.rule_tables.specs.Branches.{key_of}
use Rattle.openflow_rules.specs.GroupSpans.{spans_over}
use Rattle.openflow_rules.specs.Gathered.{IsRoomBeside, IsBranchFor}

-- the groups of the statements that stand for them, before walks are chosen
abbrev pub AreBareGroups : Network → CheckedPolicy → List Ends → List ℕ → List Group → Type 0
AreBareGroups net checked ends leaders groups =
    AreGroups checked.policy (network_symbols net) (statement_automata checked) ends (bare_walks ends) leaders groups

-- what all products of the groups come to
pub record IsGatheredFor (net : Network) (checked : CheckedPolicy) (ends : List Ends) (leaders : List ℕ) (g : Gathered) : Type 0 where
  pub groups : List Group
  pub are : AreBareGroups net checked ends leaders groups
  pub tags : AreTags net groups g.tags
  pub few : length g.tags ≤ MAX_TAGS
  pub count : ℕ
  pub entries : HaveEntries net groups count
  pub room : IsRoomBeside count g.room
  pub branches : IsSome g.room → AllZip (IsBranchFor net groups) (spans_over (all_hosts net) ends leaders) g.branches

-- the groups with their tags, and the branches of their products
pub record ArePlanParts (net : Network) (checked : CheckedPolicy) (ends : List Ends) (p : PlanParts) : Type 0 where
  pub grouped : AreGrouped checked.policy p.groups.leaders p.groups.group_of
  pub groups : List Group
  pub are : AreBareGroups net checked ends p.groups.leaders groups
  pub tags : AreTags net groups (map key_of p.tags)
  pub few : length p.tags ≤ MAX_TAGS
  pub branches : AllZip (IsBranchFor net groups) (spans_over (all_hosts net) ends p.groups.leaders) p.branches

-- What a plan keeps: all statements have automata, the ends are those of the guaranteed ones, and the parts are theirs.
pub record IsRulePlan (net : Network) (checked : CheckedPolicy) (ends : List Ends) (p : PlanParts) : Type 0 where
  pub automata : HasAutomata (network_symbols net) checked
  pub ends_are : AreAllEnds net checked.policy ends
  pub parts : ArePlanParts net checked ends p

-- The fault where there is no room for entries.
abbrev pub IsEntryFault : Option ℕ → RuleFault → Type 0
IsEntryFault room (TooManyTags count) = ⊥
IsEntryFault room (TooManyCells count) = ⊥
IsEntryFault room (TooManyEntries count) = (room ≡ None) × (count ≡ MAX_ENTRIES + 1)
IsEntryFault room OutOfMemory = ⊤

-- the cells are within their limit, and there is room for entries
abbrev pub IsWithinRest : Network → Policy → Option ℕ → Type 0
IsWithinRest net policy room = (count_of_cells net policy ≤ MAX_CELLS) × IsSome room

-- the fault of cells, or else that of entries
abbrev pub IsRestFault : Network → Policy → Option ℕ → RuleFault → Type 0
IsRestFault net policy room (TooManyTags count) = ⊥
IsRestFault net policy room (TooManyCells count) = (MAX_CELLS < count_of_cells net policy) × (count ≡ MAX_CELLS + 1)
IsRestFault net policy room (TooManyEntries count) = (count_of_cells net policy ≤ MAX_CELLS) × (room ≡ None) × (count ≡ MAX_ENTRIES + 1)
IsRestFault net policy room OutOfMemory = ⊤
