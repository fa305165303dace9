-- The branches of groups once walks are chosen.
use Rattle.std.specs.Prelude.{ℕ, suc, ◌≡◌, List, [], ◌∷◌, length, Option, None, Some, slice_get}
use Rattle.std.specs.List.{AllZip}
use Rattle.merlin_model.specs.declared.policy.Ends.{Ends}
use Rattle.merlin_model.specs.declared.policy.Symbol.{Symbol}
use Rattle.merlin_model.specs.Networks.{Network}
use Rattle.path_automaton.specs.Automata.{AutomatonTables}
use Rattle.topology.specs.Symbols.{network_symbols}
use Rattle.rules_model.specs.Products.{SymbolAutomaton, Group}
use Rattle.rules_model.specs.Tables.{all_hosts}
use Rattle.product_graph.specs.Products.{automaton_of}
use Rattle.policy_check.specs.Checked.{CheckedPolicy, automaton_of_statement}
use Rattle.rule_tables.specs.declared.branches.Branch.{Branch}
use Rattle.rule_tables.specs.declared.branches.GroupBranches.{GroupBranches}
use Rattle.openflow_rules.specs.GroupSpans.{ends_for, spans_by}
use Rattle.openflow_rules.specs.Gathered.{IsBranchFor}
use Rattle.openflow_rules.specs.WalkBranches.{IsWalkBranch}

-- the branch of a walk alone, through a queue
pub record IsWalkGroup (a : SymbolAutomaton) (walk : List Symbol) (dest queue : ℕ) (group : GroupBranches) : Type 0 where
  pub branch : Branch
  pub is : IsWalkBranch a walk dest branch
  pub alone : group.branches ≡ branch ∷ []
  pub queue_is : group.queue ≡ Some queue

-- the place of a statement's ends, none where the statement has none
abbrev pub IsPlaceFor : List Ends → ℕ → Option ℕ → Type 0
IsPlaceFor ends j None = ends_for ends j ≡ None
IsPlaceFor ends j (Some k) = (e : Ends) × (slice_get ends k ≡ Some e) × (ends_for ends j ≡ Some e)

module _ (net : Network) (checked : CheckedPolicy) (ends : List Ends) (walks : List (List Symbol)) where
  -- the branch of the k-th walk, in the automaton of statement j, through the queue k + 1
  pub record IsWalkGroupAt (j k : ℕ) (group : GroupBranches) : Type 0 where
    pub pair : Ends
    pub pair_is : slice_get ends k ≡ Some pair
    pub walk : List Symbol
    pub walk_is : slice_get walks k ≡ Some walk
    pub table : AutomatonTables
    pub table_is : automaton_of_statement checked j ≡ Some table
    pub is : IsWalkGroup (automaton_of (network_symbols net) table) walk pair.dst (suc k) group

  -- the group of statement j, by the place of its ends: that of its walk, or these branches without a queue
  abbrev pub IsGroupWith : ℕ → List Branch → Option ℕ → GroupBranches → Type 0
  IsGroupWith j own None group = (group.queue ≡ None) × (group.branches ≡ own)
  IsGroupWith j own (Some k) group = IsWalkGroupAt j k group

  module _ (bare : List Group) where
    -- group g, for which statement j stands, has the branches of its products, or that of its walk
    pub record IsGroupFor (g j : ℕ) (group : GroupBranches) : Type 0 where
      pub place : Option ℕ
      pub place_is : IsPlaceFor ends j place
      pub own : List Branch
      pub own_are : AllZip (IsBranchFor net bare) (spans_by (all_hosts net) g j (ends_for ends j)) own
      pub is : IsGroupWith j own place group

    -- the same for all groups
    pub record AreGroupsFor (leaders : List ℕ) (made : List GroupBranches) : Type 0 where
      pub size : length made ≡ length leaders
      pub each : (g j : ℕ) (group : GroupBranches) → slice_get leaders g ≡ Some j → slice_get made g ≡ Some group → IsGroupFor g j group
