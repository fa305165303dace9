-- What is planned for a checked policy, and the tables for its walks.
use Rattle.std.specs.Prelude.{ℕ, ◌≡◌, List, length, map, slice_get, Some, unwrap_or}
use Rattle.merlin_model.specs.declared.policy.Symbol.{Symbol}
use Rattle.merlin_model.specs.declared.policy.Ends.{Ends}
use Rattle.merlin_model.specs.declared.config.Rule.{Rule}
use Rattle.merlin_model.specs.declared.config.Process.{Process}
use Rattle.merlin_model.specs.Networks.{Network}
use Rattle.merlin_model.specs.Policies.{Policy, paths_of, default_of}
use Rattle.merlin_model.specs.Rates.{AreLiveSources}
use Rattle.path_automaton.specs.Automata.{AutomatonTables}
use Rattle.rules_model.specs.Products.{Group}
use Rattle.rules_model.specs.Tables.{Cell, Plan, IsPlan, IsInOrder, table_rules, table_processes}
use Rattle.predicate_split.specs.declared.pair_cells.Cell.{Cell as HostCell}
use Rattle.configuration_model.specs.Cells.{table_cell, owner_of}
use Rattle.configuration_model.specs.Groups.{AreGrouped, AreGroups}

-- the live sources of each statement, the default's last
pub record AreSources (net : Network) (policy : Policy) (sources : List (List ℕ)) : Type 0 where
  pub size : length sources ≡ length (paths_of policy)
  pub each : (i : ℕ) (hosts : List ℕ) → slice_get sources i ≡ Some hosts → AreLiveSources net policy i hosts

-- the cells of a pair of hosts, each with the group of its owner
abbrev pub grouped_cells : Policy → List ℕ → (ℕ → ℕ → List HostCell) → ℕ → ℕ → List (Cell × ℕ)
grouped_cells policy group_of cells s d = map (λ c. (table_cell c, unwrap_or (slice_get group_of (owner_of (default_of policy) c)) 0)) (cells s d)

-- The rules and `process` lines are those of a plan in order, made for the groups of the policy with these walks.
pub record AreTables (net : Network) (policy : Policy) (symbols : List Symbol) (automata : List AutomatonTables) (ends : List Ends) (walks : List (List Symbol)) (cells : ℕ → ℕ → List HostCell)
    (rules : List Rule) (processes : List Process) : Type 0 where
  pub leaders : List ℕ
  pub group_of : List ℕ
  pub grouped : AreGrouped policy leaders group_of
  pub groups : List Group
  pub groups_are : AreGroups policy symbols automata ends walks leaders groups
  pub plan : Plan
  pub plan_is : IsPlan net groups plan
  pub in_order : IsInOrder net groups (grouped_cells policy group_of cells) plan
  pub rules_are : rules ≡ table_rules net plan
  pub processes_are : processes ≡ table_processes net plan
