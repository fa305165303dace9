-- What the crates together say of a configuration.
use Rattle.std.specs.Prelude.{ℕ, ◌≡◌, List}
use Rattle.merlin_model.specs.declared.policy.Symbol.{Symbol}
use Rattle.merlin_model.specs.declared.policy.Ends.{Ends}
use Rattle.merlin_model.specs.declared.config.Config.{Config}
use Rattle.merlin_model.specs.Networks.{Network, IsNetwork}
use Rattle.merlin_model.specs.Policies.{Policy}
use Rattle.merlin_model.specs.Assignments.{AreAllEnds, IsAssignment}
use Rattle.path_automaton.specs.Automata.{AutomatonTables}
use Rattle.configuration_model.specs.Checked.{IsChecked, preds_of}
use Rattle.predicate_split.specs.declared.pair_cells.Cell.{Cell as HostCell}
use Rattle.configuration_model.specs.Cells.{AreAllCells}
use Rattle.configuration_model.specs.Groups.{HaveDifferentVertices}
use Rattle.configuration_model.specs.Tables.{AreSources, AreTables}
use Rattle.configuration_model.specs.Hosts.{host_lines}
use Rattle.configuration_model.specs.Queues.{reserved_queues}

-- the contracts of the crates, each with the crate that owes it
pub record IsMade (net : Network) (policy : Policy) (ends : List Ends) (walks : List (List Symbol)) (config : Config) : Type 0 where
  -- topology
  pub network : IsNetwork net
  -- policy_check: check
  pub symbols : List Symbol
  pub automata : List AutomatonTables
  pub checked : IsChecked net policy symbols automata
  -- policy_check: ends
  pub ends_are : AreAllEnds net policy ends
  -- predicate_split: cells
  pub cells : ℕ → ℕ → List HostCell
  pub cells_are : AreAllCells net (preds_of policy) cells
  -- the search, or the reader of a result
  pub assigned : IsAssignment net policy ends walks
  pub simple : HaveDifferentVertices policy symbols automata ends walks
  -- openflow_rules: sources, tables
  pub sources : List (List ℕ)
  pub sources_are : AreSources net policy sources
  pub tables : AreTables net policy symbols automata ends walks cells config.rules config.processes
  -- queue_and_tc: host_lines, queues
  pub hosts : config.hosts ≡ host_lines net policy sources cells
  pub queues : config.queues ≡ reserved_queues net policy ends walks
