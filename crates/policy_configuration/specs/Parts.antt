-- The lines of a configuration, part by part.
use Rattle.std.specs.Prelude.{ℕ, ◌≡◌, List}
use Rattle.merlin_model.specs.declared.config.Config.{Config}
use Rattle.merlin_model.specs.declared.config.HostLine.{HostLine}
use Rattle.merlin_model.specs.declared.policy.Ends.{Ends}
use Rattle.merlin_model.specs.declared.policy.Symbol.{Symbol}
use Rattle.merlin_model.specs.Networks.{Network}
use Rattle.merlin_model.specs.Policies.{Policy}
use Rattle.path_automaton.specs.Automata.{AutomatonTables}
use Rattle.topology.specs.Symbols.{network_symbols}
use Rattle.configuration_model.specs.Hosts.{host_lines}
use Rattle.configuration_model.specs.Pairs.{pair_cells}
use Rattle.configuration_model.specs.Queues.{reserved_queues}
use Rattle.configuration_model.specs.Tables.{AreSources, AreTables}

-- the lines are those of the live sources of each statement
pub record AreHostLines (net : Network) (policy : Policy) (lines : List HostLine) : Type 0 where
  pub sources : List (List ℕ)
  pub sources_are : AreSources net policy sources
  pub is : lines ≡ host_lines net policy sources (pair_cells net policy)

-- The configuration has exactly the lines of a policy, whose statements have these automata, with these walks: the tables of its groups over the cells
-- of each pair of hosts, the queues of the walks, and what hosts do with what they send.
pub record HasLinesFor (net : Network) (policy : Policy) (automata : List AutomatonTables) (ends : List Ends) (walks : List (List Symbol)) (config : Config) : Type 0 where
  pub tables : AreTables net policy (network_symbols net) automata ends walks (pair_cells net policy) config.rules config.processes
  pub queues : config.queues ≡ reserved_queues net policy ends walks
  pub hosts : AreHostLines net policy config.hosts
