-- What the parts of a configuration come to.
use Rattle.std.proofs.Common.{List}
use Rattle.merlin_model.specs.declared.config.Config.{Config}
use Rattle.merlin_model.specs.declared.policy.Ends.{Ends}
use Rattle.merlin_model.specs.declared.policy.Symbol.{Symbol}
use Rattle.merlin_model.specs.Networks.{Network, IsNetwork}
use Rattle.merlin_model.specs.Policies.{Policy}
use Rattle.merlin_model.specs.Assignments.{AreAllEnds, IsAssignment}
use Rattle.path_automaton.specs.Automata.{AutomatonTables}
use Rattle.topology.specs.Symbols.{network_symbols}
use Rattle.configuration_model.specs.Checked.{IsChecked, preds_of}
use Rattle.configuration_model.specs.Cells.{AreAllCells}
use Rattle.configuration_model.specs.Groups.{HaveDifferentVertices}
use Rattle.configuration_model.specs.Pairs.{pair_cells}
use Rattle.configuration_model.specs.Compiled.{IsMade}
use Rattle.policy_configuration.specs.Parts.{HasLinesFor}

abbrev pub made : (net : Network) (policy : Policy) (automata : List AutomatonTables) (ends : List Ends) (walks : List (List Symbol)) (config : Config) →
    IsNetwork net → IsChecked net policy (network_symbols net) automata → AreAllEnds net policy ends → AreAllCells net (preds_of policy) (pair_cells net policy) →
    IsAssignment net policy ends walks → HaveDifferentVertices policy (network_symbols net) automata ends walks →
    HasLinesFor net policy automata ends walks config → IsMade net policy ends walks config
made net policy automata ends walks config network is ends_are cells assigned simple lines = record {
  network = network;
  symbols = network_symbols net;
  automata = automata;
  checked = is;
  ends_are = ends_are;
  cells = pair_cells net policy;
  cells_are = cells;
  assigned = assigned;
  simple = simple;
  sources = lines.hosts.sources;
  sources_are = lines.hosts.sources_are;
  tables = lines.tables;
  hosts = lines.hosts.is;
  queues = lines.queues;
}
