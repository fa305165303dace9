-- What several commands read: a topology, and a result over it.
use Rattle.std.specs.Prelude.{◌≡◌, ◌≢◌, ◌++◌, ℕ, List, [], ◌∷◌, codes, Some}
use Rattle.std.specs.Fmt.{decimal}
use Rattle.merlin_model.specs.Networks.{Network}
use Rattle.config_text.specs.Words.{line}
use Rattle.config_read.specs.declared.fault.ConfigFault.TheVariants.{BadConfig}
use Rattle.config_read.specs.declared.result.ResultText.{ResultText}
use Rattle.config_read.specs.Answers.{IsTextOfResult, IsConfigFault}
use Rattle.topology.specs.Look.{name_of}
use Rattle.topology_rules.specs.declared.fault.NetFault.{NetFault}
use Rattle.topology_rules.specs.declared.fault.NetFault.TheVariants.{OutOfMemory}
use Rattle.topology_rules.specs.Faults.{IsTopology, Refuses as IsRefusedTopology}
use Rattle.refusal_text.specs.Refusals.{net_fault_text}

-- why a topology is refused: want of memory is no refusal
abbrev pub IsWrongTopology : List ℕ → NetFault → Type 0
IsWrongTopology topology fault = (fault ≢ OutOfMemory) × IsRefusedTopology fault topology

-- The topology is read, and this is the first wrong line of the result.
pub record HasWrongResult (topology result : List ℕ) (at : ℕ) : Type 0 where
  pub net : Network
  pub is_network : IsTopology topology net
  pub wrong : IsConfigFault net result (BadConfig at)

-- the texts stand for this network, and for this result over it
pub record AreNetworkAndResult (topology result : List ℕ) (net : Network) (read : ResultText)
    : Type 0 where
  pub is_network : IsTopology topology net
  pub is_result : IsTextOfResult net result read

-- What is printed of the two.

abbrev pub wrong_topology_lines : NetFault → List (List ℕ)
wrong_topology_lines fault = line (codes "refused: " ++ net_fault_text fault) ∷ []

abbrev pub wrong_result_lines : ℕ → List (List ℕ)
wrong_result_lines at = line (codes "refused: result at " ++ decimal at) ∷ []

-- the location bears the name
abbrev pub BearsName : Network → List ℕ → ℕ → Type 0
BearsName net name loc = name_of net loc ≡ Some name
