-- The limits on counts, out of the list of counts.
use Rattle.merlin_model.specs.Networks.{Network, IsNetwork}
use Rattle.topology_shape.specs.Forms.{AreWellFormed}
use Rattle.topology_rules.specs.Rules.{IsSmall, KeepsRules}
use Rattle.topology.specs.Lawful.{IsWithinLimits, IsTopologyNetwork}

within_limits : (net : Network) → IsSmall net → IsWithinLimits net
within_limits net small = record {
  locations = small.0;
  hosts = small.1.0;
  links = small.1.1.0;
  functions = small.1.1.1.0;
  placements = small.1.1.1.1.0;
}

pub is_topology_network : (net : Network) → KeepsRules net → IsNetwork net → AreWellFormed net → IsTopologyNetwork net
is_topology_network net keeps lawful forms = record {
  lawful = lawful;
  forms = forms;
  limits = within_limits net keeps.earlier.earlier.earlier.earlier.earlier.small;
}
