-- What each network that is read keeps, for whoever computes with it.
use Rattle.std.specs.Prelude.{◌≤◌, length}
use Rattle.merlin_model.specs.Networks.{Network, IsNetwork}
use Rattle.topology_shape.specs.Forms.{AreWellFormed}
use Rattle.topology_rules.specs.declared.limits.TheConstants.{MAX_LOCATIONS, MAX_HOSTS, MAX_LINKS, MAX_FUNCTIONS, MAX_PLACEMENTS}
use Rattle.topology_rules.specs.Counts.{host_addresses, placements}

pub record IsWithinLimits (net : Network) : Type 0 where
  pub locations : length net.locations ≤ MAX_LOCATIONS
  pub hosts : length (host_addresses net.locations) ≤ MAX_HOSTS
  pub links : length net.links ≤ MAX_LINKS
  pub functions : length net.functions ≤ MAX_FUNCTIONS
  pub placements : placements net.functions ≤ MAX_PLACEMENTS

-- The network keeps the laws of networks and the limits on counts, and each part is within its own.
pub record IsTopologyNetwork (net : Network) : Type 0 where
  pub lawful : IsNetwork net
  pub forms : AreWellFormed net
  pub limits : IsWithinLimits net
