use Rattle.std.proofs.Common.{◌≡◌, ◌≤◌, length, take}
use Rattle.topology_rules.specs.Counts.{host_addresses}
use Rattle.topology_rules.proofs.counts.host_count.Given as goal

abbrev pub invariant-loop-location : goal.invariant-loop-location
invariant-loop-location l = (l.count ≡ length (host_addresses (take l.location-index l.locations))) × (l.count ≤ l.location-index)
