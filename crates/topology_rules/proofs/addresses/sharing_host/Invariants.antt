use Rattle.std.proofs.Common.{◌≡◌, map, take}
use Rattle.topology_rules.specs.Counts.{host_addresses}
use Rattle.topology_rules.specs.Clashes.{HasNoClash}
use Rattle.topology_rules.specs.Rules.{ShareAddress}
use Rattle.topology_rules.proofs.addresses.sharing_host.Given as goal

abbrev pub invariant-loop-loc : goal.invariant-loop-loc
invariant-loop-loc l = record {
  eths : l.eths.keys ≡ map (λ a. a.eth) (host_addresses (take l.loc l.locations));
  ips : l.ips.keys ≡ map (λ a. a.ip) (host_addresses (take l.loc l.locations));
  apart : HasNoClash ShareAddress (take l.loc l.locations);
}
