use Rattle.std.proofs.Common.{◌≡◌, length}
use Rattle.openflow_rules.proofs.sources.no_hosts.Given as goal

abbrev pub invariant-loop : goal.invariant-loop
invariant-loop l = length l.lists.items ≡ l.counter
