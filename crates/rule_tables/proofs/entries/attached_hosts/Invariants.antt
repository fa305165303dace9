use Rattle.std.proofs.Common.{◌≡◌, map}
use Rattle.std.specs.List.{range_with_len}
use Rattle.rules_model.specs.AttachedHosts.{attached_host_at}
use Rattle.rule_tables.proofs.entries.attached_hosts.Given as goal

abbrev pub invariant-loop-loc : goal.invariant-loop-loc
invariant-loop-loc l = l.hosts.items ≡ map (attached_host_at l.net) (range_with_len 0 l.loc)
