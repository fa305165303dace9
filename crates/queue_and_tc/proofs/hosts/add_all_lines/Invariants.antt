use Rattle.std.proofs.Common.{◌≡◌, ◌++◌, take}
use Rattle.std.specs.List.{flat_map}
use Rattle.queue_and_tc.specs.HostTexts.{host_lines_at}
use Rattle.queue_and_tc.proofs.hosts.add_all_lines.Given as goal

abbrev pub invariant-loop-host : goal.invariant-loop-host
invariant-loop-host l = l.lines.items ≡ l.initial.lines.items ++ flat_map (host_lines_at l.net l.checked.policy l.sources l.hosts) (take l.host-index l.hosts)
