use Rattle.std.proofs.Common.{length}
use Rattle.config_lines.specs.Lines.{host_line, IsHostLine}
use Rattle.config_read.proofs.Taking.{TakesSome}
use Rattle.config_read.proofs.sections.read_hosts.Given as goal

abbrev pub invariant-hosts : goal.invariant-hosts
invariant-hosts l = TakesSome (host_line l.net) (IsHostLine l.net) l.fn.text l.hosts l.rest

abbrev pub decreases-hosts : goal.decreases-hosts
decreases-hosts l = length l.rest
