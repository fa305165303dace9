use Rattle.std.proofs.Common.{length}
use Rattle.config_lines.specs.Lines.{queue_line, IsQueueLine}
use Rattle.config_read.proofs.Taking.{TakesSome}
use Rattle.config_read.proofs.sections.read_queues.Given as goal

abbrev pub invariant-queues : goal.invariant-queues
invariant-queues l = TakesSome (queue_line l.net) (IsQueueLine l.net) l.fn.text l.queues l.rest

abbrev pub decreases-queues : goal.decreases-queues
decreases-queues l = length l.rest
