use Rattle.std.proofs.Common.{◌≡◌, ◌+◌, length}
use Rattle.result_heads.specs.Queued.{queued_on}
use Rattle.result_heads.proofs.queued.queued_rate.Given as goal

abbrev pub invariant-queues : goal.invariant-queues
invariant-queues l = l.total + queued_on l.rest l.link ≡ queued_on l.queues l.link

abbrev pub decreases-queues : goal.decreases-queues
decreases-queues l = length l.rest
