use Rattle.std.proofs.Common.{length}
use Rattle.queue_and_tc.proofs.links.+add_queues.Given as goal

abbrev pub decreases-add_queues : goal.decreases-add_queues
decreases-add_queues l = length l.ends.now
