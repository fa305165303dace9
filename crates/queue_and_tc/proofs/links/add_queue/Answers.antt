use Rattle.std.proofs.Common.{rules}
use Rattle.queue_and_tc.proofs.links.add_queue.Goals as goal

pub returns-in_ok-push : goal.returns-in_ok-push
returns-in_ok-push c = search rules
