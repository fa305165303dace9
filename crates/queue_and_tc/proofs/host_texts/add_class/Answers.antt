use Rattle.std.proofs.Common.{rules}
use Rattle.queue_and_tc.proofs.host_texts.add_class.Goals as goal

pub returns-in_ok-push : goal.returns-in_ok-push
returns-in_ok-push c = search rules
