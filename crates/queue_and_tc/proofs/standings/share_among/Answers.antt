use Rattle.std.proofs.Common.{rules}
use Rattle.queue_and_tc.proofs.standings.share_among.Goals as goal

pub returns : goal.returns
returns c = search rules
