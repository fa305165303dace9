use Rattle.std.proofs.Common.{rules}
use Rattle.path_regex.proofs.order.rank.Goals as goal

pub returns-in-Star : goal.returns-in-Star
returns-in-Star c = search rules
