use Rattle.std.proofs.Common.{rules}
use Rattle.language_check.proofs.ways.is_follower.Goals as goal

pub returns-then-may_follow : goal.returns-then-may_follow
returns-then-may_follow c = search rules
