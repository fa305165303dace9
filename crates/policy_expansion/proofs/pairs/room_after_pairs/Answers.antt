use Rattle.std.proofs.Common.{ap, length, arith}
use Rattle.policy_expansion.proofs.Paired.{pairs_of_empty}
use Rattle.policy_expansion.proofs.pairs.room_after_pairs.Goals as goal

pub returns-then-is_empty-clause-some : goal.returns-then-is_empty-clause-some
returns-then-is_empty-clause-some c = omega (arith, ap length (pairs_of_empty c.args.outer.now c.args.inner.now c.if-is_empty.ensures))
