use Rattle.std.proofs.Common.{length}
use Rattle.policy_expansion.specs.Tables.{under}
use Rattle.policy_expansion.proofs.Consuming.{Written-out}
use Rattle.policy_expansion.proofs.writing.write_out.Given as goal

abbrev pub invariant-items : goal.invariant-items
invariant-items l = Written-out (under l.sets) l.fn.items l.left l.written

abbrev pub decreases-items : goal.decreases-items
decreases-items l = length l.left
