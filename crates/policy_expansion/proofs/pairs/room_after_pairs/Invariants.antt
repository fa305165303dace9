use Rattle.std.proofs.Common.{◌≡◌, ◌+◌, length, drop}
use Rattle.policy_expansion.specs.WrittenOut.{pairs}
use Rattle.policy_expansion.proofs.pairs.room_after_pairs.Given as goal

abbrev pub invariant-loop-a : goal.invariant-loop-a
invariant-loop-a l = l.left + length (pairs l.outer l.inner) ≡ l.fn.room + length (pairs (drop l.a-index l.outer) l.inner)
