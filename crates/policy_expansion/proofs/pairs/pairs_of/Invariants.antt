use Rattle.std.proofs.Common.{◌≡◌, ◌++◌, drop}
use Rattle.policy_expansion.specs.WrittenOut.{pairs}
use Rattle.policy_expansion.proofs.pairs.pairs_of.Given as goal

abbrev pub invariant-loop-a : goal.invariant-loop-a
invariant-loop-a l = l.found.items ++ pairs (drop l.a-index l.outer) l.inner ≡ pairs l.outer l.inner
