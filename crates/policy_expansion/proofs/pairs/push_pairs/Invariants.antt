use Rattle.std.proofs.Common.{◌≡◌, ◌++◌, drop}
use Rattle.policy_expansion.specs.WrittenOut.{pairs_from}
use Rattle.policy_expansion.proofs.pairs.push_pairs.Given as goal

abbrev pub invariant-loop-b : goal.invariant-loop-b
invariant-loop-b l = l.found.items ++ pairs_from (drop l.b-index l.inner) l.a ≡ l.fn.found.items ++ pairs_from l.inner l.a
