use Rattle.std.proofs.Common.{map, take}
use Rattle.std.specs.List.{enumerate_from}
use Rattle.policy_expansion.specs.WrittenOut.{for_pair}
use Rattle.policy_expansion.specs.Adding.{Adds}
use Rattle.policy_expansion.proofs.writing.Written.add_pairs.Given as goal

abbrev pub invariant-loop-place : goal.invariant-loop-place
invariant-loop-place l = Adds l.fn.self l.self (map (for_pair l.statement) (enumerate_from 1 (take l.place l.pairs)))
