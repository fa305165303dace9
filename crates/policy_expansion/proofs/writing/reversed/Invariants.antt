use Rattle.std.proofs.Common.{◌≡◌, ◌++◌, length, reverse}
use Rattle.policy_expansion.proofs.writing.reversed.Given as goal

abbrev pub invariant-items : goal.invariant-items
invariant-items l = l.back ++ reverse l.left ≡ reverse l.fn.items

abbrev pub decreases-items : goal.decreases-items
decreases-items l = length l.left
