use Rattle.std.proofs.Common.{◌≡◌, length}
use Rattle.fair_share.proofs.guess.ones_of.Given as goal

abbrev pub invariant-loop-index : goal.invariant-loop-index
invariant-loop-index l = length l.ones.items ≡ l.index
