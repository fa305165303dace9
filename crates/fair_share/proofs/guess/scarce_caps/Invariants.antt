use Rattle.std.proofs.Common.{◌≡◌, length}
use Rattle.fair_share.proofs.guess.scarce_caps.Given as goal

abbrev pub invariant-loop-index : goal.invariant-loop-index
invariant-loop-index l = length l.scarce.items ≡ l.index
