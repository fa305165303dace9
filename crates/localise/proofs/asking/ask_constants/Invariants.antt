use Rattle.std.proofs.Common.{◌≡◌}
use Rattle.localise.proofs.Through.{large_from}
use Rattle.localise.proofs.asking.ask_constants.Given as goal

abbrev pub invariant-loop-place : goal.invariant-loop-place
invariant-loop-place l = large_from l.terms l.place ≡ large_from l.terms 0
