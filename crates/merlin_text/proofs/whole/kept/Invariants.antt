use Rattle.std.proofs.Common.{◌≡◌, ◌++◌, length}
use Rattle.merlin_text.proofs.whole.kept.Given as goal

abbrev pub invariant-rest : goal.invariant-rest
invariant-rest l = l.fn.tokens ≡ l.kept.items ++ l.rest

abbrev pub decreases-rest : goal.decreases-rest
decreases-rest l = length l.rest
