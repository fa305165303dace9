use Rattle.std.proofs.Common.{take}
use Rattle.certificate.specs.Adding.{IsCleared}
use Rattle.certificate.proofs.sums.clear_row.Given as goal

abbrev pub invariant-loop-variable : goal.invariant-loop-variable
invariant-loop-variable g l = IsCleared (take l.variable-index l.variable-items) l.fn.sums l.sums
