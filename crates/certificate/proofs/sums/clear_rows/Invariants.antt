use Rattle.std.proofs.Common.{drop, None}
use Rattle.certificate.specs.Adding.{IsOnlyOf}
use Rattle.certificate.proofs.sums.clear_rows.Given as goal

abbrev pub invariant-loop-w : goal.invariant-loop-w
invariant-loop-w g l = IsOnlyOf (g.P.Program.instance l.program None) (drop l.w-index l.weights) l.sums
