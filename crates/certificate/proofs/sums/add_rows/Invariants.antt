use Rattle.std.proofs.Common.{take}
use Rattle.std.specs.Option.{option_copied}
use Rattle.certificate.specs.Adding.{IsSum}
use Rattle.certificate.proofs.sums.add_rows.Given as goal

abbrev pub invariant-loop-w : goal.invariant-loop-w
invariant-loop-w g l = IsSum (g.P.Program.instance l.program (option_copied l.cutoff)) l.fixed (take l.w-index l.weights) l.w-index l.sums
