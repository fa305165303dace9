use Rattle.std.specs.Option.{option_copied}
use Rattle.certificate.proofs.RowSteps.{IsRowSum}
use Rattle.certificate.proofs.sums.add_row.Given as goal

abbrev pub invariant-loop-variable : goal.invariant-loop-variable
invariant-loop-variable g l = IsRowSum (g.P.Program.instance l.program (option_copied l.cutoff)) l.fixed l.variable-items l.fn.weight l.fn.sums l.variable-index l.sums
