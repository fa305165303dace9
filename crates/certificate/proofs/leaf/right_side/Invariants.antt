use Rattle.std.specs.Option.{option_copied}
use Rattle.certificate.proofs.RightSides.{IsRight}
use Rattle.certificate.proofs.leaf.right_side.Given as goal

abbrev pub invariant-loop-w : goal.invariant-loop-w
invariant-loop-w g l = IsRight (g.P.Program.instance l.program (option_copied l.cutoff)) l.weights l.w-index l.right
