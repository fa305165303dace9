use Rattle.std.specs.Option.{option_copied}
use Rattle.certificate.proofs.WeightTests.{AreSoFar}
use Rattle.certificate.proofs.leaf.are_weights.Given as goal

abbrev pub invariant-loop-w : goal.invariant-loop-w
invariant-loop-w g l = AreSoFar (g.P.Program.instance l.program (option_copied l.cutoff)) l.weights l.w-index l.next
