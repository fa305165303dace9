use Rattle.std.proofs.Common.{length}
use Rattle.merlin_base.proofs.Skipping.{ArePassed}
use Rattle.merlin_base.proofs.pairs.are_pairs.Given as goal

abbrev pub invariant-loop-rest : goal.invariant-loop-rest
invariant-loop-rest l = ArePassed l.bound l.limit l.text l.rest l.next

abbrev pub decreases-loop-rest : goal.decreases-loop-rest
decreases-loop-rest l = length l.rest
