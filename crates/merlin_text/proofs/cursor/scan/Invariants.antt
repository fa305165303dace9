use Rattle.std.proofs.Common.{◌-◌, length}
use Rattle.merlin_text.proofs.Rest.{Scanned}
use Rattle.merlin_text.proofs.cursor.scan.Given as goal

abbrev pub invariant-loop-at : goal.invariant-loop-at
invariant-loop-at l = Scanned l.text l.at l.left

abbrev pub decreases-loop-at : goal.decreases-loop-at
decreases-loop-at l = length l.text - l.at
