use Rattle.std.proofs.Common.{◌-◌, length}
use Rattle.merlin_text.specs.Rest.{IsCutFrom}
use Rattle.merlin_text.proofs.cursor.Cursor.split_first.Given as goal

abbrev pub invariant-loop-at : goal.invariant-loop-at
invariant-loop-at l = ∥ IsCutFrom l.text l.at l.self-inside.rest.0 ∥₁

abbrev pub decreases-loop-at : goal.decreases-loop-at
decreases-loop-at l = length l.text - l.at
