use Rattle.std.proofs.Common.{take}
use Rattle.std.specs.List.{All}
use Rattle.merlin_text.specs.Fronts.{IsByteOf}
use Rattle.merlin_text.proofs.pieces.run_length.Given as goal

abbrev pub invariant-loop-length : goal.invariant-loop-length
invariant-loop-length l = All (IsByteOf l.run) (take l.length l.text)
