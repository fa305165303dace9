use Rattle.std.proofs.Common.{take}
use Rattle.merlin_base.specs.Lexemes.{Lacks}
use Rattle.packet_model.proofs.reading.first_part.Given as goal

abbrev pub invariant-loop-place : goal.invariant-loop-place
invariant-loop-place l = Lacks 44 (take l.place l.text)
