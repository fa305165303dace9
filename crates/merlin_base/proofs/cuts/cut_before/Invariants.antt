use Rattle.std.proofs.Common.{take}
use Rattle.merlin_base.specs.Lexemes.{Lacks}
use Rattle.merlin_base.proofs.cuts.cut_before.Given as goal

abbrev pub invariant-loop-place : goal.invariant-loop-place
invariant-loop-place l = Lacks l.byte (take l.place l.text)
