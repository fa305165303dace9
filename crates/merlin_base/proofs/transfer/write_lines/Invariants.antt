use Rattle.std.proofs.Common.{◌≤◌, take}
use Rattle.merlin_base.specs.Outside.{Grows}
use Rattle.merlin_base.specs.Texts.{joined}
use Rattle.merlin_base.proofs.transfer.write_lines.Given as goal

abbrev pub invariant-loop-line : goal.invariant-loop-line
invariant-loop-line g l =
    Grows (g.K.Sink.taken l.fn.out) (g.K.Sink.taken l.out) (joined (take l.line-index l.lines)) × (g.K.Sink.faults l.fn.out ≤ g.K.Sink.faults l.out)
