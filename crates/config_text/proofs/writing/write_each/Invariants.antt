use Rattle.std.proofs.Common.{◌≤◌, map, take}
use Rattle.merlin_base.specs.Outside.{Grows}
use Rattle.merlin_base.specs.Texts.{joined}
use Rattle.config_text.proofs.writing.write_each.Given as goal

abbrev pub invariant-loop-entry : goal.invariant-loop-entry
invariant-loop-entry g l =
    Grows (g.K.Sink.taken l.fn.out) (g.K.Sink.taken l.out) (joined (map (g.E.Entry.line_of l.net) (take l.entry-index l.entries))) × (g.K.Sink.faults l.fn.out ≤ g.K.Sink.faults l.out)
