use Rattle.std.proofs.Common.{◌≤◌}
use Rattle.merlin.proofs.BodyLines.{AreHanded}
use Rattle.merlin.proofs.handing.write_messages.Given as goal

abbrev pub invariant-loop-rule : goal.invariant-loop-rule
invariant-loop-rule g l =
    AreHanded (g.K.Sink.taken l.fn.out) (g.K.Sink.taken l.out) l.switch l.rules l.rule-index l.number × (l.number ≤ l.rule-index) × (g.K.Sink.faults l.fn.out ≤ g.K.Sink.faults l.out)
