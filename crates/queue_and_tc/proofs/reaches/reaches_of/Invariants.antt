use Rattle.std.proofs.Common.{◌≡◌, take}
use Rattle.queue_and_tc.specs.HostTexts.{reaches_between}
use Rattle.queue_and_tc.proofs.reaches.reaches_of.Given as goal

abbrev pub invariant-loop-other : goal.invariant-loop-other
invariant-loop-other l = l.reaches.items ≡ reaches_between l.preds l.host (take l.other-index l.hosts)
