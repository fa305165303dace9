use Rattle.std.proofs.Common.{◌≡◌, take}
use Rattle.queue_and_tc.specs.HostTexts.{class_lines_in}
use Rattle.queue_and_tc.proofs.host_texts.class_lines.Given as goal

abbrev pub invariant-loop-standing : goal.invariant-loop-standing
invariant-loop-standing l = l.lines.items ≡ class_lines_in l.host (take l.standing-index l.standings)
