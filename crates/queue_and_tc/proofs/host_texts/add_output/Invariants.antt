use Rattle.std.proofs.Common.{◌≡◌, ◌++◌, take}
use Rattle.std.specs.List.{flat_map}
use Rattle.queue_and_tc.specs.HostTexts.{outputs_in}
use Rattle.queue_and_tc.proofs.host_texts.add_output.Given as goal

abbrev pub invariant-loop-reach : goal.invariant-loop-reach
invariant-loop-reach l = l.lines.items ≡ l.initial.lines.items ++ flat_map (outputs_in l.host l.standings l.default) (take l.reach-index l.reaches)
