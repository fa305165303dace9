use Rattle.std.proofs.Common.{◌≡◌, ◌++◌, take}
use Rattle.std.specs.List.{flat_map}
use Rattle.queue_and_tc.specs.HostTexts.{reading_in}
use Rattle.queue_and_tc.proofs.host_texts.add_all_readings.Given as goal

abbrev pub invariant-loop-cell : goal.invariant-loop-cell
invariant-loop-cell l = l.lines.items ≡ l.initial.lines.items ++ flat_map (reading_in l.host l.standings l.default l.reach) (take l.cell-index l.cell-items)
