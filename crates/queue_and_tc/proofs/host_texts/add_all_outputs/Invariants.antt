use Rattle.std.proofs.Common.{◌≡◌, ◌++◌, map, take}
use Rattle.queue_and_tc.specs.HostTexts.{output_in}
use Rattle.queue_and_tc.proofs.host_texts.add_all_outputs.Given as goal

abbrev pub invariant-loop-cell : goal.invariant-loop-cell
invariant-loop-cell l = l.lines.items ≡ l.initial.lines.items ++ map (output_in l.host l.standings l.default l.reach) (take l.cell-index l.cell-items)
