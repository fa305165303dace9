use Rattle.std.proofs.Common.{◌≡◌, ◌++◌, map, take}
use Rattle.config_text.proofs.config.add_lines.Given as goal

abbrev pub invariant-loop-entry : goal.invariant-loop-entry
invariant-loop-entry g l = l.lines.items ≡ l.initial.lines.items ++ map (g.E.Entry.line_of l.net) (take l.entry-index l.entries)
