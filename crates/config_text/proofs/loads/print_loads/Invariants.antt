use Rattle.std.proofs.Common.{◌≡◌, take}
use Rattle.config_text.specs.Loads.{load_lines}
use Rattle.config_text.proofs.loads.print_loads.Given as goal

abbrev pub invariant-loop-load : goal.invariant-loop-load
invariant-loop-load l = l.lines.items ≡ load_lines l.net (take l.load-index l.loads)
