use Rattle.std.proofs.Common.{length}
use Rattle.config_lines.specs.Lines.{load_line, IsLoadLine}
use Rattle.config_read.proofs.Taking.{TakesSome}
use Rattle.config_read.proofs.sections.read_loads.Given as goal

abbrev pub invariant-loads : goal.invariant-loads
invariant-loads l = TakesSome (load_line l.net) (IsLoadLine l.net) l.fn.text l.loads l.rest

abbrev pub decreases-loads : goal.decreases-loads
decreases-loads l = length l.rest
