use Rattle.std.proofs.Common.{length}
use Rattle.config_lines.specs.Lines.{process_line, IsProcessLine}
use Rattle.config_read.proofs.Taking.{TakesSome}
use Rattle.config_read.proofs.sections.read_processes.Given as goal

abbrev pub invariant-processes : goal.invariant-processes
invariant-processes l = TakesSome (process_line l.net) (IsProcessLine l.net) l.fn.text l.processes l.rest

abbrev pub decreases-processes : goal.decreases-processes
decreases-processes l = length l.rest
