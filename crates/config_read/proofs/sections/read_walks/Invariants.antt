use Rattle.std.proofs.Common.{length}
use Rattle.config_lines.specs.Lines.{walk_line, IsWalkLine}
use Rattle.config_read.proofs.Taking.{TakesSome}
use Rattle.config_read.proofs.sections.read_walks.Given as goal

abbrev pub invariant-walks : goal.invariant-walks
invariant-walks l = TakesSome (walk_line l.net) (IsWalkLine l.net) l.fn.text l.walks l.rest

abbrev pub decreases-walks : goal.decreases-walks
decreases-walks l = length l.rest
