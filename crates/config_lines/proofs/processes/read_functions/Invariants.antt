use Rattle.std.proofs.Common.{length}
use Rattle.config_lines.proofs.FunctionTexts.{AreReadTo}
use Rattle.config_lines.proofs.processes.read_functions.Given as goal

abbrev pub invariant-names : goal.invariant-names
invariant-names l = AreReadTo l.net l.fn.word l.functions l.rest

abbrev pub decreases-names : goal.decreases-names
decreases-names l = length l.rest
