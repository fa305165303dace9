use Rattle.std.proofs.Common.{length}
use Rattle.config_lines.specs.Lines.{rule_line, IsRuleLine}
use Rattle.config_read.proofs.Taking.{TakesSome}
use Rattle.config_read.proofs.sections.read_rules.Given as goal

abbrev pub invariant-rules : goal.invariant-rules
invariant-rules l = TakesSome (rule_line l.net) (IsRuleLine l.net) l.fn.text l.rules l.rest

abbrev pub decreases-rules : goal.decreases-rules
decreases-rules l = length l.rest
