use Rattle.std.proofs.Common.{rules}
use Rattle.rule_tables.proofs.lines.back_rule.Goals as goal

pub returns : goal.returns
returns c = search rules
