use Rattle.config_text.proofs.Separators.{ended}
use Rattle.config_text.proofs.lists.end_list.Goals as goal

-- src/lists.rt:18:1
pub returns-else-separator-eq-FIRST : goal.returns-else-separator-eq-FIRST
returns-else-separator-eq-FIRST c old texts w = (ended c.args.none.now old c.args.line.now texts c.args.separator w).1 c.if-separator-eq-FIRST.false
