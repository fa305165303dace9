use Rattle.config_read.proofs.PrintedLines.{tree_is, printed_text}
use Rattle.config_read.proofs.laws.printed_result_is_read.Goals as goal

pub returns-clause-nodes : goal.returns-clause-nodes
returns-clause-nodes c = tree_is

pub returns-clause-whole : goal.returns-clause-whole
returns-clause-whole c = printed_text
