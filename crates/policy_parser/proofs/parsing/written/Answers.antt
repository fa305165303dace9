use Rattle.policy_parser.proofs.Told.{told, token_fault}
use Rattle.policy_parser.proofs.parsing.written.Goals as goal

pub returns-in-Ok-clause-ok : goal.returns-in-Ok-clause-ok
returns-in-Ok-clause-ok c = (told _ _ _ c.in-Ok.ensures.tokens c.read.ensures).0

pub returns-in-Ok-clause-err : goal.returns-in-Ok-clause-err
returns-in-Ok-clause-err c = (told _ _ _ c.in-Ok.ensures.tokens c.read.ensures).1

pub returns-in-Err-clause-err : goal.returns-in-Err-clause-err
returns-in-Err-clause-err c = rw c.from.ensures (token_fault _ _ c.in-Err.ensures.fault)
