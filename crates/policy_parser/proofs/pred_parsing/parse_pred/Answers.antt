use Rattle.policy_parser.proofs.PredicateOnce.{told, token_fault, both_sides, one_reading, formed}
use Rattle.policy_parser.proofs.pred_parsing.parse_pred.Goals as goal

pub returns-in-Ok-clause-ok : goal.returns-in-Ok-clause-ok
returns-in-Ok-clause-ok c = (both_sides _ _ (told _ _ _ c.in-Ok.ensures.tokens c.pred_of.ensures)).0

pub returns-in-Ok-clause-err : goal.returns-in-Ok-clause-err
returns-in-Ok-clause-err c = (both_sides _ _ (told _ _ _ c.in-Ok.ensures.tokens c.pred_of.ensures)).1

pub returns-in-Ok-clause-only : goal.returns-in-Ok-clause-only
returns-in-Ok-clause-only c = λ other reading. one_reading _ _ _ (told _ _ _ c.in-Ok.ensures.tokens c.pred_of.ensures) reading

pub returns-in-Err-clause-err : goal.returns-in-Err-clause-err
returns-in-Err-clause-err c = rw c.from.ensures (token_fault _ _ c.in-Err.ensures.fault)

pub returns-in-Err-clause-only : goal.returns-in-Err-clause-only
returns-in-Err-clause-only c = λ other reading. one_reading _ _ _ (rw c.from.ensures (token_fault _ _ c.in-Err.ensures.fault)) reading

pub returns-in-Ok-clause-formed : goal.returns-in-Ok-clause-formed
returns-in-Ok-clause-formed c = formed _ _ (told _ _ _ c.in-Ok.ensures.tokens c.pred_of.ensures)
