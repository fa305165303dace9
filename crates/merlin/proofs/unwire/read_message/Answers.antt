use Rattle.merlin.proofs.Unwiring.{fault_before}
use Rattle.merlin.proofs.unwire.read_message.Goals as goal

pub returns-in-Err-clause-err : goal.returns-in-Err-clause-err
returns-in-Err-clause-err c = fault_before c.args.text.now c.in-Some.digits.now c.in-Some.rest.now c.in-Err.fault c.in-Some.ensures.some.0 c.in-Some.ensures.some.1 c.in-Err.ensures.err
