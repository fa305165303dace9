use Rattle.std.proofs.lemmas.Result.{IfOk-weaker}
use Rattle.merlin.proofs.Refining.{fault-replied}
use Rattle.merlin.proofs.refine.verdict_on.Goals as goal

pub returns-in-Err : goal.returns-in-Err
returns-in-Err c = λ first second third is. IfOk-weaker c.fault_reply.result _ _ (λ reply told. fault-replied first second third _ _ _ is c.in-Err.fault reply c.in-Err.ensures.err told) c.fault_reply.ensures
