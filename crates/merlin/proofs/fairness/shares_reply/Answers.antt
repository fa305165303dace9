use Rattle.std.proofs.Common.{length, ◌∙◌, ap}
use Rattle.merlin.proofs.Divisions.{AllZip-length}
use Rattle.merlin.proofs.fairness.shares_reply.Goals as goal

pub verdict_on-requires : goal.verdict_on-requires
verdict_on-requires c = ap length c.deref.ensures.value ∙ AllZip-length _ _ _ c.in-Ok.ensures.ok.are_shares

pub returns-in-Ok : goal.returns-in-Ok
returns-in-Ok c = λ text is. c.verdict_on.ensures text c.args.shares.now (record { is_demands = is; is_shares = rw c.deref.ensures.value c.in-Ok.ensures.ok })
