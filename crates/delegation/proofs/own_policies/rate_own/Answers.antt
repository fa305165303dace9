use Rattle.std.proofs.Common.{rules, refl}
use Rattle.delegation.proofs.Own.{own-rates}
use Rattle.delegation.proofs.own_policies.rate_own.Goals as goal

pub rated_as_checked-requires : goal.rated_as_checked-requires
rated_as_checked-requires c = own-rates c.args.net.now c.args.node.now.policy c.in-Ok.checked.policy _ c.in-Ok.ensures.ok.policy refl

pub returns-in-Err : goal.returns-in-Err
returns-in-Err c = record {
  ok = tt;
  kept = tt;
  err = λ nodes stands before. record { node = c.args.node.now; has = stands; is_not = (search rules, c.in-Err.ensures.err); before = before };
}
