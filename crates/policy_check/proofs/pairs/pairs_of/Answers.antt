use Rattle.std.proofs.Common.{◌+◌, subst, arith, IfSome, IfNone}
use Rattle.policy_check.specs.Traffic.{IsNextPair, HasNoPairFrom}
use Rattle.policy_check.proofs.Destinations.{destination-within, no-pair, one-pair, more-pairs}
use Rattle.policy_check.proofs.pairs.pairs_of.Goals as goal

pub returns-in_default : goal.returns-in_default
returns-in_default c = no-pair c.args.net.now c.args.pred.now (subst (λ o. IfNone o (HasNoPairFrom c.args.net.now c.args.pred.now (0, 0))) c.in_default.is c.in_ok-first.ensures.none)

pub overflow_add-first : goal.overflow_add-first
overflow_add-first c =
    let first = subst (λ o. IfSome o (IsNextPair c.args.net.now c.args.pred.now (0, 0))) c.in-Some.is c.in_ok-first.ensures.some in
    let inside = destination-within c.args.net.now c.args.pred.now c.in-Some.first.0 c.in-Some.first.1 first.has in
    let many = c.locations.ensures.count in
    omega (arith, inside, many)

pub returns-in-None : goal.returns-in-None
returns-in-None c =
    one-pair c.args.net.now c.args.pred.now c.in-Some.first (subst (λ o. IfSome o (IsNextPair c.args.net.now c.args.pred.now (0, 0))) c.in-Some.is c.in_ok-first.ensures.some)
    (subst (λ o. IfNone o (HasNoPairFrom c.args.net.now c.args.pred.now (c.in-Some.first.0, c.in-Some.first.1 + 1))) c.in-None.is c.in_ok-next_pair.ensures.none)

pub returns-in-Some-2 : goal.returns-in-Some-2
returns-in-Some-2 c =
    more-pairs c.args.net.now c.args.pred.now c.in-Some.first c.in-Some-2.second (subst (λ o. IfSome o (IsNextPair c.args.net.now c.args.pred.now (0, 0))) c.in-Some.is c.in_ok-first.ensures.some)
    (subst (λ o. IfSome o (IsNextPair c.args.net.now c.args.pred.now (c.in-Some.first.0, c.in-Some.first.1 + 1))) c.in-Some-2.is c.in_ok-next_pair.ensures.some)
