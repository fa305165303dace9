use Rattle.std.proofs.Common.{refl, rules, arith}
use Rattle.predicate_split.proofs.Meeting.{starts, told}
use Rattle.predicate_split.proofs.between.holds_between.Goals as goal

pub least_from-requires-clause-rest : goal.least_from-requires-clause-rest
least_from-requires-clause-rest c = (4, omega arith, refl)

pub least_from-requires-clause-fresh : goal.least_from-requires-clause-fresh
least_from-requires-clause-fresh c = starts c.args.src c.args.dst c.args.pred.now c.in_ok-left.left c.in-Some.packet c.requires c.in_ok-left.ensures c.in-Some.ensures.some.0

pub returns : goal.returns
returns c =
    told c.args.src c.args.dst c.args.pred.now c.in_ok-left.left c.in-Some.packet c.in_ok-left.ensures c.in-Some.ensures.some.0 c.in_ok-found.found c.is_some.result c.is_some.ensures (search rules) c.in_ok-found.ensures.some c.in_ok-found.ensures.none
