use Rattle.std.proofs.Common.{arith, rules}
use Rattle.policy_check.proofs.Destinations.{none-to-more, none-at-all}
use Rattle.policy_check.proofs.pairs.next_destination.Goals as goal

pub loop-dst-preserved : goal.loop-dst-preserved
loop-dst-preserved c = none-to-more c.args.net.now c.args.pred.now c.args.src c.args.from c.loop-dst.dst c.in_ok-has_packet.field-0 c.loop-dst.invariant (search rules) c.in_ok-has_packet.ensures

pub returns-clause-none : goal.returns-clause-none
returns-clause-none c =
    let many = c.locations-dst-end.ensures.count in
    let stops = c.loop-dst-test.false in
    none-at-all c.args.net.now c.args.pred.now c.args.src c.args.from c.loop-dst.dst c.loop-dst.invariant (grind (arith, many, stops))
