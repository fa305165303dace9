use Rattle.std.proofs.Common.{◌<◌, inl, inr, subst, arith, IfSome, IfNone, ℕ}
use Rattle.policy_check.specs.Traffic.{IsNextDestination, HasPacket}
use Rattle.policy_check.proofs.Destinations.{least_of_source, none-pair-more, next-pair-found, no-pair-from}
use Rattle.policy_check.proofs.pairs.next_pair.Goals.{then-src-from, else-src-from}
use Rattle.policy_check.proofs.pairs.next_pair.Goals as goal

pub returns-in-Some-clause-some : goal.returns-in-Some-clause-some
returns-in-Some-clause-some c =
    let start : least_of_source c.args.net.now c.args.pred.now c.args.from c.loop-src.src c.if-src-from.least = elim c.if-src-from.branch [
      | then-src-from w ↦ (let same = w.if-src-from in let is = w.least-is in inl (grind (arith, same), is))
      | else-src-from w ↦ (let apart = w.if-src-from in let is = w.least-is in let more = c.loop-src.auto.src in inr (grind (arith, apart, more), is))
    ] in
    next-pair-found c.args.net.now c.args.pred.now c.args.from c.loop-src.src c.if-src-from.least c.in-Some.dst start c.loop-src.invariant
    (subst (λ o. IfSome o (IsNextDestination c.args.net.now c.args.pred.now c.loop-src.src c.if-src-from.least)) c.in-Some.is c.in_ok-dst.ensures.some)

pub loop-src-preserved : goal.loop-src-preserved
loop-src-preserved c =
    let start : least_of_source c.args.net.now c.args.pred.now c.args.from c.loop-src.src c.if-src-from.least = elim c.if-src-from.branch [
      | then-src-from w ↦ (let same = w.if-src-from in let is = w.least-is in inl (grind (arith, same), is))
      | else-src-from w ↦ (let apart = w.if-src-from in let is = w.least-is in let more = c.loop-src.auto.src in inr (grind (arith, apart, more), is))
    ] in
    none-pair-more c.args.net.now c.args.pred.now c.args.from c.loop-src.src c.if-src-from.least start c.loop-src.invariant
    (subst (λ o. IfNone o ((dst : ℕ) → HasPacket c.args.net.now c.args.pred.now (c.loop-src.src, dst) → dst < c.if-src-from.least)) c.in_default.is c.in_ok-dst.ensures.none)

pub returns-clause-none : goal.returns-clause-none
returns-clause-none c =
    let many = c.locations-src-end.ensures.count in
    let stops = c.loop-src-test.false in
    no-pair-from c.args.net.now c.args.pred.now c.args.from c.loop-src.src c.loop-src.invariant (grind (arith, many, stops))
