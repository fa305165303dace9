use Rattle.std.proofs.Common.{◌≡◌, length, ap, arith}
use Rattle.fair_share.proofs.WholeShares.{wrong-at, wrong-past, pushed-at}
use Rattle.fair_share.proofs.share_text.read_lines.Goals as goal

pub returns-in_default-clause-err : goal.returns-in_default-clause-err
returns-in_default-clause-err c =
    (wrong-at c.args.caps.now c.requires.caps c.args.tenants.now c.loop-index.index c.index-tenants-index.result c.loop-index.shares.items c.args.text.now c.loop-index.rest.now c.requires.tenants (let t = c.loop-index-test.true in omega arith)
    c.index-tenants-index.is c.loop-index.invariant.1 c.loop-index.invariant.0 c.in_default.ensures.none).1

pub loop-index-preserved : goal.loop-index-preserved
loop-index-preserved c =
    pushed-at c.args.caps.now c.requires.caps c.args.tenants.now c.loop-index.index c.index-tenants-index.result c.loop-index.shares.items c.push.new.self.items c.in-Some.share c.args.text.now c.loop-index.rest.now c.in-Some.others.now
    (let t = c.loop-index-test.true in omega arith) c.index-tenants-index.is c.loop-index.invariant.1 c.in-Some.ensures.some.1 c.loop-index.invariant.0 c.in-Some.ensures.some.0 c.in_ok-push.ensures.items

pub returns-then-not-is_empty-clause-err : goal.returns-then-not-is_empty-clause-err
returns-then-not-is_empty-clause-err c =
    (wrong-past c.args.caps.now c.requires.caps c.args.tenants.now c.loop-index.index c.loop-index.shares.items c.args.text.now c.loop-index.rest.now c.requires.tenants (let t = c.loop-index-test.false in omega arith) c.loop-index.invariant.1 c.loop-index.invariant.0
    (λ e. let n : length c.loop-index.rest.now ≡ 0 = ap (λ z. length z) e in let t = c.if-not-is_empty.true in let u = c.is_empty.ensures in grind arith)).1
