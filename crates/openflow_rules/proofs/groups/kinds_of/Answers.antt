use Rattle.std.proofs.Common.{◌+◌, sym, subst, arith}
use Rattle.openflow_rules.proofs.Kinding.{AreKindsBelow, kinds-next, kinds-whole}
use Rattle.openflow_rules.proofs.groups.kinds_of.Goals as goal

pub loop-statement-preserved : goal.loop-statement-preserved
loop-statement-preserved c =
    subst (AreKindsBelow c.args.checked.now.policy c.kind_of.new.forms (c.loop-statement.statement + 1)) (sym c.in_ok-push.ensures.ok)
    (kinds-next c.args.checked.now.policy c.loop-statement.forms c.kind_of.new.forms c.loop-statement.statement c.loop-statement.kinds c.in_ok-kind.kind c.in_ok-kind.ensures.grows c.loop-statement.invariant c.in_ok-kind.ensures.kind)

pub returns : goal.returns
returns c =
    let past = c.loop-statement-test.false in
    let upto = c.loop-statement.auto.statement-end in
    let count = c.statements-statement-end.ensures.count in
    kinds-whole c.args.checked.now.policy c.loop-statement.forms c.loop-statement.statement c.loop-statement.kinds c.differ.ensures (omega (arith, past, upto, count)) c.loop-statement.invariant
