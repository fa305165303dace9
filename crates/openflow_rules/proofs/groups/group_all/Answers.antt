use Rattle.std.proofs.Common.{◌≡◌, ℕ, List, Option, None, get_or, length, subst, arith}
use Rattle.openflow_rules.specs.Kinds.{AreGroupedBelow}
use Rattle.openflow_rules.proofs.Leading.{grouped-none, added, get-at}
use Rattle.openflow_rules.proofs.groups.group_all.Goals as goal

pub loop-statement-init : goal.loop-statement-init
loop-statement-init c = λ policy kinds. grouped-none policy c.args.kinds.now kinds _ c.new.ensures c.new-2.ensures c.new-3.ensures

pub loop-statement-preserved : goal.loop-statement-preserved
loop-statement-preserved c = λ policy kinds.
    let n : ℕ = c.loop-statement.statement in
    let all : List (Option ℕ) = c.args.kinds.now in
    added policy all kinds n c.loop-statement.grouping c.add_statement.new.grouping (c.loop-statement.invariant policy kinds) (get_or all n None) (get-at all n None c.loop-statement-test.true) c.in_ok-add_statement.ensures

pub returns : goal.returns
returns c = λ policy kinds.
    let past = c.loop-statement-test.false in
    let upto = c.loop-statement.auto.statement-end in
    let whole : c.loop-statement.statement ≡ length c.args.kinds.now = omega (arith, past, upto) in
    subst (λ n. AreGroupedBelow policy c.args.kinds.now n c.loop-statement.grouping) whole (c.loop-statement.invariant policy kinds)
