use Rattle.std.proofs.Common.{◌+◌}
use Rattle.merlin_base.specs.Faults.{GoesWrong}
use Rattle.merlin_base.specs.NodeTexts.{node_lines, IsTakenTree}
use Rattle.merlin_base.proofs.Passing.{pass_ok, pass_err, err_to}
use Rattle.merlin_base.proofs.TreeSkips.{no_first, single, split_line_of, too_many, low_wrong, high_wrong, joined}
use Rattle.merlin_base.proofs.nodes.+skip_tree.Goals as goal

pub returns-in_default-clause-err : goal.returns-in_default-clause-err
returns-in_default-clause-err t c = no_first c.args.unclosed c.args.spare c.args.text.now c.in_default.ensures.none

pub returns-then-not-split-clause-ok : goal.returns-then-not-split-clause-ok
returns-then-not-split-clause-ok t c = single c.args.unclosed c.args.spare c.args.text.now c.in-Some.rest.now c.in-Some.split c.if-not-split.true c.in-Some.ensures.some

pub returns-then-spare-lt2-clause-err : goal.returns-then-spare-lt2-clause-err
returns-then-spare-lt2-clause-err t c =
    too_many c.args.unclosed c.args.spare c.args.text.now c.in-Some.rest.now c.if-spare-lt2.true
    (split_line_of c.args.unclosed c.args.text.now c.in-Some.rest.now c.in-Some.split c.if-not-split.false c.in-Some.ensures.some)

pub returns-in_err-behind-clause-err : goal.returns-in_err-behind-clause-err
returns-in_err-behind-clause-err t c =
    err_to (GoesWrong node_lines (IsTakenTree c.args.unclosed (c.args.spare + 1)) c.args.text.now) c.from_residual.result c.in_err-behind.field-0.0 c.from_residual.ensures.1
    (low_wrong c.args.unclosed c.args.spare c.args.text.now c.in-Some.rest.now c.in_err-behind.field-0.0 c.if-spare-lt2.false
    (split_line_of c.args.unclosed c.args.text.now c.in-Some.rest.now c.in-Some.split c.if-not-split.false c.in-Some.ensures.some) c.in_err-behind.ensures.err)

pub returns-clause-ok : goal.returns-clause-ok
returns-clause-ok t c =
    pass_ok _ _ c.skip_tree-2.result
    (λ r. joined c.args.unclosed c.args.spare c.args.text.now c.in-Some.rest.now c.in_ok-behind.behind.now r.0.now c.in_ok-behind.left r.1 c.if-spare-lt2.false
    (split_line_of c.args.unclosed c.args.text.now c.in-Some.rest.now c.in-Some.split c.if-not-split.false c.in-Some.ensures.some) c.in_ok-behind.ensures.ok) c.skip_tree-2.ensures.ok

pub returns-clause-err : goal.returns-clause-err
returns-clause-err t c =
    pass_err _ _ c.skip_tree-2.result
    (λ left. high_wrong c.args.unclosed c.args.spare c.args.text.now c.in-Some.rest.now c.in_ok-behind.behind.now c.in_ok-behind.left left c.if-spare-lt2.false
    (split_line_of c.args.unclosed c.args.text.now c.in-Some.rest.now c.in-Some.split c.if-not-split.false c.in-Some.ensures.some) c.in_ok-behind.ensures.ok) c.skip_tree-2.ensures.err
