use Rattle.std.proofs.Common.{◌+◌, length, sym, ap, subst, arith}
use Rattle.std.specs.List.{AllByRecursion}
use Rattle.merlin_base.specs.NodeTexts.{IsNodeLine, nodes_in, node_lines, IsWithin}
use Rattle.merlin_base.specs.Faults.{GoesWrong}
use Rattle.certificate_text.specs.Outcomes.{IsLineFault}
use Rattle.merlin_base.proofs.NodeTexts.{split_lines, split_count}
use Rattle.certificate_text.proofs.NodeReads.{err_to, line_fault, too_many, low_wrong, high_wrong, split_text}
use Rattle.certificate_text.proofs.tree.+read_nodes.Goals as goal

pub returns-in_err-line-clause-err : goal.returns-in_err-line-clause-err
returns-in_err-line-clause-err t c =
    err_to (IsLineFault (GoesWrong node_lines (IsWithin (c.args.spare + 1)) c.args.text.now)) c.from_residual.result c.in_err-line.field-0.0 c.from_residual.ensures.1 (line_fault c.args.spare c.args.text.now c.in_err-line.field-0.0 c.in_err-line.ensures.err)

pub returns-then-spare-lt2-clause-err : goal.returns-then-spare-lt2-clause-err
returns-then-spare-lt2-clause-err t c =
    let line = rw c.in-Split.is at c.in_ok-line.ensures.ok in
    too_many c.args.spare c.in-Split.variable c.args.text.now c.in_ok-line.rest.now c.if-spare-lt2.true line.1 line.0

pub returns-in_err-zero-in-Split-clause-err : goal.returns-in_err-zero-in-Split-clause-err
returns-in_err-zero-in-Split-clause-err t c =
    let line = rw c.in-Split.is at c.in_ok-line.ensures.ok in
    err_to (IsLineFault (GoesWrong node_lines (IsWithin (c.args.spare + 1)) c.args.text.now)) c.from_residual-in_err-zero-in-Split.result c.in_err-zero-in-Split.field-0.0 c.from_residual-in_err-zero-in-Split.ensures.1
    (low_wrong c.args.spare c.in-Split.variable c.args.text.now c.in_ok-line.rest.now c.in_err-zero-in-Split.field-0.0 c.if-spare-lt2.false line.1 line.0 c.in_err-zero-in-Split.ensures.err)

pub returns-in_err-one-in-Split-clause-err : goal.returns-in_err-one-in-Split-clause-err
returns-in_err-one-in-Split-clause-err t c =
    let line = rw c.in-Split.is at c.in_ok-line.ensures.ok in
    err_to (IsLineFault (GoesWrong node_lines (IsWithin (c.args.spare + 1)) c.args.text.now)) c.from_residual-in_err-one-in-Split.result c.in_err-one-in-Split.field-0.0 c.from_residual-in_err-one-in-Split.ensures.1
    (high_wrong c.args.spare c.in_ok-zero-in-Split.spare c.in-Split.variable c.in_ok-zero-in-Split.zero c.args.text.now c.in_ok-line.rest.now c.in_ok-zero-in-Split.rest.now c.in_err-one-in-Split.field-0.0 c.if-spare-lt2.false line.1 line.0
    c.in_ok-zero-in-Split.ensures.text c.in_ok-zero-in-Split.ensures.spare c.in_ok-zero-in-Split.ensures.each c.in_err-one-in-Split.ensures.err)

pub returns-in_ok-split-in-Split-clause-text : goal.returns-in_ok-split-in-Split-clause-text
returns-in_ok-split-in-Split-clause-text t c =
    let line = rw c.in-Split.is at c.in_ok-line.ensures.ok in
    split_text c.in-Split.variable c.in_ok-zero-in-Split.zero c.in_ok-one-in-Split.one c.in_ok-split-in-Split.field-0 c.args.text.now c.in_ok-line.rest.now c.in_ok-zero-in-Split.rest.now c.in_ok-one-in-Split.rest.now line.0
    c.in_ok-zero-in-Split.ensures.text c.in_ok-one-in-Split.ensures.text c.in_ok-split-in-Split.ensures

pub returns-in_ok-split-in-Split-clause-spare : goal.returns-in_ok-split-in-Split-clause-spare
returns-in_ok-split-in-Split-clause-spare t c =
    let same = ap (λ tree. length (nodes_in tree)) c.in_ok-split-in-Split.ensures in
    let n = split_count c.in-Split.variable c.in_ok-zero-in-Split.zero c.in_ok-one-in-Split.one in
    let a = c.in_ok-zero-in-Split.ensures.spare in
    let b = c.in_ok-one-in-Split.ensures.spare in
    let room = c.if-spare-lt2.false in
    omega arith

pub returns-in_ok-split-in-Split-clause-each : goal.returns-in_ok-split-in-Split-clause-each
returns-in_ok-split-in-Split-clause-each t c =
    let line = rw c.in-Split.is at c.in_ok-line.ensures.ok in
    subst (λ tree. AllByRecursion IsNodeLine (nodes_in tree)) (sym c.in_ok-split-in-Split.ensures) (split_lines c.in-Split.variable c.in_ok-zero-in-Split.zero c.in_ok-one-in-Split.one line.1 c.in_ok-zero-in-Split.ensures.each c.in_ok-one-in-Split.ensures.each)
