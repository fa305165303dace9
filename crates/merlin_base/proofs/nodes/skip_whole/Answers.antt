use Rattle.merlin_base.specs.Faults.{GoesWrong}
use Rattle.merlin_base.specs.NodeTexts.{nodes_text, IsTakenTree}
use Rattle.merlin_base.proofs.Passing.{err_to}
use Rattle.merlin_base.proofs.WholeSkips.{bad_tree, no_end_line}
use Rattle.merlin_base.proofs.nodes.skip_whole.Goals as goal

pub returns-in_err-rest-clause-err : goal.returns-in_err-rest-clause-err
returns-in_err-rest-clause-err c =
    err_to (GoesWrong nodes_text (IsTakenTree c.args.unclosed 4096) c.args.text.now) c.from_residual.result c.in_err-rest.field-0.0 c.from_residual.ensures.1
    (bad_tree c.args.unclosed c.args.text.now c.in_err-rest.field-0.0 c.in_err-rest.ensures.err)

pub returns-in-None-clause-err : goal.returns-in-None-clause-err
returns-in-None-clause-err c = no_end_line c.args.unclosed c.args.text.now c.in_ok-rest.rest.now c.in_ok-rest.field-0-1 c.in_ok-rest.ensures.ok c.in-None.ensures.none
