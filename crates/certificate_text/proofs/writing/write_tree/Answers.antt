use Rattle.std.proofs.lemmas.Result.{err_from_is_err_and, on_err_weaker}
use Rattle.merlin_base.specs.NodeTexts.{node_lines}
use Rattle.certificate_text.proofs.WholeTrees.{start, finish}
use Rattle.certificate_text.proofs.TreeStack.{in_first, in_second, in_third}
use Rattle.certificate_text.proofs.writing.write_tree.Goals as goal

pub returns-in_err-write_word-clause-err : goal.returns-in_err-write_word-clause-err
returns-in_err-write_word-clause-err g c =
    let p = err_from_is_err_and c.from_residual.result c.from_residual.ensures.1 in
    rw p.1 (in_first _ _ start (node_lines c.args.tree.now) finish c.in_err-write_word.ensures.err)

pub returns-in_err-write_tree_nodes-clause-err : goal.returns-in_err-write_tree_nodes-clause-err
returns-in_err-write_tree_nodes-clause-err g c =
    let p = err_from_is_err_and c.from_residual-in_err-write_tree_nodes.result c.from_residual-in_err-write_tree_nodes.ensures.1 in
    rw p.1 (in_second _ _ start (node_lines c.args.tree.now) finish _ c.in_ok-write_word.ensures.ok c.in_err-write_tree_nodes.ensures.err)

pub returns-clause-err : goal.returns-clause-err
returns-clause-err g c =
    on_err_weaker c.write_word-2.result (in_third _ _ start (node_lines c.args.tree.now) finish _ _ c.in_ok-write_word.ensures.ok c.in_ok-write_tree_nodes.ensures.ok) c.write_word-2.ensures.err
