use Rattle.std.proofs.Common.{[], Ok, sym, ◌∙◌, ap, append-nil}
use Rattle.certificate_text.specs.TreeTexts.{tree_text}
use Rattle.certificate_text.proofs.WholeTrees.{few_nodes, text_once}
use Rattle.certificate_text.proofs.tree.read_tree.Goals as goal

pub returns-in-Ok-clause-few : goal.returns-in-Ok-clause-few
returns-in-Ok-clause-few c = few_nodes c.in-Ok.tree c.in-Ok.ensures.ok.1

pub returns-in-Ok-clause-only : goal.returns-in-Ok-clause-only
returns-in-Ok-clause-only c = λ tree is e.
    ap Ok (text_once c.in-Ok.tree tree [] c.in-Ok.ensures.ok.1 is (sym c.in-Ok.ensures.ok.0 ∙ e ∙ sym (append-nil (tree_text tree)))).0
