use Rattle.std.proofs.Common.{◌≡◌, ◌==◌, ℕ, Bool, List, [], length, true, false, sym, ◌∙◌, ap}
use Rattle.certificate_text.specs.Outcomes.{IsLineFault}
use Rattle.certificate_text.proofs.NodeReads.{err_to}
use Rattle.certificate_text.proofs.WholeTrees.{IsWrongWhole, no_start, bad_nodes, no_finish, extra, is_tree_text}
use Rattle.certificate_text.proofs.tree.read_whole_tree.Goals as goal

true-false : true ≡ false → ⊥
true-false e = cc

some : (rest : List ℕ) (b : Bool) → b ≡ (length rest == 0) → b ≡ false → rest ≡ [] → ⊥
some rest b e f g = true-false (sym (ap (λ (xs : List ℕ). length xs == 0) g) ∙ sym e ∙ f)

pub returns-in_default-clause-err : goal.returns-in_default-clause-err
returns-in_default-clause-err c = no_start c.args.text.now c.in_default.ensures.none

pub returns-in_err-tree-clause-err : goal.returns-in_err-tree-clause-err
returns-in_err-tree-clause-err c =
    err_to (IsLineFault (IsWrongWhole c.args.text.now)) c.from_residual.result c.in_err-tree.field-0.0 c.from_residual.ensures.1 (bad_nodes c.args.text.now c.in-Some.nodes.now c.in_err-tree.field-0.0 c.in-Some.ensures.some c.in_err-tree.ensures.err)

pub returns-in_default-strip_front-clause-err : goal.returns-in_default-strip_front-clause-err
returns-in_default-strip_front-clause-err c =
    no_finish c.args.text.now c.in-Some.nodes.now c.in_ok-tree.rest.now c.in_ok-tree.tree c.in-Some.ensures.some c.in_ok-tree.ensures.text (is_tree_text c.in_ok-tree.tree c.in_ok-tree._spare c.in_ok-tree.ensures.spare c.in_ok-tree.ensures.each) c.in_default-strip_front.ensures.none

pub returns-else-is_empty-clause-err : goal.returns-else-is_empty-clause-err
returns-else-is_empty-clause-err c =
    extra c.args.text.now c.in-Some.nodes.now c.in_ok-tree.rest.now c.in-Some-strip_front.more.now c.in_ok-tree.tree c.in-Some.ensures.some c.in_ok-tree.ensures.text c.in-Some-strip_front.ensures.some
    (is_tree_text c.in_ok-tree.tree c.in_ok-tree._spare c.in_ok-tree.ensures.spare c.in_ok-tree.ensures.each) (some c.in-Some-strip_front.more.now c.is_empty.result c.is_empty.ensures c.if-is_empty.false)
