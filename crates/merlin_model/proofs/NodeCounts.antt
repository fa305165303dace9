-- The box of a tree says nothing of how many nodes the tree has.
use Rattle.std.proofs.Common.{length-append, ◌≡◌, ◌+◌, suc, Bool, true, false, List, length, Option, refl, sym, ◌∙◌, ap, ap₂}
use Rattle.merlin_model.specs.declared.certificate.Tree.{Tree, Leaf, Split', Unclosed, end_of-Tree, more_of-Tree}
use Rattle.merlin_model.specs.Trees.{nodes_of, fix}

pub same_count : (tree : Tree) (a b : List (Option Bool)) → length (nodes_of tree a) ≡ length (nodes_of tree b)
same_count (Leaf weights) a b = refl
same_count (Split' variable _ (more_of-Tree low end_of-Tree) _ (more_of-Tree high end_of-Tree)) a b =
    ap suc (
    length-append (nodes_of low (fix a variable false)) (nodes_of high (fix a variable true))
    ∙ ap₂ (λ m n. m + n) (same_count low (fix a variable false) (fix b variable false)) (same_count high (fix a variable true) (fix b variable true))
    ∙ sym (length-append (nodes_of low (fix b variable false)) (nodes_of high (fix b variable true))))
same_count Unclosed a b = refl
