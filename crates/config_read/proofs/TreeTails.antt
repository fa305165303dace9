-- The tree at the end of a result, read and refused.
use Rattle.std.proofs.Common.{◌≡◌, ℕ, ◌+◌, ◌-◌, inr, false, List, [], ◌∷◌, ◌++◌, length, length-append, length-drop, take, drop, refl, sym, ◌∙◌, ap, subst, append_assoc, arith}
use Rattle.std.proofs.lemmas.List.{take_all}
use Rattle.std.specs.Prelude.{codes}
use Rattle.merlin_model.specs.declared.certificate.Tree.{Leaf}
use Rattle.merlin_base.specs.Faults.{GoesWrong}
use Rattle.merlin_base.specs.NodeTexts.{nodes_text}
use Rattle.merlin_base.specs.Skipping.{EndsNodesAt, StopsNodesAt}
use Rattle.merlin_base.proofs.Cutting.{Free}
use Rattle.merlin_base.proofs.TreeSkips.{one_leaf}
use Rattle.config_read.specs.Tails.{closing_tree, IsTree, BeginsWithTree}
use Rattle.config_read.proofs.Stars.{seq_wrong, no_front}

pub some_tree : IsTree (Leaf [])
some_tree = one_leaf false 4095

tree_word : Free 10 (codes "tree")
tree_word = ((λ e. omega arith), ((λ e. omega arith), ((λ e. omega arith), ((λ e. omega arith), tt))))

pub no_tree : (text : List ℕ) → ((rest : List ℕ) → text ≡ codes "tree\n" ++ rest → ⊥) → GoesWrong closing_tree IsTree text (length text)
no_tree text none = no_front (codes "tree") nodes_text IsTree text (Leaf []) some_tree tree_word none

pub wrong_nodes : (text nodes : List ℕ) (at : ℕ) → text ≡ codes "tree\n" ++ nodes → StopsNodesAt false nodes 0 at → GoesWrong closing_tree IsTree text (length nodes - at)
wrong_nodes text nodes at e stops = seq_wrong (codes "tree\n") nodes_text IsTree text nodes (length nodes - at) (inr (codes "tree", refl)) e stops.goes_wrong

behind_all : (front rest : List ℕ) → drop (length front) (front ++ rest) ≡ rest
behind_all [] rest = refl
behind_all (c ∷ cs) rest = behind_all cs rest

behind : (whole front rest : List ℕ) (end : ℕ) → whole ≡ front ++ rest → end + length rest ≡ length whole → drop end whole ≡ rest
behind whole front rest end e place =
    let size = ap length e ∙ length-append front rest in
    let same : end ≡ length front = omega arith in
    ap (λ k. drop k whole) same ∙ ap (drop (length front)) e ∙ behind_all front rest

pub tree_read : (text nodes : List ℕ) (end : ℕ) → text ≡ codes "tree\n" ++ nodes → EndsNodesAt false nodes 0 end → BeginsWithTree text (take (length nodes - end) (drop end nodes))
tree_read text nodes end e ends = subst (BeginsWithTree text) (sym (take_all (length nodes - end) (drop end nodes) (let n = length-drop end nodes in omega arith))) (record {
  tree = ends.begins.tree;
  is = ends.begins.taken;
  whole = e ∙ ap (λ z. codes "tree\n" ++ z) (ends.begins.whole ∙ ap (λ z. nodes_text ends.begins.tree ++ z) (sym (behind nodes (nodes_text ends.begins.tree) ends.rest end ends.begins.whole ends.place)))
      ∙ sym (append_assoc (codes "tree\n") (nodes_text ends.begins.tree) (drop end nodes));
})
