-- Trees in preorder, one node after another.
use Rattle.std.specs.Prelude.{ℕ, List, [], ◌∷◌, ◌++◌}
use Rattle.merlin_model.specs.declared.certificate.Tree.{Tree, Leaf, Split', Unclosed, end_of-Tree, more_of-Tree}
use Rattle.merlin_model.specs.Trees.{Node, Leaf_node, Split_node, Open_end}
use Rattle.merlin_base.specs.NodeTexts.{node_lines}

-- the first node of a tree
abbrev pub first_node : Tree → Node
first_node (Leaf weights) = Leaf_node weights
first_node (Split' variable _ (more_of-Tree zero end_of-Tree) _ (more_of-Tree one end_of-Tree)) = Split_node variable
first_node Unclosed = Open_end

-- the trees behind the first node, the last of them first
abbrev pub subtrees : Tree → List Tree
subtrees (Leaf weights) = []
subtrees (Split' variable _ (more_of-Tree zero end_of-Tree) _ (more_of-Tree one end_of-Tree)) = one ∷ zero ∷ []
subtrees Unclosed = []

-- the lines of trees, of which the last comes first
abbrev pub lines_from_last : List Tree → List ℕ
lines_from_last [] = []
lines_from_last (tree ∷ trees) = lines_from_last trees ++ node_lines tree
