-- Trees as texts: the line `tree`, the lines of the nodes in preorder, the line `end`.
use Rattle.std.specs.Prelude.{ℕ, List, [], ◌∷◌, ◌++◌, codes}
use Rattle.merlin_model.specs.declared.certificate.Tree.{Tree}
use Rattle.merlin_model.specs.declared.limits.TheConstants.{MAX_NODES}
use Rattle.merlin_base.specs.NodeTexts.{node_lines, IsWithin}

abbrev pub tree_text : Tree → List ℕ
tree_text tree = (codes "tree" ++ 10 ∷ []) ++ (node_lines tree ++ (codes "end" ++ 10 ∷ []))

abbrev pub IsTreeText : Tree → Type 0
IsTreeText = IsWithin MAX_NODES
