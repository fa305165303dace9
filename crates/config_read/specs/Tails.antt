-- The tree at the end of a result.
use Rattle.std.specs.Prelude.{ℕ, ◌≡◌, ◌≢◌, ◌⊎◌, false, List, [], ◌++◌, length, codes}
use Rattle.merlin_model.specs.declared.certificate.Tree.{Tree}
use Rattle.merlin_model.specs.declared.limits.TheConstants.{MAX_NODES}
use Rattle.merlin_base.specs.Faults.{GoesWrong}
use Rattle.merlin_base.specs.NodeTexts.{nodes_text, IsTakenTree}

-- the line `tree`, the nodes and the line `end`
abbrev pub closing_tree : Tree → List ℕ
closing_tree tree = codes "tree\n" ++ nodes_text tree

-- a tree within the limits, without open ends
abbrev pub IsTree : Tree → Type 0
IsTree = IsTakenTree false MAX_NODES

pub record BeginsWithTree (text rest : List ℕ) : Type 0 where
  pub tree : Tree
  pub is : IsTree tree
  pub whole : text ≡ closing_tree tree ++ rest

-- the text is a tree to its end
pub record IsLastTree (text : List ℕ) : Type 0 where
  pub tree : Tree
  pub is : IsTree tree
  pub whole : text ≡ closing_tree tree

-- more stands behind the tree
pub record HasMoreBehind (text : List ℕ) (left : ℕ) : Type 0 where
  pub tree : Tree
  pub is : IsTree tree
  pub more : List ℕ
  pub whole : text ≡ closing_tree tree ++ more
  pub some : more ≢ []
  pub at : left ≡ length more

abbrev pub IsNoLastTree : List ℕ → ℕ → Type 0
IsNoLastTree text left = GoesWrong closing_tree IsTree text left ⊎ HasMoreBehind text left
