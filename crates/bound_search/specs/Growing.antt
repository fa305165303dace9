-- Trees that are grown.
use Rattle.std.specs.Prelude.{ℕ, ◌≡◌, ◌+◌, ◌<◌, Bool, true, List, length, Option}
use Rattle.std.specs.List.{AllByRecursion}
use Rattle.merlin_model.specs.Programs.{Program, IsSolution}
use Rattle.merlin_model.specs.declared.certificate.Tree.{Tree}
use Rattle.merlin_model.specs.Trees.{Node, Leaf_node, Split_node, Open_end, nodes_of, IsKeptNode, has_open_end}
use Rattle.bound_search.specs.declared.boxes.Boxes.{Boxes}
use Rattle.bound_search.specs.declared.grow.Grown.{Grown}
use Rattle.bound_search.specs.declared.grow.Grown.TheVariants.{Whole, Halted}
use Rattle.bound_search.specs.Boxes.{IsShut}

-- each leaf refutes, and what is split or left open is not easy and has an open variable
abbrev pub AreKept : Program → (List (Option Bool) → Type 0) → List (List (Option Bool) × Node) → Type 0
AreKept program easy nodes = AllByRecursion (λ node. IsKeptNode program easy node.0 node.1) nodes

-- what a chooser answered at the shut box
pub record IsChosenAt (program : Program) (chose : List (Option Bool) → ℕ → Type 0) (box : List (Option Bool)) (variable : ℕ) : Type 0 where
  pub shut : List (Option Bool)
  pub is_shut : IsShut program box shut
  pub answered : chose shut variable

-- a split is at the variable that the chooser answered
abbrev pub IsChosenNode : Program → (List (Option Bool) → ℕ → Type 0) → List (Option Bool) → Node → Type 0
IsChosenNode program chose box (Leaf_node weights) = Unit {0}
IsChosenNode program chose box (Split_node variable) = IsChosenAt program chose box variable
IsChosenNode program chose box Open_end = Unit {0}

abbrev pub AreChosen : Program → (List (Option Bool) → ℕ → Type 0) → List (List (Option Bool) × Node) → Type 0
AreChosen program chose nodes = AllByRecursion (λ node. IsChosenNode program chose node.0 node.1) nodes

-- The tree that was grown over a box, with so many nodes left before and after. An end is open only where the nodes are spent.
pub record IsGrownTree (program : Program) (easy : List (Option Bool) → Type 0) (chose : List (Option Bool) → ℕ → Type 0) (box : List (Option Bool)) (before after : ℕ) (tree : Tree) : Type 0 where
  pub kept : AreKept program easy (nodes_of tree box)
  pub chosen : AreChosen program chose (nodes_of tree box)
  pub size : after + length (nodes_of tree box) ≡ before + 1
  pub spent : has_open_end (nodes_of tree box) ≡ true → after < 2

-- a whole tree, with the boxes as before
pub record IsWhole (program : Program) (easy : List (Option Bool) → Type 0) (chose : List (Option Bool) → ℕ → Type 0) (boxes boxes_after : Boxes) (before after : ℕ) (tree : Tree) : Type 0 where
  pub grown : IsGrownTree program easy chose boxes.plain before after tree
  pub same : boxes_after ≡ boxes

-- a whole tree, or a neat solution
abbrev pub IsGrownOr : Program → (List (Option Bool) → Type 0) → (List Bool → Type 0) → (List (Option Bool) → ℕ → Type 0) → (boxes boxes_after : Boxes) → (before after : ℕ) → Grown → Type 0
IsGrownOr program easy neat chose boxes boxes_after before after (Whole tree) = IsWhole program easy chose boxes boxes_after before after tree
IsGrownOr program easy neat chose boxes boxes_after before after (Halted point) = IsSolution program point × neat point
