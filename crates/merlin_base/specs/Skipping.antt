-- What is skipped of a text: a list of pairs, a line of a node, a tree, and a tree with the line `end`.
use Rattle.std.specs.Prelude.{ℕ, ◌≡◌, ◌≤◌, ◌<◌, ◌+◌, ◌-◌, ◌^◌, Bool, true, false, ℤ, List, ◌∷◌, ◌++◌, length, drop, map}
use Rattle.std.specs.List.{AllByRecursion}
use Rattle.std.specs.Fmt.{decimal}
use Rattle.merlin_model.specs.declared.certificate.Weight.{Weight}
use Rattle.merlin_model.specs.declared.certificate.Tree.{Tree}
use Rattle.merlin_model.specs.Trees.{Node, Leaf_node, Split_node, Open_end}
use Rattle.merlin_model.specs.declared.limits.TheConstants.{MAX_WEIGHT, MAX_NODES}
use Rattle.merlin_base.specs.declared.limits.TheConstants.{MAX_DIGITS}
use Rattle.merlin_base.specs.Pairs.{pairs_text, ArePairs}
use Rattle.merlin_base.specs.Faults.{GoesWrong}
use Rattle.merlin_base.specs.NodeTexts.{pair_of, node_line, IsNodeLine, nodes_in, node_lines, nodes_text, MayStand, IsTakenTree}

-- the text is pairs within the bounds
pub record IsPairsText (bound limit : ℕ) (text : List ℕ) : Type 0 where
  pub pairs : List (ℕ × ℤ)
  pub are : ArePairs bound limit pairs
  pub whole : text ≡ pairs_text pairs

-- the text begins with a number and a newline
pub record BeginsNumberLine (text rest : List ℕ) : Type 0 where
  pub number : ℕ
  pub short : number < 10 ^ MAX_DIGITS
  pub whole : text ≡ decimal number ++ 10 ∷ rest

-- the text begins with weights and a newline
pub record BeginsWeightsLine (text rest : List ℕ) : Type 0 where
  pub weights : List Weight
  pub are : ArePairs (10 ^ MAX_DIGITS) MAX_WEIGHT (map pair_of weights)
  pub whole : text ≡ pairs_text (map pair_of weights) ++ 10 ∷ rest

abbrev pub is_split : Node → Bool
is_split (Leaf_node weights) = false
is_split (Split_node variable) = true
is_split Open_end = false

-- the text begins with the line of a node that may stand there; a split has two trees behind it
pub record BeginsNodeLine (unclosed : Bool) (text : List ℕ) (split : Bool) (rest : List ℕ) : Type 0 where
  pub node : Node
  pub whole : text ≡ node_line node ++ rest
  pub line : IsNodeLine node
  pub stands : MayStand unclosed node
  pub split_is : split ≡ is_split node

-- the text begins with a tree; so many nodes more may follow, of those that might follow the first one
pub record BeginsTree (unclosed : Bool) (spare : ℕ) (text rest : List ℕ) (left : ℕ) : Type 0 where
  pub tree : Tree
  pub whole : text ≡ node_lines tree ++ rest
  pub count : left + length (nodes_in tree) ≡ spare + 1
  pub each : AllByRecursion IsNodeLine (nodes_in tree)
  pub stand : AllByRecursion (MayStand unclosed) (nodes_in tree)

-- the text begins with a tree within the limits and the line `end`
pub record BeginsNodes (unclosed : Bool) (text rest : List ℕ) : Type 0 where
  pub tree : Tree
  pub taken : IsTakenTree unclosed MAX_NODES tree
  pub whole : text ≡ nodes_text tree ++ rest

-- From a place on the text has a tree within the limits and the line `end`, which is over at the other place.
pub record EndsNodesAt (unclosed : Bool) (bytes : List ℕ) (at end : ℕ) : Type 0 where
  pub rest : List ℕ
  pub begins : BeginsNodes unclosed (drop at bytes) rest
  pub place : end + length rest ≡ length bytes

-- From a place on no such text goes on with the line at the other place.
pub record StopsNodesAt (unclosed : Bool) (bytes : List ℕ) (at wrong : ℕ) : Type 0 where
  pub within : wrong ≤ length bytes
  pub goes_wrong : GoesWrong nodes_text (IsTakenTree unclosed MAX_NODES) (drop at bytes) (length bytes - wrong)
