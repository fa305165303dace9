-- The nodes of a tree as lines, in preorder, and the line `end` behind them.
use Rattle.std.specs.Prelude.{ℕ, ◌≡◌, ◌≢◌, ◌<◌, ◌≤◌, ◌^◌, Bool, false, ℤ, List, [], ◌∷◌, ◌++◌, map, length, codes}
use Rattle.std.specs.List.{AllByRecursion, flat_map}
use Rattle.std.specs.Fmt.{decimal}
use Rattle.merlin_model.specs.declared.certificate.Weight.{Weight}
use Rattle.merlin_model.specs.declared.certificate.Tree.{Tree}
use Rattle.merlin_model.specs.Trees.{Node, Leaf_node, Split_node, Open_end, nodes_of}
use Rattle.merlin_model.specs.declared.limits.TheConstants.{MAX_WEIGHT}
use Rattle.merlin_base.specs.declared.limits.TheConstants.{MAX_DIGITS}
use Rattle.merlin_base.specs.Pairs.{pairs_text, ArePairs}

abbrev pub pair_of : Weight → ℕ × ℤ
pair_of w = (w.row, w.weight)

abbrev pub node_line : Node → List ℕ
node_line (Split_node variable) = codes "split " ++ (decimal variable ++ 10 ∷ [])
node_line (Leaf_node weights) = codes "leaf" ++ (pairs_text (map pair_of weights) ++ 10 ∷ [])
node_line Open_end = codes "open" ++ 10 ∷ []

-- numbers of variables and rows have at most `MAX_DIGITS` digits, rows ascend, and weights aren't 0 and are within their limit
abbrev pub IsNodeLine : Node → Type 0
IsNodeLine (Split_node variable) = variable < 10 ^ MAX_DIGITS
IsNodeLine (Leaf_node weights) = ArePairs (10 ^ MAX_DIGITS) MAX_WEIGHT (map pair_of weights)
IsNodeLine Open_end = Unit {0}

-- the nodes in preorder, whatever their boxes are
abbrev pub nodes_in : Tree → List Node
nodes_in tree = map (λ node. node.1) (nodes_of tree [])

abbrev pub node_lines : Tree → List ℕ
node_lines tree = flat_map node_line (nodes_in tree)

-- at most so many nodes, each of whose lines is within the limits
pub record IsWithin (most : ℕ) (tree : Tree) : Type 0 where
  pub few : length (nodes_in tree) ≤ most
  pub each : AllByRecursion IsNodeLine (nodes_in tree)

-- the last line
abbrev pub end_line : List ℕ
end_line = codes "end" ++ 10 ∷ []

-- the lines of the nodes, and then the line `end`
abbrev pub nodes_text : Tree → List ℕ
nodes_text tree = node_lines tree ++ end_line

-- a node that may stand where open ends are taken, or where they are not
abbrev pub MayStand : Bool → Node → Type 0
MayStand unclosed node = unclosed ≡ false → node ≢ Open_end

-- a tree within the limits, with open ends only where they are taken
pub record IsTakenTree (unclosed : Bool) (most : ℕ) (tree : Tree) : Type 0 where
  pub within : IsWithin most tree
  pub stand : AllByRecursion (MayStand unclosed) (nodes_in tree)
