-- Refuting trees: certificates that a program has no solution.
use Rattle.std.specs.Prelude.{ℕ, ◌≡◌, refl, ◌≢◌, ◌≤◌, ◌<◌, ◌==◌, Bool, true, false, ℤ, pos, ◌*ℤ◌, ◌<ℤ◌, nat_abs, List, [], ◌∷◌, ◌++◌, map, take, length, filter, Option, None, Some, slice_get, slice_set, slice_index_or}
use Rattle.std.specs.List.{AllByRecursion, range_with_len, list_any}
use Rattle.std.specs.List.Sorted.{IsStrictlyIncreasing}
use Rattle.std.specs.Int.{int_min}
use Rattle.merlin_model.specs.declared.limits.TheConstants.{MAX_WEIGHT}
use Rattle.merlin_model.specs.declared.certificate.Weight.{Weight}
use Rattle.merlin_model.specs.declared.certificate.Tree.{Tree, Leaf, Split, Split', Unclosed, end_of-Tree, more_of-Tree}
use Rattle.merlin_model.specs.declared.certificate.Tree.TheBlock.{hidden-the_row-Tree-0}
use denote.Hole.Carrier.{hidden}
use Rattle.merlin_model.specs.Programs.{Program, Row, variables, row_at, total, is_chosen}

-- A box fixes some variables to 0 or 1.

abbrev pub fixed_at : List (Option Bool) → ℕ → Option Bool
fixed_at box variable = slice_index_or box variable None

abbrev pub fix : List (Option Bool) → ℕ → Bool → List (Option Bool)
fix box variable to = slice_set box variable (Some to)

-- the point has the values that the box fixes
abbrev pub IsInBox : List (Option Bool) → List Bool → Type 0
IsInBox box point =
    (variable : ℕ) (to : Bool) → fixed_at box variable ≡ Some to → is_chosen point variable ≡ to

-- a variable that is not fixed and may be 1
pub record IsOpen (program : Program) (box : List (Option Bool)) (variable : ℕ) : Type 0 where
  pub exists : variable < variables program
  pub free : fixed_at box variable ≡ None
  pub may_be_one : is_chosen program.upper variable ≡ true

-- A leaf adds up weighted rows.

abbrev pub row_of : Program → Weight → Row
row_of program w = row_at program w.row

-- the coefficient of a variable in a row, and in the weighted sum of the rows
abbrev pub coefficient_in : ℕ → List (ℕ × ℤ) → ℤ
coefficient_in variable entries = total (map (λ e. e.1) (filter (λ e. e.0 == variable) entries))

abbrev pub weighted_coefficient : Program → List Weight → ℕ → ℤ
weighted_coefficient program weights variable =
    total (map (λ w. w.weight *ℤ coefficient_in variable (row_of program w).entries) weights)

abbrev pub weighted_right : Program → List Weight → ℤ
weighted_right program weights = total (map (λ w. w.weight *ℤ (row_of program w).right) weights)

-- the least that a variable can add: its coefficient where it is fixed to 1, the lesser of that and
-- 0 where it is open
abbrev pub least_addition : Option Bool → Bool → ℤ → ℤ
least_addition (Some true) upper z = z
least_addition (Some false) upper z = pos 0
least_addition None true z = int_min z (pos 0)
least_addition None false z = pos 0

abbrev pub least_value : Program → List (Option Bool) → List Weight → ℤ
least_value program box weights =
    total (map (λ v. least_addition (fixed_at box v) (is_chosen program.upper v) (weighted_coefficient program weights v)) (range_with_len 0 (variables program)))

abbrev pub IsPositiveOnBounds : Bool → ℤ → Type 0
IsPositiveOnBounds true z = z ≢ pos 0
IsPositiveOnBounds false z = pos 0 <ℤ z

-- Weighted rows refute a box when no point of it can keep their left sides as low as their right
-- sides.
pub record RefutesBox (program : Program) (box : List (Option Bool)) (weights : List Weight) : Type 0 where
  pub ascend : IsStrictlyIncreasing (map (λ w. w.row) weights)
  pub exist : AllByRecursion (λ w. w.row < length program.rows) weights
  pub small : AllByRecursion (λ w. nat_abs w.weight ≤ MAX_WEIGHT) weights
  pub signs :
      AllByRecursion (λ w. IsPositiveOnBounds (row_of program w).is_equality w.weight) weights
  pub exceeds : weighted_right program weights <ℤ least_value program box weights

-- The nodes of a tree in preorder, each with its box.

pub data Node : Type 0 where
  Leaf_node : (weights : List Weight) → Node
  Split_node : (variable : ℕ) → Node
  Open_end : Node

abbrev pub nodes_of : Tree → List (Option Bool) → List (List (Option Bool) × Node)
nodes_of (Leaf weights) box = (box, Leaf_node weights) ∷ []
nodes_of (Split' variable _ (more_of-Tree zero end_of-Tree) _ (more_of-Tree one end_of-Tree)) box =
    (box, Split_node variable) ∷ (nodes_of zero (fix box variable false) ++ nodes_of one (fix box variable true))
nodes_of Unclosed box = (box, Open_end) ∷ []

-- the nodes of a split, in the words of the tree's own constructor
pub nodes_of-Split : (variable : ℕ) (zero one : Tree) (box : List (Option Bool)) →
    nodes_of (Split variable zero one) box ≡ (box, Split_node variable) ∷ (nodes_of zero (fix box variable false) ++ nodes_of one (fix box variable true))
unfolding hidden-the_row-Tree-0 hidden
nodes_of-Split variable zero one box = refl

-- how many nodes a tree has, whatever its box
abbrev pub node_count : Tree → ℕ
node_count tree = length (nodes_of tree [])

-- A leaf refutes its box, a split names an open variable, and no end is left open.
abbrev pub IsSoundNode : Program → List (Option Bool) → Node → Type 0
IsSoundNode program box (Leaf_node weights) = RefutesBox program box weights
IsSoundNode program box (Split_node variable) = IsOpen program box variable
IsSoundNode program box Open_end = ⊥

-- each node of the tree is sound, so that the box has no solution
abbrev pub Refutes : Program → Tree → List (Option Bool) → Type 0
Refutes program tree box = AllByRecursion (λ node. IsSoundNode program node.0 node.1) (nodes_of tree box)

-- the box that fixes nothing
abbrev pub root_box : Program → List (Option Bool)
root_box program = map (λ _. None) program.upper

-- the first node, in preorder, that is not sound
pub record FailsAt (program : Program) (tree : Tree) (box : List (Option Bool)) (k : ℕ) : Type 0 where
  pub node : List (Option Bool) × Node
  pub stands : slice_get (nodes_of tree box) k ≡ Some node
  pub fails : ¬ IsSoundNode program node.0 node.1
  pub before : AllByRecursion (λ n. IsSoundNode program n.0 n.1) (take k (nodes_of tree box))

-- What a search may leave in a tree.

-- some variable is open
pub record HasOpen (program : Program) (box : List (Option Bool)) : Type 0 where
  pub variable : ℕ
  pub is_open : IsOpen program box variable

-- a box of the program, which fixes no variable to 1 that may not be 1
pub record IsBox (program : Program) (box : List (Option Bool)) : Type 0 where
  pub size : length box ≡ variables program
  pub within : (variable : ℕ) → fixed_at box variable ≡ Some true →
      is_chosen program.upper variable ≡ true

abbrev pub is_open_end : Node → Bool
is_open_end (Leaf_node weights) = false
is_open_end (Split_node variable) = false
is_open_end Open_end = true

abbrev pub has_open_end : List (List (Option Bool) × Node) → Bool
has_open_end nodes = list_any (λ node. is_open_end node.1) nodes

-- A leaf refutes its box, and where a box is split or left open it has an open variable and is not
-- easy.
abbrev pub IsKeptNode : Program → (List (Option Bool) → Type 0) → List (Option Bool) → Node → Type 0
IsKeptNode program easy box (Leaf_node weights) = RefutesBox program box weights
IsKeptNode program easy box (Split_node variable) = IsOpen program box variable × (¬ easy box)
IsKeptNode program easy box Open_end = HasOpen program box × (¬ easy box)
