-- What the element of a node must have, and which part of it is the first that is missing or wrong.
use Rattle.std.specs.Prelude.{◌≡◌, ◌<◌, ◌⊎◌, ℕ, List, [], ◌++◌, codes, Some, slice_get}
use Rattle.std.specs.Fmt.{decimal}
use Rattle.serde_json.specs.Data.{Data}
use Rattle.delegation_text.specs.declared.fault.NodePart.{NodePart}
use Rattle.delegation_text.specs.declared.fault.NodePart.TheVariants.{Itself, Name, Policy, Parent, Scope}
use Rattle.topology_shape.specs.Json.{IsObject, HasText, HasItems}
use Rattle.topology_shape.specs.Format.{HasName}

-- the member of this name is a text
abbrev pub HasSomeText : List ℕ → Data → Type 0
HasSomeText key d = (text : List ℕ) × HasText key d text

abbrev pub HasSomeName : Data → Type 0
HasSomeName d = (name : List ℕ) × HasName d name

-- The element at a place describes a node. What the first says of a parent and a scope is passed over, since it is under no other.
pub record HasNodeMembers (place : ℕ) (d : Data) : Type 0 where
  pub object : IsObject d
  pub name : HasSomeName d
  pub policy : HasSomeText (codes "policy") d
  pub parent : 0 < place → HasSomeText (codes "parent") d
  pub scope : 0 < place → HasSomeText (codes "scope") d

-- the parent is missing or wrong, or else the scope
abbrev pub IsWrongAbove : ℕ → Data → NodePart → Type 0
IsWrongAbove place d Itself = ⊥
IsWrongAbove place d Name = ⊥
IsWrongAbove place d Policy = ⊥
IsWrongAbove place d Parent = (0 < place) × ((text : List ℕ) → ¬ HasText (codes "parent") d text)
IsWrongAbove place d Scope =
    (0 < place) × HasSomeText (codes "parent") d × ((text : List ℕ) → ¬ HasText (codes "scope") d text)

-- This part is missing or wrong, and those before it are right.
abbrev pub IsWrongNodePart : ℕ → Data → NodePart → Type 0
IsWrongNodePart place d Itself = ¬ IsObject d
IsWrongNodePart place d Name = IsObject d × ((name : List ℕ) → ¬ HasName d name)
IsWrongNodePart place d Policy = IsObject d × HasSomeName d × ((text : List ℕ) → ¬ HasText (codes "policy") d text)
IsWrongNodePart place d Parent = IsObject d × HasSomeName d × HasSomeText (codes "policy") d × IsWrongAbove place d Parent
IsWrongNodePart place d Scope = IsObject d × HasSomeName d × HasSomeText (codes "policy") d × IsWrongAbove place d Scope

-- the words for a part, behind those for its element
abbrev pub node_part_words : NodePart → List ℕ
node_part_words Itself = []
node_part_words Name = codes ".name"
node_part_words Policy = codes ".policy"
node_part_words Parent = codes ".parent"
node_part_words Scope = codes ".scope"

-- the words for the element at a place, as nodes[2], or a part of it, as nodes[2].scope
abbrev pub node_words : ℕ → NodePart → List ℕ
node_words place part = codes "nodes[" ++ (decimal place ++ (codes "]" ++ node_part_words part))

-- The first element that is wrong gives the words.
pub record HasWrongNode (items : List Data) (what : List ℕ) : Type 0 where
  pub place : ℕ
  pub item : Data
  pub stands : slice_get items place ≡ Some item
  pub part : NodePart
  pub wrong : IsWrongNodePart place item part
  pub before : (i : ℕ) (d : Data) → i < place → slice_get items i ≡ Some d → HasNodeMembers i d
  pub words : what ≡ node_words place part

-- The member `nodes` is missing, no array or empty, or else it is an array with a wrong element.
abbrev pub AreWrongNodes : Data → List ℕ → Type 0
AreWrongNodes d what =
    ((what ≡ codes "nodes") × ((items : List Data) → HasItems (codes "nodes") d items → items ≡ []))
    ⊎ ((items : List Data) × HasItems (codes "nodes") d items × HasWrongNode items what)

-- These are the words for the first part of the value that is missing or wrong.
abbrev pub IsMisshapenTree : Data → List ℕ → Type 0
IsMisshapenTree d what = ((what ≡ codes "top") × ¬ IsObject d) ⊎ (IsObject d × AreWrongNodes d what)
