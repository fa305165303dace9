-- Which text stands for which delegation tree, and why another is refused.
use Rattle.std.specs.Prelude.{◌≡◌, ◌<◌, ◌≤◌, ◌+◌, ⊤, ℕ, suc, List, [], map, length, take, codes, None, Some, slice_get}
use Rattle.std.specs.List.{AllByRecursion, AllZip}
use Rattle.std.specs.String.{string_bytes}
use Rattle.serde_json.specs.Data.{Data}
use Rattle.merlin_base.specs.Lexemes.{IsName}
use Rattle.merlin_model.specs.Networks.{AreDifferent}
use Rattle.delegation_text.specs.declared.limits.TheConstants.{MAX_TREE_NODES}
use Rattle.delegation_text.specs.declared.entry.TreeEntry.{TreeEntry}
use Rattle.delegation_text.specs.declared.fault.EntryFault.{EntryFault}
use Rattle.delegation_text.specs.declared.fault.EntryFault.TheVariants.{Json, Shape, DuplicateName, UnknownNode, TooManyNodes, OutOfMemory}
use Rattle.topology_shape.specs.Json.{IsJson, IsObject, HasText, HasItems}
use Rattle.topology_shape.specs.Format.{HasName}
use Rattle.delegation_text.specs.Members.{HasNodeMembers, IsMisshapenTree}

abbrev pub entry_names : List TreeEntry → List (List ℕ)
entry_names entries = map (λ entry. entry.name) entries

-- the node at place k has this name, and stands before a place
abbrev pub IsEarlierNode : List (List ℕ) → ℕ → List ℕ → ℕ → Type 0
IsEarlierNode names place name k = (k < place) × (slice_get names k ≡ Some name)

-- An entry is under the earlier node that its element names as its parent, and has the scope that stands there.
pub record IsUnderParent (names : List (List ℕ)) (place : ℕ) (d : Data) (entry : TreeEntry) : Type 0 where
  pub parent : ℕ
  pub is_parent : entry.parent ≡ Some parent
  pub name : List ℕ
  pub named : HasText (codes "parent") d name
  pub earlier : IsEarlierNode names place name parent
  pub scope : HasText (codes "scope") d entry.scope

-- The element at a place describes the entry, where the nodes have these names.
pub record IsEntryBeside (names : List (List ℕ)) (place : ℕ) (d : Data) (entry : TreeEntry) : Type 0 where
  pub object : IsObject d
  pub name : HasName d entry.name
  pub policy : HasText (codes "policy") d (string_bytes entry.policy)
  pub first : place ≡ 0 → (entry.parent ≡ None) × (entry.scope ≡ [])
  pub later : 0 < place → IsUnderParent names place d entry

-- The value is an object whose member `nodes` is an array, each element beside its entry. There is one node at least, there are not too many, and no two
-- have one name.
pub record AreTreeEntries (value : Data) (entries : List TreeEntry) : Type 0 where
  pub object : IsObject value
  pub items : List Data
  pub has : HasItems (codes "nodes") value items
  pub as_many : length entries ≡ length items
  pub each : (k : ℕ) (d : Data) (entry : TreeEntry) → slice_get items k ≡ Some d → slice_get entries k ≡ Some entry →
      IsEntryBeside (entry_names entries) k d entry
  pub differ : AreDifferent (entry_names entries)
  pub some : 0 < length entries
  pub few : length entries ≤ MAX_TREE_NODES

-- the bytes are a JSON text that stands for these entries
abbrev pub IsDelegationText : List ℕ → List TreeEntry → Type 0
IsDelegationText bytes entries = (value : Data) × IsJson bytes value × AreTreeEntries value entries

-- What is so of entries that a text stands for.

-- the same in every word
pub record IsSameEntry (a b : TreeEntry) : Type 0 where
  pub name : a.name ≡ b.name
  pub policy : string_bytes a.policy ≡ string_bytes b.policy
  pub parent : a.parent ≡ b.parent
  pub scope : a.scope ≡ b.scope

abbrev pub AreSameEntries : List TreeEntry → List TreeEntry → Type 0
AreSameEntries entries others = AllZip IsSameEntry entries others

-- the entry at a place is under an earlier one
pub record IsUnderEarlier (place : ℕ) (entry : TreeEntry) : Type 0 where
  pub parent : ℕ
  pub is_parent : entry.parent ≡ Some parent
  pub earlier : parent < place

-- One entry at least and not too many, with names that differ. The first is under no other and has no scope, and each other is under an earlier one.
pub record AreKeptEntries (entries : List TreeEntry) : Type 0 where
  pub some : 0 < length entries
  pub few : length entries ≤ MAX_TREE_NODES
  pub names : AllByRecursion (λ entry. IsName entry.name) entries
  pub differ : AreDifferent (entry_names entries)
  pub root : (entry : TreeEntry) → slice_get entries 0 ≡ Some entry → (entry.parent ≡ None) × (entry.scope ≡ [])
  pub parents : (k : ℕ) (entry : TreeEntry) → slice_get entries (suc k) ≡ Some entry → IsUnderEarlier (suc k) entry

-- Why a text is refused.

-- The text has the shape of a tree: an object whose member `nodes` is an array of these elements, one at least, each with what it must have, with these names.
pub record HasTreeShape (bytes : List ℕ) (items : List Data) (names : List (List ℕ)) : Type 0 where
  pub value : Data
  pub text : IsJson bytes value
  pub object : IsObject value
  pub has : HasItems (codes "nodes") value items
  pub some : 0 < length items
  pub each : (k : ℕ) (d : Data) → slice_get items k ≡ Some d → HasNodeMembers k d
  pub named : AllZip HasName items names

-- the first name that stands before it too
pub record IsFirstDoubled (names : List (List ℕ)) (name : List ℕ) : Type 0 where
  pub place : ℕ
  pub stands : slice_get names place ≡ Some name
  pub earlier : ℕ
  pub before : earlier < place
  pub same : slice_get names earlier ≡ Some name
  pub apart : AreDifferent (take place names)

-- an element after the first names an earlier node as its parent
pub record NamesEarlierNode (names : List (List ℕ)) (place : ℕ) (d : Data) : Type 0 where
  pub name : List ℕ
  pub named : HasText (codes "parent") d name
  pub parent : ℕ
  pub earlier : IsEarlierNode names place name parent

-- The first element whose parent is no earlier node names it so.
pub record IsFirstUnknownParent (items : List Data) (names : List (List ℕ)) (name : List ℕ) : Type 0 where
  pub place : ℕ
  pub item : Data
  pub stands : slice_get items place ≡ Some item
  pub later : 0 < place
  pub named : HasText (codes "parent") item name
  pub unknown : (k : ℕ) → ¬ IsEarlierNode names place name k
  pub before : (i : ℕ) (d : Data) → 0 < i → i < place → slice_get items i ≡ Some d → NamesEarlierNode names i d

-- every element after the first names an earlier node as its parent
abbrev pub AllNameEarlierNodes : List Data → List (List ℕ) → Type 0
AllNameEarlierNodes items names =
    (i : ℕ) (d : Data) → 0 < i → slice_get items i ≡ Some d → NamesEarlierNode names i d

-- which rule the elements break, of those that are asked once all elements are right: each only where those before it are kept
abbrev pub BreaksNodeRule : List Data → List (List ℕ) → EntryFault → Type 0
BreaksNodeRule items names Json = ⊥
BreaksNodeRule items names (Shape what) = ⊥
BreaksNodeRule items names (DuplicateName name) = IsFirstDoubled names name
BreaksNodeRule items names (UnknownNode name) = AreDifferent names × IsFirstUnknownParent items names name
BreaksNodeRule items names (TooManyNodes count) =
    AreDifferent names × AllNameEarlierNodes items names × (MAX_TREE_NODES < length items)
    × (count ≡ MAX_TREE_NODES + 1)
BreaksNodeRule items names OutOfMemory = ⊤

abbrev pub BreaksRuleOfNodes : List ℕ → EntryFault → Type 0
BreaksRuleOfNodes bytes fault =
    (items : List Data) × (names : List (List ℕ)) × HasTreeShape bytes items names × BreaksNodeRule items names fault

-- Why bytes are refused. Want of memory has no cause.
abbrev pub RefusesTreeText : List ℕ → EntryFault → Type 0
RefusesTreeText bytes Json = (value : Data) → ¬ IsJson bytes value
RefusesTreeText bytes (Shape what) = (value : Data) × IsJson bytes value × IsMisshapenTree value what
RefusesTreeText bytes (DuplicateName name) = BreaksRuleOfNodes bytes (DuplicateName name)
RefusesTreeText bytes (UnknownNode name) = BreaksRuleOfNodes bytes (UnknownNode name)
RefusesTreeText bytes (TooManyNodes count) = BreaksRuleOfNodes bytes (TooManyNodes count)
RefusesTreeText bytes OutOfMemory = ⊤
