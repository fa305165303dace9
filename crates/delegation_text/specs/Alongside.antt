-- Nodes as they are written, between the elements that describe them and the entries that they give.
use Rattle.std.specs.Prelude.{◌≡◌, ◌<◌, ◌≤◌, ◌+◌, ⊤, ℕ, List, [], map, length, codes, Option, None, Some, slice_get, Vec}
use Rattle.std.specs.declared.alloc.Global.{Global}
use Rattle.std.specs.String.{string_bytes}
use Rattle.serde_json.specs.Data.{Data}
use Rattle.merlin_model.specs.Networks.{AreDifferent}
use Rattle.delegation_text.specs.declared.limits.TheConstants.{MAX_TREE_NODES}
use Rattle.delegation_text.specs.declared.entry.TreeEntry.{TreeEntry}
use Rattle.delegation_text.specs.declared.written.Above.{Above}
use Rattle.delegation_text.specs.declared.written.WrittenNode.{WrittenNode}
use Rattle.delegation_text.specs.declared.fault.EntryFault.{EntryFault}
use Rattle.delegation_text.specs.declared.fault.EntryFault.TheVariants.{Json, Shape, DuplicateName, UnknownNode, TooManyNodes, OutOfMemory}
use Rattle.topology_shape.specs.Json.{IsObject, HasText, HasItems}
use Rattle.topology_shape.specs.Format.{HasName}
use Rattle.delegation_text.specs.Trees.{IsEarlierNode, IsFirstDoubled}

-- From the elements.

-- what the element at a place says of a parent and a scope, but for the first
abbrev pub HasAbove : ℕ → Data → Option Above → Type 0
HasAbove place d None = place ≡ 0
HasAbove place d (Some above) =
    (0 < place) × HasText (codes "parent") d above.parent × HasText (codes "scope") d above.scope

pub record IsWrittenNode (place : ℕ) (d : Data) (node : WrittenNode) : Type 0 where
  pub object : IsObject d
  pub name : HasName d node.name
  pub policy : HasText (codes "policy") d (string_bytes node.policy)
  pub above : HasAbove place d node.above

-- each element describes the node at its place
pub record AreNodesOf (items : List Data) (nodes : List WrittenNode) : Type 0 where
  pub as_many : length nodes ≡ length items
  pub each : (k : ℕ) (d : Data) (node : WrittenNode) → slice_get items k ≡ Some d → slice_get nodes k ≡ Some node → IsWrittenNode k d node

-- the value describes these nodes
pub record DescribesNodes (value : Data) (nodes : List WrittenNode) : Type 0 where
  pub object : IsObject value
  pub items : List Data
  pub has : HasItems (codes "nodes") value items
  pub some : 0 < length items
  pub described : AreNodesOf items nodes

abbrev pub written_names : List WrittenNode → List (List ℕ)
written_names nodes = map (λ node. node.name) nodes

-- the texts that a table has as keys
abbrev pub names_kept : List (Vec ℕ Global) → List (List ℕ)
names_kept keys = map (λ key. key.items) keys

-- To the entries.

-- the place of the earlier node that is named; where none is named, none
abbrev pub IsParentFor : List (List ℕ) → ℕ → Option Above → Option ℕ → Type 0
IsParentFor names place None parent = parent ≡ None
IsParentFor names place (Some above) parent = (k : ℕ) × (parent ≡ Some k) × IsEarlierNode names place above.parent k

abbrev pub scope_above : Option Above → List ℕ
scope_above None = []
scope_above (Some above) = above.scope

pub record IsEntryFor (names : List (List ℕ)) (place : ℕ) (node : WrittenNode) (entry : TreeEntry) : Type 0 where
  pub name : entry.name ≡ node.name
  pub policy : string_bytes entry.policy ≡ string_bytes node.policy
  pub parent : IsParentFor names place node.above entry.parent
  pub scope : entry.scope ≡ scope_above node.above

pub record AreEntriesFor (names : List (List ℕ)) (nodes : List WrittenNode) (entries : List TreeEntry) : Type 0 where
  pub as_many : length entries ≡ length nodes
  pub each : (k : ℕ) (node : WrittenNode) (entry : TreeEntry) → slice_get nodes k ≡ Some node → slice_get entries k ≡ Some entry →
      IsEntryFor names k node entry

pub record IsTreeFor (nodes : List WrittenNode) (entries : List TreeEntry) : Type 0 where
  pub differ : AreDifferent (written_names nodes)
  pub given : AreEntriesFor (written_names nodes) nodes entries
  pub few : length nodes ≤ MAX_TREE_NODES

-- Why they give none.

-- what is named is no earlier node
pub record IsLost (names : List (List ℕ)) (place : ℕ) (above : Option Above) (name : List ℕ) : Type 0 where
  pub written : Above
  pub is_written : above ≡ Some written
  pub named : written.parent ≡ name
  pub unknown : (k : ℕ) → ¬ IsEarlierNode names place name k

-- the first node whose parent is no earlier node
pub record IsFirstLost (names : List (List ℕ)) (nodes : List WrittenNode) (name : List ℕ) : Type 0 where
  pub place : ℕ
  pub node : WrittenNode
  pub stands : slice_get nodes place ≡ Some node
  pub lost : IsLost names place node.above name
  pub before : (i : ℕ) (n : WrittenNode) → i < place → slice_get nodes i ≡ Some n →
      (parent : Option ℕ) × IsParentFor names i n.above parent

abbrev pub AllFound : List (List ℕ) → List WrittenNode → Type 0
AllFound names nodes =
    (i : ℕ) (node : WrittenNode) → slice_get nodes i ≡ Some node →
    (parent : Option ℕ) × IsParentFor names i node.above parent

abbrev pub RefusesNodes : List WrittenNode → EntryFault → Type 0
RefusesNodes nodes Json = ⊥
RefusesNodes nodes (Shape what) = ⊥
RefusesNodes nodes (DuplicateName name) = IsFirstDoubled (written_names nodes) name
RefusesNodes nodes (UnknownNode name) = AreDifferent (written_names nodes) × IsFirstLost (written_names nodes) nodes name
RefusesNodes nodes (TooManyNodes count) =
    AreDifferent (written_names nodes) × AllFound (written_names nodes) nodes × (MAX_TREE_NODES < length nodes)
    × (count ≡ MAX_TREE_NODES + 1)
RefusesNodes nodes OutOfMemory = ⊤
