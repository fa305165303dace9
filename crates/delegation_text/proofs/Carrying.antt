-- From elements to nodes as they are written, and from these to entries.
use Rattle.std.proofs.Common.{◌≡◌, ℕ, suc, ◌<◌, List, [], ◌∷◌, length, map, slice_get, codes, Option, None, Some, refl, sym, ◌∙◌, ap₂, subst, arith}
use Rattle.std.specs.String.{string_bytes}
use Rattle.std.specs.List.{AllZip}
use Rattle.std.proofs.lemmas.Option.{slice_get_within}
use Rattle.serde_json.specs.Data.{Data}
use Rattle.merlin_model.specs.Networks.{AreDifferent}
use Rattle.delegation_text.specs.declared.entry.TreeEntry.{TreeEntry}
use Rattle.delegation_text.specs.declared.written.Above.{Above}
use Rattle.delegation_text.specs.declared.written.WrittenNode.{WrittenNode}
use Rattle.delegation_text.specs.declared.fault.NodePart.{NodePart}
use Rattle.delegation_text.specs.declared.fault.NodePartFault.{NodePartFault}
use Rattle.delegation_text.specs.declared.fault.NodePartFault.TheVariants as part
use Rattle.delegation_text.specs.declared.fault.EntryFault.{EntryFault}
use Rattle.delegation_text.specs.declared.fault.EntryFault.TheVariants.{Json, Shape, DuplicateName, UnknownNode, TooManyNodes, OutOfMemory}
use Rattle.topology_shape.specs.Json.{IsJson, HasText, HasItems}
use Rattle.topology_shape.specs.Format.{HasName}
use Rattle.topology_shape.proofs.Elements.{items_one}
use Rattle.delegation_text.specs.Members.{HasSomeText, HasNodeMembers, IsWrongNodePart, node_words, HasWrongNode}
use Rattle.delegation_text.specs.Trees.{entry_names, IsUnderParent, IsDelegationText, HasTreeShape, IsFirstUnknownParent, NamesEarlierNode, AllNameEarlierNodes, RefusesTreeText}
use Rattle.delegation_text.specs.Alongside.{HasAbove, IsWrittenNode, AreNodesOf, DescribesNodes, written_names, IsParentFor, scope_above, IsEntryFor, AreEntriesFor, IsTreeFor, IsLost, IsFirstLost, AllFound, RefusesNodes}
use Rattle.delegation_text.specs.Failing.{FailsAsMisshapen, FailsAsNodePart, FailsAsUnknownNode}
use Rattle.delegation_text.proofs.Growing.{AreBeside, there, beside-at}

pub misshapen-weaker : (P Q : List ℕ → Type 0) → ((words : List ℕ) → P words → Q words) → (fault : EntryFault) → FailsAsMisshapen P fault → FailsAsMisshapen Q fault
misshapen-weaker P Q f Json h = h
misshapen-weaker P Q f (Shape what) h = f what h
misshapen-weaker P Q f (DuplicateName name) h = h
misshapen-weaker P Q f (UnknownNode name) h = h
misshapen-weaker P Q f (TooManyNodes count) h = h
misshapen-weaker P Q f OutOfMemory h = h

pub unknown-weaker : (P Q : List ℕ → Type 0) → ((name : List ℕ) → P name → Q name) → (fault : EntryFault) → FailsAsUnknownNode P fault → FailsAsUnknownNode Q fault
unknown-weaker P Q f Json h = h
unknown-weaker P Q f (Shape what) h = h
unknown-weaker P Q f (DuplicateName name) h = h
unknown-weaker P Q f (UnknownNode name) h = f name h
unknown-weaker P Q f (TooManyNodes count) h = h
unknown-weaker P Q f OutOfMemory h = h

pub wrong-part : (P : NodePart → Type 0) (fault : NodePartFault) (which : NodePart) → fault ≡ part.Wrong which → FailsAsNodePart P fault → P which
wrong-part P fault which e h = subst (λ (f : NodePartFault). FailsAsNodePart P f) e h

pub has-members : (place : ℕ) (d : Data) (node : WrittenNode) → IsWrittenNode place d node → HasNodeMembers place d
has-members place d node w = record {
  object = w.object;
  name = (node.name, w.name);
  policy = (string_bytes node.policy, w.policy);
  parent = λ l. (by node.above w.above l).0;
  scope = λ l. (by node.above w.above l).1;
}
  where
    by : (o : Option Above) → HasAbove place d o → 0 < place → HasSomeText (codes "parent") d × HasSomeText (codes "scope") d
    by None h l = let no : ⊥ = omega arith in absurd no
    by (Some above) h l = ((above.parent, h.1), (above.scope, h.2))

-- an array that is empty, in whatever way it is seen
pub empty-array : {V : Type 0} (view : V → Data) (d : Data) (vs : List V) → HasItems (codes "nodes") d (map view vs) → length vs ≡ 0 → (items : List Data) → HasItems (codes "nodes") d items → items ≡ []
empty-array {V} view d vs has e items h = items_one (codes "nodes") d items (map view vs) h has ∙ none vs e
  where
    none : (us : List V) → length us ≡ 0 → map view us ≡ []
    none [] z = refl
    none (u ∷ us) z = let no : ⊥ = omega arith in absurd no

-- the first element that is wrong
pub wrong-node : (items : List Data) (n : ℕ) (nodes : List WrittenNode) (item : Data) (which : NodePart) (what : List ℕ) → AreBeside IsWrittenNode items n nodes → slice_get items n ≡ Some item → IsWrongNodePart n item which → what ≡ node_words n which →
    HasWrongNode items what
wrong-node items n nodes item which what so at wrong words = record {
  place = n;
  item = item;
  stands = at;
  part = which;
  wrong = wrong;
  before = λ i d l s. let node = beside-at IsWrittenNode items n nodes so i d l s in has-members i d node.0 node.1;
  words = words;
}

pub all-written : (items : List Data) (n : ℕ) (nodes : List WrittenNode) → AreBeside IsWrittenNode items n nodes → n ≡ length items → AreNodesOf items nodes
all-written items n nodes so e = record { as_many = so.as_many ∙ e; each = so.each }

pub all-entries : (names : List (List ℕ)) (nodes : List WrittenNode) (n : ℕ) (entries : List TreeEntry) → AreBeside (IsEntryFor names) nodes n entries → n ≡ length nodes → AreEntriesFor names nodes entries
all-entries names nodes n entries so e = record { as_many = so.as_many ∙ e; each = so.each }

-- a node that is lost after others that are not
pub first-lost : (names : List (List ℕ)) (nodes : List WrittenNode) (n : ℕ) (entries : List TreeEntry) (node : WrittenNode) (name : List ℕ) → AreBeside (IsEntryFor names) nodes n entries → slice_get nodes n ≡ Some node → IsLost names n node.above name → IsFirstLost names nodes name
first-lost names nodes n entries node name so at lost = record {
  place = n;
  node = node;
  stands = at;
  lost = lost;
  before = λ i x l s. let e = beside-at (IsEntryFor names) nodes n entries so i x l s in (e.0.parent, e.1.parent);
}

pub found-all : (names : List (List ℕ)) (nodes : List WrittenNode) (entries : List TreeEntry) → AreEntriesFor names nodes entries → AllFound names nodes
found-all names nodes entries are i node s = let e = there entries i (let a = are.as_many in let l = slice_get_within nodes i node s in omega arith) in (e.0.parent, (are.each i node e.0 s e.1).parent)

-- Elements beside their nodes.

named-zip : (items : List Data) (nodes : List WrittenNode) → length nodes ≡ length items → ((k : ℕ) (d : Data) (node : WrittenNode) → slice_get items k ≡ Some d → slice_get nodes k ≡ Some node → HasName d node.name) → AllZip HasName items (written_names nodes)
named-zip [] [] l h = tt
named-zip [] (n ∷ nodes) l h = let no : ⊥ = omega arith in absurd no
named-zip (i ∷ items) [] l h = let no : ⊥ = omega arith in absurd no
named-zip (i ∷ items) (n ∷ nodes) l h = (h 0 i n refl refl, named-zip items nodes (omega arith) (λ k d node s t. h (suc k) d node s t))

names-earlier : (names : List (List ℕ)) (place : ℕ) (d : Data) (above : Option Above) (parent : Option ℕ) → 0 < place → HasAbove place d above → IsParentFor names place above parent → NamesEarlierNode names place d
names-earlier names place d None parent l h p = let no : ⊥ = omega arith in absurd no
names-earlier names place d (Some above) parent l h p = record { name = above.parent; named = h.1; parent = p.0; earlier = p.2 }

module _ (bytes : List ℕ) (value : Data) (text : IsJson bytes value) (nodes : List WrittenNode) (are : DescribesNodes value nodes) where
  abbrev names : List (List ℕ)
  names = written_names nodes

  item-at : (k : ℕ) (node : WrittenNode) → slice_get nodes k ≡ Some node → (d : Data) × (slice_get are.items k ≡ Some d)
  item-at k node s = there are.items k (let a = are.described.as_many in let l = slice_get_within nodes k node s in omega arith)

  node-at : (k : ℕ) (d : Data) → slice_get are.items k ≡ Some d → (node : WrittenNode) × (slice_get nodes k ≡ Some node)
  node-at k d s = there nodes k (let a = are.described.as_many in let l = slice_get_within are.items k d s in omega arith)

  shape : HasTreeShape bytes are.items (written_names nodes)
  shape = record {
    value = value;
    text = text;
    object = are.object;
    has = are.has;
    some = are.some;
    each = λ k d s. let node = node-at k d s in has-members k d node.0 (are.described.each k d node.0 s node.1);
    named = named-zip are.items nodes are.described.as_many (λ k d node s t. (are.described.each k d node s t).name);
  }

  lost-one : (name : List ℕ) → IsFirstLost (written_names nodes) nodes name → IsFirstUnknownParent are.items (written_names nodes) name
  lost-one name f =
      let d = item-at f.place f.node f.stands in
      let w = are.described.each f.place d.0 f.node d.1 f.stands in
      let above : HasAbove f.place d.0 (Some f.lost.written) = subst (HasAbove f.place d.0) f.lost.is_written w.above in
      record {
        place = f.place;
        item = d.0;
        stands = d.1;
        later = above.0;
        named = subst (λ (t : List ℕ). HasText (codes "parent") d.0 t) f.lost.named above.1;
        unknown = f.lost.unknown;
        before = λ i x p l s.
            let node = node-at i x s in
            let parent = f.before i node.0 l node.1 in
            names-earlier (written_names nodes) i x node.0.above parent.0 p (are.described.each i x node.0 s node.1).above parent.1;
      }

  all-earlier : AllFound (written_names nodes) nodes → AllNameEarlierNodes are.items (written_names nodes)
  all-earlier found i d p s =
      let node = node-at i d s in
      let parent = found i node.0 node.1 in
      names-earlier (written_names nodes) i d node.0.above parent.0 p (are.described.each i d node.0 s node.1).above parent.1

  -- what nodes are refused for, their bytes are refused for
  pub refuses : (fault : EntryFault) → RefusesNodes nodes fault → RefusesTreeText bytes fault
  refuses Json h = absurd h
  refuses (Shape what) h = absurd h
  refuses (DuplicateName name) h = (are.items, written_names nodes, shape, h)
  refuses (UnknownNode name) h = (are.items, written_names nodes, shape, (h.0, lost-one name h.1))
  refuses (TooManyNodes count) h = (are.items, written_names nodes, shape, (h.0, all-earlier h.1, (let a = are.described.as_many in let l = h.2 in omega arith), h.3))
  refuses OutOfMemory h = tt

  names-same : (ns : List WrittenNode) (es : List TreeEntry) → length es ≡ length ns → ((k : ℕ) (n : WrittenNode) (e : TreeEntry) → slice_get ns k ≡ Some n → slice_get es k ≡ Some e → e.name ≡ n.name) → entry_names es ≡ written_names ns
  names-same [] [] l h = refl
  names-same [] (e ∷ es) l h = let no : ⊥ = omega arith in absurd no
  names-same (n ∷ ns) [] l h = let no : ⊥ = omega arith in absurd no
  names-same (n ∷ ns) (e ∷ es) l h = ap₂ (λ z zs. z ∷ zs) (h 0 n e refl refl) (names-same ns es (omega arith) (λ k m f s t. h (suc k) m f s t))

  first-one : (k : ℕ) (d : Data) (e : TreeEntry) (above : Option Above) → HasAbove k d above → k ≡ 0 → IsParentFor names k above e.parent → e.scope ≡ scope_above above → (e.parent ≡ None) × (e.scope ≡ [])
  first-one k d e None h z p scope = (p, scope)
  first-one k d e (Some above) h z p scope = let l = h.0 in let no : ⊥ = omega arith in absurd no

  under-one : (k : ℕ) (d : Data) (e : TreeEntry) (above : Option Above) → HasAbove k d above → 0 < k → IsParentFor names k above e.parent → e.scope ≡ scope_above above → IsUnderParent names k d e
  under-one k d e None h l p scope = let no : ⊥ = omega arith in absurd no
  under-one k d e (Some above) h l p scope = record {
    parent = p.0;
    is_parent = p.1;
    name = above.parent;
    named = h.1;
    earlier = p.2;
    scope = subst (λ (t : List ℕ). HasText (codes "scope") d t) (sym scope) h.2;
  }

  -- what nodes give, their bytes stand for
  pub as-text : (entries : List TreeEntry) → IsTreeFor nodes entries → IsDelegationText bytes entries
  as-text entries is = (
    value,
    text,
    record {
      object = are.object;
      items = are.items;
      has = are.has;
      as_many = is.given.as_many ∙ are.described.as_many;
      each = λ k d e s t.
          let node = node-at k d s in
          let w = are.described.each k d node.0 s node.1 in
          let f = is.given.each k node.0 e node.1 t in
          record {
            object = w.object;
            name = subst (HasName d) (sym f.name) w.name;
            policy = subst (λ (p : List ℕ). HasText (codes "policy") d p) (sym f.policy) w.policy;
            first = λ z. first-one k d e node.0.above w.above z f.parent f.scope;
            later = λ l. subst (λ (ns : List (List ℕ)). IsUnderParent ns k d e) (sym same) (under-one k d e node.0.above w.above l f.parent f.scope);
          };
      differ = subst AreDifferent (sym same) is.differ;
      some = (let a = is.given.as_many in let b = are.described.as_many in let c = are.some in omega arith);
      few = (let a = is.given.as_many in let b = is.few in omega arith);
    },
  )
    where
      same : entry_names entries ≡ written_names nodes
      same = names-same nodes entries is.given.as_many (λ k n e s t. (is.given.each k n e s t).name)
