-- A text stands for one list of entries, and is not refused besides.
use Rattle.std.proofs.Common.{◌≡◌, ◌≢◌, ℕ, zero, suc, inl, inr, List, [], ◌∷◌, length, slice_get, codes, Some, unwrap_or, refl, sym, ◌∙◌, ap, ap₂, subst, arith}
use Rattle.std.specs.String.{string_bytes}
use Rattle.std.specs.List.{AllByRecursion, AllZip}
use Rattle.std.proofs.lemmas.Option.{slice_get_within}
use Rattle.serde_json.specs.Data.{Data}
use Rattle.merlin_base.specs.Lexemes.{IsName}
use Rattle.merlin_model.specs.Networks.{AreDifferent}
use Rattle.delegation_text.specs.declared.entry.TreeEntry.{TreeEntry}
use Rattle.delegation_text.specs.declared.fault.NodePart.{NodePart}
use Rattle.delegation_text.specs.declared.fault.NodePart.TheVariants.{Itself, Name, Policy, Parent, Scope}
use Rattle.delegation_text.specs.declared.fault.EntryFault.{EntryFault}
use Rattle.delegation_text.specs.declared.fault.EntryFault.TheVariants.{Json, Shape, DuplicateName, UnknownNode, TooManyNodes, OutOfMemory}
use Rattle.topology_shape.specs.Json.{IsJson, HasItems}
use Rattle.topology_shape.specs.Format.{HasName}
use Rattle.topology_shape.proofs.Told.{some_one}
use Rattle.topology_shape.proofs.Elements.{items_one}
use Rattle.delegation_text.specs.Members.{IsWrongNodePart, IsMisshapenTree}
use Rattle.delegation_text.specs.Trees.{entry_names, IsEntryBeside, AreTreeEntries, IsDelegationText, IsSameEntry, AreSameEntries, AreKeptEntries, HasTreeShape, IsFirstDoubled, IsFirstUnknownParent, RefusesTreeText}
use Rattle.delegation_text.proofs.Growing.{there}

json-one : (bytes : List ℕ) (a b : Data) → IsJson bytes a → IsJson bytes b → a ≡ b
json-one bytes a b p q = some_one p.1 q.1

-- names that differ stand once
differ-at : (x : List ℕ) (xs : List (List ℕ)) (j : ℕ) → AllByRecursion (λ y. x ≢ y) xs → slice_get xs j ≡ Some x → ⊥
differ-at x [] j all e = cc
differ-at x (y ∷ xs) zero all e = all.0 (sym (ap (λ o. unwrap_or o y) e))
differ-at x (y ∷ xs) (suc j) all e = differ-at x xs j all.1 e

place-once : (xs : List (List ℕ)) (i j : ℕ) (x : List ℕ) → AreDifferent xs → slice_get xs i ≡ Some x → slice_get xs j ≡ Some x → i ≡ j
place-once [] i j x d e f = let no : ⊥ = cc in absurd no
place-once (z ∷ xs) zero zero x d e f = refl
place-once (z ∷ xs) zero (suc j) x d e f = absurd (differ-at z xs j d.0 (f ∙ ap Some (sym (ap (λ o. unwrap_or o z) e))))
place-once (z ∷ xs) (suc i) zero x d e f = absurd (differ-at z xs i d.0 (e ∙ ap Some (sym (ap (λ o. unwrap_or o z) f))))
place-once (z ∷ xs) (suc i) (suc j) x d e f = ap suc (place-once xs i j x d.1 e f)

zip-from : {A B : Type 0} (R : A → B → Type 0) (xs : List A) (ys : List B) → length xs ≡ length ys → ((k : ℕ) (x : A) (y : B) → slice_get xs k ≡ Some x → slice_get ys k ≡ Some y → R x y) → AllZip R xs ys
zip-from R [] [] l h = tt
zip-from R [] (y ∷ ys) l h = let no : ⊥ = omega arith in absurd no
zip-from R (x ∷ xs) [] l h = let no : ⊥ = omega arith in absurd no
zip-from R (x ∷ xs) (y ∷ ys) l h = (h 0 x y refl refl, zip-from R xs ys (omega arith) (λ k u v s t. h (suc k) u v s t))

all-from : {X : Type 0} (P : X → Type 0) (xs : List X) → ((k : ℕ) (x : X) → slice_get xs k ≡ Some x → P x) → AllByRecursion P xs
all-from P [] h = tt
all-from P (x ∷ xs) h = (h 0 x refl, all-from P xs (λ k y s. h (suc k) y s))

-- the names that elements have
names-one : (items : List Data) (names : List (List ℕ)) (es : List TreeEntry) → AllZip HasName items names → length es ≡ length items → ((k : ℕ) (d : Data) (e : TreeEntry) → slice_get items k ≡ Some d → slice_get es k ≡ Some e → HasName d e.name) → names ≡ entry_names es
names-one [] [] [] z l h = refl
names-one [] [] (e ∷ es) z l h = let no : ⊥ = omega arith in absurd no
names-one [] (n ∷ names) es z l h = absurd z
names-one (d ∷ items) [] es z l h = absurd z
names-one (d ∷ items) (n ∷ names) [] z l h = let no : ⊥ = omega arith in absurd no
names-one (d ∷ items) (n ∷ names) (e ∷ es) z l h = ap₂ (λ u us. u ∷ us) (some_one z.0.0 (h 0 d e refl refl).0) (names-one items names es z.1 (omega arith) (λ k x f s t. h (suc k) x f s t))

zip-names : (items : List Data) (es : List TreeEntry) → length es ≡ length items → ((k : ℕ) (d : Data) (e : TreeEntry) → slice_get items k ≡ Some d → slice_get es k ≡ Some e → HasName d e.name) → AllZip HasName items (entry_names es)
zip-names [] [] l h = tt
zip-names [] (e ∷ es) l h = let no : ⊥ = omega arith in absurd no
zip-names (d ∷ items) [] l h = let no : ⊥ = omega arith in absurd no
zip-names (d ∷ items) (e ∷ es) l h = (h 0 d e refl refl, zip-names items es (omega arith) (λ k x f s t. h (suc k) x f s t))

-- the element beside an entry, and the entry beside an element
module _ (value : Data) (es : List TreeEntry) (are : AreTreeEntries value es) where
  item-at : (k : ℕ) (e : TreeEntry) → slice_get es k ≡ Some e → (d : Data) × (slice_get are.items k ≡ Some d)
  item-at k e s = there are.items k (let a = are.as_many in let l = slice_get_within es k e s in omega arith)

  entry-at : (k : ℕ) (d : Data) → slice_get are.items k ≡ Some d → (e : TreeEntry) × (slice_get es k ≡ Some e)
  entry-at k d s = there es k (let a = are.as_many in let l = slice_get_within are.items k d s in omega arith)

  same-items : (items : List Data) → HasItems (codes "nodes") value items → items ≡ are.items
  same-items items has = items_one (codes "nodes") value items are.items has are.has

-- two entries beside one element
same-entry : (names : List (List ℕ)) → AreDifferent names → (k : ℕ) (d : Data) (a b : TreeEntry) → IsEntryBeside names k d a → IsEntryBeside names k d b → IsSameEntry a b
same-entry names differ zero d a b p q = record {
  name = some_one p.name.0 q.name.0;
  policy = some_one p.policy q.policy;
  parent = (p.first refl).0 ∙ sym (q.first refl).0;
  scope = (p.first refl).1 ∙ sym (q.first refl).1;
}
same-entry names differ (suc k) d a b p q =
    let u = p.later (omega arith) in
    let v = q.later (omega arith) in
    let named : v.name ≡ u.name = some_one v.named u.named in
    let place : u.parent ≡ v.parent = place-once names u.parent v.parent u.name differ u.earlier.1 (v.earlier.1 ∙ ap Some named) in
    record {
      name = some_one p.name.0 q.name.0;
      policy = some_one p.policy q.policy;
      parent = u.is_parent ∙ ap Some place ∙ sym v.is_parent;
      scope = some_one u.scope v.scope;
    }

values-one : (value : Data) (xs ys : List TreeEntry) → AreTreeEntries value xs → AreTreeEntries value ys → AreSameEntries xs ys
values-one value xs ys p q =
    let items : q.items ≡ p.items = same-items value xs p q.items q.has in
    let long : length xs ≡ length ys = p.as_many ∙ sym (ap length items) ∙ sym q.as_many in
    let beside : (k : ℕ) (d : Data) (e : TreeEntry) → slice_get p.items k ≡ Some d → slice_get ys k ≡ Some e → IsEntryBeside (entry_names ys) k d e = λ k d e s t. q.each k d e (ap (λ ds. slice_get ds k) items ∙ s) t in
    let names : entry_names xs ≡ entry_names ys = names-one p.items (entry_names xs) ys (zip-names p.items xs p.as_many (λ k d e s t. (p.each k d e s t).name)) (q.as_many ∙ ap length items) (λ k d e s t. (beside k d e s t).name) in
    zip-from IsSameEntry xs ys long
    (λ k a b s t.
    let d = item-at value xs p k a s in
    same-entry (entry_names xs) p.differ k d.0 a b (p.each k d.0 a d.1 s) (subst (λ (ns : List (List ℕ)). IsEntryBeside ns k d.0 b) (sym names) (beside k d.0 b d.1 t)))

pub entries-one : (bytes : List ℕ) (xs ys : List TreeEntry) → IsDelegationText bytes xs → IsDelegationText bytes ys → AreSameEntries xs ys
entries-one bytes xs ys (value, text, p) (other, text', q) = values-one value xs ys p (subst (λ (v : Data). AreTreeEntries v ys) (json-one bytes other value text' text) q)

-- what a text stands for keeps the rules of trees
pub entries-kept : (bytes : List ℕ) (es : List TreeEntry) → IsDelegationText bytes es → AreKeptEntries es
entries-kept bytes es (value, text, are) = record {
  some = are.some;
  few = are.few;
  names = all-from (λ (e : TreeEntry). IsName e.name) es (λ k e s. let d = item-at value es are k e s in (are.each k d.0 e d.1 s).name.1);
  differ = are.differ;
  root = λ e s. let d = item-at value es are 0 e s in (are.each 0 d.0 e d.1 s).first refl;
  parents = λ k e s.
      let d = item-at value es are (suc k) e s in
      let u = (are.each (suc k) d.0 e d.1 s).later (omega arith) in
      record { parent = u.parent; is_parent = u.is_parent; earlier = u.earlier.0 };
}

-- What stands for entries is not refused.

right-part : (names : List (List ℕ)) (k : ℕ) (d : Data) (e : TreeEntry) (which : NodePart) → IsEntryBeside names k d e → IsWrongNodePart k d which → ⊥
right-part names k d e Itself is wrong = wrong is.object
right-part names k d e Name is wrong = wrong.1 e.name is.name
right-part names k d e Policy is wrong = wrong.2 (string_bytes e.policy) is.policy
right-part names k d e Parent is wrong = let u = is.later wrong.3.0 in wrong.3.1 u.name u.named
right-part names k d e Scope is wrong = let u = is.later wrong.3.0 in wrong.3.2 e.scope u.scope

not-misshapen : (value : Data) (es : List TreeEntry) (what : List ℕ) → AreTreeEntries value es → IsMisshapenTree value what → ⊥
not-misshapen value es what are (inl (e, none)) = none are.object
not-misshapen value es what are (inr (object, inl (e, none))) = let z = ap length (none are.items are.has) in let a = are.as_many in let s = are.some in omega arith
not-misshapen value es what are (inr (object, inr (items, has, wrong))) =
    let at : slice_get are.items wrong.place ≡ Some wrong.item = ap (λ ds. slice_get ds wrong.place) (sym (same-items value es are items has)) ∙ wrong.stands in
    let e = entry-at value es are wrong.place wrong.item at in
    right-part (entry_names es) wrong.place wrong.item e.0 wrong.part (are.each wrong.place wrong.item e.0 at e.1) wrong.wrong

not-doubled : (names : List (List ℕ)) (name : List ℕ) → AreDifferent names → IsFirstDoubled names name → ⊥
not-doubled names name differ first =
    let same = place-once names first.place first.earlier name differ first.stands first.same in
    let before = first.before in
    omega arith

not-unknown : (value : Data) (es : List TreeEntry) (name : List ℕ) → (are : AreTreeEntries value es) → IsFirstUnknownParent are.items (entry_names es) name → ⊥
not-unknown value es name are first =
    let e = entry-at value es are first.place first.item first.stands in
    let u = (are.each first.place first.item e.0 first.stands e.1).later first.later in
    let named : u.name ≡ name = some_one u.named first.named in
    first.unknown u.parent (u.earlier.0, u.earlier.1 ∙ ap Some named)

-- the elements and names of a text are those of its entries
record AreTheirs (value : Data) (es : List TreeEntry) (are : AreTreeEntries value es) (items : List Data) (names : List (List ℕ)) : Type 0 where
  pub same_items : items ≡ are.items
  pub same_names : names ≡ entry_names es

theirs : (bytes : List ℕ) (value : Data) (es : List TreeEntry) → IsJson bytes value → (are : AreTreeEntries value es) → (items : List Data) (names : List (List ℕ)) → HasTreeShape bytes items names → AreTheirs value es are items names
theirs bytes value es text are items names shape =
    let here : HasItems (codes "nodes") value items = subst (λ (v : Data). HasItems (codes "nodes") v items) (json-one bytes shape.value value shape.text text) shape.has in
    let same : items ≡ are.items = same-items value es are items here in
    record {
      same_items = same;
      same_names = names-one are.items names es (subst (λ (ds : List Data). AllZip HasName ds names) same shape.named) are.as_many (λ k d e s t. (are.each k d e s t).name);
    }

pub entries-apart : (bytes : List ℕ) (es : List TreeEntry) (fault : EntryFault) → IsDelegationText bytes es → RefusesTreeText bytes fault → fault ≡ OutOfMemory
entries-apart bytes es Json (value, text, are) refused = absurd (refused value text)
entries-apart bytes es (Shape what) (value, text, are) (other, text', wrong) = absurd (not-misshapen value es what are (subst (λ (v : Data). IsMisshapenTree v what) (json-one bytes other value text' text) wrong))
entries-apart bytes es (DuplicateName name) (value, text, are) (items, names, shape, first) =
    let same = theirs bytes value es text are items names shape in
    absurd (not-doubled (entry_names es) name are.differ (subst (λ (ns : List (List ℕ)). IsFirstDoubled ns name) same.same_names first))
entries-apart bytes es (UnknownNode name) (value, text, are) (items, names, shape, (differ, first)) =
    let same = theirs bytes value es text are items names shape in
    absurd (not-unknown value es name are (subst (λ (ds : List Data). IsFirstUnknownParent ds (entry_names es) name) same.same_items (subst (λ (ns : List (List ℕ)). IsFirstUnknownParent items ns name) same.same_names first)))
entries-apart bytes es (TooManyNodes count) (value, text, are) (items, names, shape, (differ, known, large, is)) =
    let same = theirs bytes value es text are items names shape in
    let long = ap length same.same_items in
    let many = are.as_many in
    let few = are.few in
    let no : ⊥ = omega arith in
    absurd no
entries-apart bytes es OutOfMemory is refused = refl
