-- What the tables of names hold as they are filled.
use Rattle.std.proofs.Common.{◌≡◌, ◌+◌, ◌<◌, ℕ, Bool, true, false, cond, ◌||◌, List, [], ◌∷◌, ◌++◌, length, take, get_or, Option, None, Some, is_some, option_map, refl, sym, ◌∙◌, ap}
use Rattle.std.specs.Prelude.{find, bytes_eq}
use Rattle.std.specs.List.{list_any}
use Rattle.std.specs.Option.{option_or}
use Rattle.std.specs.Ordering.{nat_cmp}
use Rattle.std.specs.Cmp.Lexicographic.{slice_cmp}
use Rattle.std.specs.BTreeMap as tree
use Rattle.std.specs.BTreeMap.{BTreeMap}
use Rattle.std.specs.BTreeSet as sorted
use Rattle.std.specs.BTreeSet.{BTreeSet}
use Rattle.std.proofs.lemmas.List.{take_more}
use Rattle.std.proofs.lemmas.List.Folds.{find-append, list_any-append}
use Rattle.std.proofs.lemmas.Map.Text.{btree_map_updates_str, is_eq-slice_cmp}
use Rattle.std.proofs.lemmas.Slice.Eq.{bytes_eq-Decides}
use Rattle.policy_grammar.specs.declared.written.Literal.{Literal}
use Rattle.policy_grammar.specs.declared.written.WrittenSet.{WrittenSet}
use Rattle.policy_expansion.specs.WrittenOut.{has_name, first_places, known_literals}
use Rattle.policy_expansion.specs.Tables.{under, is_met}
use Rattle.policy_expansion.proofs.Repeated.{is_some-find}
use denote.Ref.{Bor}

is_some-map : {X Y : Type 0} (f : X → Y) (o : Option X) → is_some (option_map f o) ≡ is_some o
is_some-map f None = refl
is_some-map f (Some x) = refl

none_from : {X : Type 0} (o : Option X) → is_some o ≡ false → o ≡ None
none_from None e = refl
none_from (Some x) e = cc

none_below : {X Y : Type 0} (f : X → Y) (o : Option X) → option_map f o ≡ None → o ≡ None
none_below f None e = refl
none_below f (Some x) e = cc

-- a thing more, under its name b
joined : {X Y : Type 0} (f : X → Y) (x : X) (o : Option X) (b : Bool) → (b ≡ true → o ≡ None) → cond b (Some (f x)) (option_map f o) ≡ option_map f (option_or o (cond b (Some x) None))
joined f x None true none = refl
joined f x None false none = refl
joined f x (Some y) true none = let e : Some y ≡ None = none refl in cc
joined f x (Some y) false none = refl

module _ (sets : List WrittenSet) (i : ℕ) (x : WrittenSet) (within : i < length sets) (is : x ≡ get_or sets i x) (table : BTreeMap (Bor (List ℕ)) (List Literal))
    (filled : (name : List ℕ) → under table name ≡ known_literals (take i sets) name) where
  -- whether the name of a set stands in the table of those before it
  pub stood : is_some (under table x.name) ≡ list_any (λ other. bytes_eq other.name x.name) (take i sets)
  stood = ap is_some (filled x.name) ∙ (is_some-map (λ set. first_places set.literals) (find (has_name x.name) (take i sets)) ∙ is_some-find (has_name x.name) (take i sets))

  pub filled_more : (new : BTreeMap (Bor (List ℕ)) (List Literal)) (key : List ℕ) (kept : List Literal) → is_some (under table x.name) ≡ false → key ≡ x.name → kept ≡ first_places x.literals
      → tree.UpdatesBy (λ a b. slice_cmp nat_cmp a.now b.now) (λ other. slice_cmp nat_cmp key other.now) table new (Some kept)
      → (name : List ℕ) → under new name ≡ known_literals (take (i + 1) sets) name
  filled_more new key kept absent named is_kept updates name =
      btree_map_updates_str key table new (Some kept) updates name
      ∙ ((λ k. cond (bytes_eq (named k) name) (Some (is_kept k)) (under table name))
      ∙ (ap (cond (bytes_eq x.name name) (Some (first_places x.literals))) (filled name)
      ∙ (joined (λ set. first_places set.literals) x (find (has_name name) (take i sets)) (bytes_eq x.name name) free
      ∙ ap (option_map (λ set. first_places set.literals)) (sym (find-append (has_name name) (take i sets) (x ∷ [])) ∙ ap (find (has_name name)) (sym more)))))
    where
      more : take (i + 1) sets ≡ take i sets ++ x ∷ []
      more = take_more sets i x within ∙ ap (λ y. take i sets ++ y ∷ []) (sym is)

      free : bytes_eq x.name name ≡ true → find (has_name name) (take i sets) ≡ None
      free e =
          let same : x.name ≡ name = (bytes_eq-Decides x.name name).0 e in
          none_below (λ set. first_places set.literals) _ (sym (filled name) ∙ (ap (under table) (sym same) ∙ none_from _ absent))

-- a name more among those that were met
pub met_more : {X : Type 0} (name_of : X → List ℕ) (xs : List X) (i : ℕ) (x : X) → i < length xs → x ≡ get_or xs i x → (old new : BTreeSet (Bor (List ℕ))) → ((name : List ℕ) → is_met old name ≡ list_any (λ other. bytes_eq (name_of other) name) (take i xs))
    → (key : List ℕ) → key ≡ name_of x → sorted.UpdatesBy (λ a b. slice_cmp nat_cmp a.now b.now) (λ other. slice_cmp nat_cmp key other.now) old new true
    → (name : List ℕ) → is_met new name ≡ list_any (λ other. bytes_eq (name_of other) name) (take (i + 1) xs)
met_more {X} name_of xs i x within is old new met key named updates name =
    updates.0 (record { ref_ptr = (0, 0); now = name })
    ∙ (ap (λ b. cond b true (is_met old name)) (is_eq-slice_cmp key name ∙ ap (λ k. bytes_eq k name) named)
    ∙ (ap (cond (bytes_eq (name_of x) name) true) (met name)
    ∙ (turned (list_any here (take i xs)) (here x)
    ∙ (sym (list_any-append here (take i xs) (x ∷ [])) ∙ ap (list_any here) (sym more)))))
  where
    here : X → Bool
    here other = bytes_eq (name_of other) name

    more : take (i + 1) xs ≡ take i xs ++ x ∷ []
    more = take_more xs i x within ∙ ap (λ y. take i xs ++ y ∷ []) (sym is)

    turned : (a b : Bool) → cond b true a ≡ (a || (b || false))
    turned true true = refl
    turned true false = refl
    turned false true = refl
    turned false false = refl
