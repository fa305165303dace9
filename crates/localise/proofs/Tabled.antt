-- What the tables of names hold as they are filled.
use Rattle.std.proofs.Common.{◌≡◌, ◌+◌, ◌<◌, ◌||◌, ℕ, Bool, true, false, cond, List, [], ◌∷◌, ◌++◌, length, take, get_or, Option, None, Some, option_map, refl, sym, ◌∙◌, ap}
use Rattle.std.specs.Prelude.{bytes_eq}
use Rattle.std.specs.Ordering.{nat_cmp}
use Rattle.std.specs.Cmp.Lexicographic.{slice_cmp}
use Rattle.std.specs.BTreeMap as tree
use Rattle.std.specs.BTreeMap.{BTreeMap}
use Rattle.std.specs.BTreeSet as sorted
use Rattle.std.specs.BTreeSet.{BTreeSet}
use Rattle.std.proofs.lemmas.List.{take_more}
use Rattle.std.proofs.lemmas.Map.Text.{btree_map_updates_str, is_eq-slice_cmp}
use Rattle.localise.specs.declared.limits.Limits.{Limits}
use Rattle.localise.specs.Faults.{is_among}
use Rattle.localise.specs.Limits.{held_for, unlimited, has_met}
use Rattle.std.proofs.lemmas.Slice.Eq.{bytes_eq-Decides}
use Rattle.localise.proofs.Repeated.{among_more}
use denote.Ref.{Bor}

-- an id more in the table
pub filled_more : (ids : List (List ℕ)) (i : ℕ) (id : List ℕ) → i < length ids → id ≡ get_or ids i id → (old new : BTreeMap (Bor (List ℕ)) Limits)
    → ((name : List ℕ) → held_for old name ≡ cond (is_among (take i ids) name) (Some unlimited) None)
    → (key : List ℕ) → key ≡ id → tree.UpdatesBy (λ a b. slice_cmp nat_cmp a.now b.now) (λ other. slice_cmp nat_cmp key other.now) old new (Some unlimited)
    → (name : List ℕ) → held_for new name ≡ cond (is_among (take (i + 1) ids) name) (Some unlimited) None
filled_more ids i id within is old new filled key named updates name =
    btree_map_updates_str key old new (Some unlimited) updates name
    ∙ ((λ k. cond (bytes_eq (named k) name) (Some unlimited) (filled name k))
    ∙ (turned (is_among (take i ids) name) (bytes_eq id name)
    ∙ ap (λ b. cond b (Some unlimited) None) (sym (among_more (take i ids) id name) ∙ ap (λ front. is_among front name) (sym more))))
  where
    more : take (i + 1) ids ≡ take i ids ++ id ∷ []
    more = take_more ids i id within ∙ ap (λ y. take i ids ++ y ∷ []) (sym is)

    turned : (a b : Bool) → cond b (Some unlimited) (cond a (Some unlimited) None) ≡ cond (a || (b || false)) (Some unlimited) None
    turned true true = refl
    turned true false = refl
    turned false true = refl
    turned false false = refl

-- a name more among those that were met
pub met_more : (names : List (List ℕ)) (old new : BTreeSet (Bor (List ℕ))) → ((name : List ℕ) → has_met old name ≡ is_among names name)
    → (key : List ℕ) → sorted.UpdatesBy (λ a b. slice_cmp nat_cmp a.now b.now) (λ other. slice_cmp nat_cmp key other.now) old new true
    → (name : List ℕ) → has_met new name ≡ is_among (names ++ key ∷ []) name
met_more names old new met key updates name =
    updates.0 (record { ref_ptr = (0, 0); now = name })
    ∙ (ap (λ b. cond b true (has_met old name)) (is_eq-slice_cmp key name)
    ∙ (ap (cond (bytes_eq key name) true) (met name)
    ∙ (turned (is_among names name) (bytes_eq key name)
    ∙ sym (among_more names key name))))
  where
    turned : (a b : Bool) → cond b true a ≡ (a || (b || false))
    turned true true = refl
    turned true false = refl
    turned false true = refl
    turned false false = refl

-- what is held under one id changes
pub updated_one : {X : Type 0} (f : X → X) (held : List ℕ → Option X) (key id : List ℕ) → key ≡ id → (old : X) → held key ≡ Some old → (new : X) → new ≡ f old
    → (name : List ℕ) → cond (bytes_eq key name) (Some new) (held name) ≡ cond (bytes_eq id name) (option_map f (held name)) (held name)
updated_one f held key id named old was new is name = by (bytes_eq key name) refl ∙ ap (λ k. cond (bytes_eq k name) (option_map f (held name)) (held name)) named
  where
    by : (b : Bool) → bytes_eq key name ≡ b → cond b (Some new) (held name) ≡ cond b (option_map f (held name)) (held name)
    by true e =
        let same : key ≡ name = (bytes_eq-Decides key name).0 e in
        ap Some is ∙ ap (option_map f) (sym was ∙ ap held same)
    by false e = refl
