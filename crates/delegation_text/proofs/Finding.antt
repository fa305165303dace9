-- The place of a name among the keys of a table.
use Rattle.std.proofs.Common.{◌≡◌, ℕ, zero, suc, ◌<◌, Bool, true, false, ◌||◌, List, [], ◌∷◌, slice_get, get_or, position, Option, None, Some, nat_eq, unwrap_or, refl, sym, ◌∙◌, ap}
use Rattle.std.specs.Prelude.{Vec}
use Rattle.std.specs.declared.alloc.Global.{Global}
use Rattle.std.specs.List.{list_any}
use Rattle.std.specs.Cmp.Lexicographic.{pointwise}
use Rattle.std.proofs.lemmas.Slice.Eq.{bytes_eq-Decides}
use Rattle.std.proofs.lemmas.List.Quantifiers.{position-Some}
use Rattle.std.proofs.lemmas.Option.{slice_get-get_or, get_or_from_slice_get}
use Rattle.delegation_text.specs.Alongside.{names_kept}

abbrev Text : Type 0
Text = Vec ℕ Global

true-false : true ≡ false → ⊥
true-false e = cc

-- the key behind a kept name
key-behind : (ks : List Text) (j : ℕ) (name : List ℕ) → slice_get (names_kept ks) j ≡ Some name → (key : Text) × (slice_get ks j ≡ Some key) × (key.items ≡ name)
key-behind [] j name e = let no : ⊥ = cc in absurd no
key-behind (k ∷ ks) zero name e = (k, refl, ap (λ o. unwrap_or o name) e)
key-behind (k ∷ ks) (suc j) name e = key-behind ks j name e

name-behind : (ks : List Text) (j : ℕ) (key : Text) → slice_get ks j ≡ Some key → slice_get (names_kept ks) j ≡ Some key.items
name-behind [] j key e = let no : ⊥ = cc in absurd no
name-behind (k ∷ ks) zero key e = ap (λ o. Some (unwrap_or o k).items) e
name-behind (k ∷ ks) (suc j) key e = name-behind ks j key e

module _ (name : List ℕ) where
  abbrev test : Text → Bool
  test k = pointwise nat_eq name k.items

  same-name : (k : Text) → test k ≡ true → k.items ≡ name
  same-name k e = sym ((bytes_eq-Decides name k.items).0 e)

  passes : (k : Text) → k.items ≡ name → test k ≡ true
  passes k e = (bytes_eq-Decides name k.items).1 (sym e)

  -- what is found has the name
  pub found-name : (ks : List Text) (o : Option ℕ) (i : ℕ) → o ≡ position test ks → o ≡ Some i → slice_get (names_kept ks) i ≡ Some name
  found-name [] o i e f = let no : ◌≡◌ {A = Option ℕ} None (Some i) = sym e ∙ f in absurd (never no)
    where
      never : ◌≡◌ {A = Option ℕ} None (Some i) → ⊥
      never g = cc
  found-name (k ∷ ks) o i e f =
      let first = position-Some test (k ∷ ks) i k (sym e ∙ f) in
      name-behind (k ∷ ks) i (get_or (k ∷ ks) i k) (slice_get-get_or (k ∷ ks) i k first.0) ∙ ap Some (same-name (get_or (k ∷ ks) i k) first.1)

  -- and nothing before it has
  pub found-first : (ks : List Text) (o : Option ℕ) (i j : ℕ) → o ≡ position test ks → o ≡ Some i → slice_get (names_kept ks) j ≡ Some name → j < i → ⊥
  found-first ks o i j e f at l =
      let key = key-behind ks j name at in
      let first = position-Some test ks i key.0 (sym e ∙ f) in
      let here : get_or ks j key.0 ≡ key.0 = get_or_from_slice_get ks j key.0 key.0 key.1 in
      true-false (sym (passes key.0 key.2) ∙ ap test (sym here) ∙ first.2 j l)

  -- where no key passes, no name is this
  pub none-there : (ks : List Text) → list_any test ks ≡ false → (j : ℕ) → slice_get (names_kept ks) j ≡ Some name → ⊥
  none-there [] e j at = let no : ⊥ = cc in no
  none-there (k ∷ ks) e j at = by (test k) refl e j at (none-there ks)
    where
      by : (b : Bool) → test k ≡ b → (b || list_any test ks) ≡ false → (i : ℕ) → slice_get (k.items ∷ names_kept ks) i ≡ Some name → (list_any test ks ≡ false → (i : ℕ) → slice_get (names_kept ks) i ≡ Some name → ⊥) → ⊥
      by true t h i at rest = true-false h
      by false t h zero at rest = true-false (sym (passes k (ap (λ o. unwrap_or o name) at)) ∙ t)
      by false t h (suc i) at rest = rest h i at
