-- A table of names, one name after another.
use Rattle.std.proofs.Common.{◌≡◌, ◌⊎◌, inl, inr, ◌+◌, ◌<◌, ℕ, zero, suc, Bool, true, false, cond, List, [], ◌∷◌, ◌++◌, length, map, take, get_or, slice_get, Option, None, Some, IfSome, IfNone, nat_eq, Vec, refl, sym, ◌∙◌, ap, subst, arith}
use Rattle.std.specs.Map.{lookup}
use Rattle.std.specs.Cmp.Lexicographic.{pointwise}
use Rattle.std.specs.declared.alloc.Global.{Global}
use Rattle.std.proofs.lemmas.Slice.Eq.{bytes_eq-Decides}
use Rattle.std.proofs.lemmas.List.{map_more, length-map, length-take}
use Rattle.indexmap.specs.IndexMap.{insert_entry}
use Rattle.topology_shape.specs.Numbering.{IsFound, IsNumbering}

abbrev is : List ℕ → Vec ℕ Global → Bool
is name key = pointwise nat_eq name key.items

abbrev eq : Vec ℕ Global → Vec ℕ Global → Bool
eq k l = pointwise nat_eq k.items l.items

true-false : true ≡ false → ⊥
true-false e = cc

told : (x y : List ℕ) → pointwise nat_eq x y ≡ true → x ≡ y
told x y e = (bytes_eq-Decides x y).0 e

same_told : (x y : List ℕ) → x ≡ y → pointwise nat_eq x y ≡ true
same_told x y e = (bytes_eq-Decides x y).1 e

-- what is found after an entry is put in
lookup_inserted : (name : List ℕ) (es : List (Vec ℕ Global × ℕ)) (k : Vec ℕ Global) (v : ℕ) → lookup (is name) (insert_entry eq es k v) ≡ cond (is name k) (Some v) (lookup (is name) es)
lookup_inserted name [] k v = refl
lookup_inserted name (e ∷ es) k v = by (eq k e.0) refl (is name k) refl (is name e.0) refl (lookup_inserted name es k v)
  where
    by : (b : Bool) → eq k e.0 ≡ b → (x : Bool) → is name k ≡ x → (y : Bool) → is name e.0 ≡ y → lookup (is name) (insert_entry eq es k v) ≡ cond x (Some v) (lookup (is name) es) → lookup (is name) (cond b ((e.0, v) ∷ es) (e ∷ insert_entry eq es k v)) ≡ cond x (Some v) (cond y (Some e.1) (lookup (is name) es))
    by true t true p true q rest = ap (λ b. cond b (Some v) (lookup (is name) es)) q
    by true t true p false q rest = absurd (true-false (sym (same_told name e.0.items (told name k.items p ∙ told k.items e.0.items t)) ∙ q))
    by true t false p true q rest = absurd (true-false (sym (same_told name k.items (told name e.0.items q ∙ sym (told k.items e.0.items t))) ∙ p))
    by true t false p false q rest = ap (λ b. cond b (Some v) (lookup (is name) es)) q
    by false t true p true q rest = absurd (true-false (sym (same_told k.items e.0.items (sym (told name k.items p) ∙ told name e.0.items q)) ∙ t))
    by false t true p false q rest = ap (λ b. cond b (Some e.1) (lookup (is name) (insert_entry eq es k v))) q ∙ rest
    by false t false p true q rest = ap (λ b. cond b (Some e.1) (lookup (is name) (insert_entry eq es k v))) q
    by false t false p false q rest = ap (λ b. cond b (Some e.1) (lookup (is name) (insert_entry eq es k v))) q ∙ rest

at_snoc : (names : List (List ℕ)) (x name : List ℕ) (loc : ℕ) → slice_get names loc ≡ Some name → slice_get (names ++ x ∷ []) loc ≡ Some name
at_snoc [] x name loc e = absurd (never name e)
  where
    never : (name : List ℕ) → None ≡ Some name → ⊥
    never name e = cc
at_snoc (y ∷ names) x name zero e = e
at_snoc (y ∷ names) x name (suc loc) e = at_snoc names x name loc e

last_snoc : (names : List (List ℕ)) (x : List ℕ) → slice_get (names ++ x ∷ []) (length names) ≡ Some x
last_snoc [] x = refl
last_snoc (y ∷ names) x = last_snoc names x

from_snoc : (names : List (List ℕ)) (x name : List ℕ) (loc : ℕ) → slice_get (names ++ x ∷ []) loc ≡ Some name → (slice_get names loc ≡ Some name) ⊎ (x ≡ name)
from_snoc [] x name zero e = inr cc
from_snoc [] x name (suc loc) e = absurd (never name e)
  where
    never : (name : List ℕ) → None ≡ Some name → ⊥
    never name e = cc
from_snoc (y ∷ names) x name zero e = inl e
from_snoc (y ∷ names) x name (suc loc) e = from_snoc names x name loc e

-- one more name, and one more entry
one_more : (es : List (Vec ℕ Global × ℕ)) (names : List (List ℕ)) (k : Vec ℕ Global) (v : ℕ) → v ≡ length names → IsNumbering es names → IsNumbering (insert_entry eq es k v) (names ++ k.items ∷ [])
one_more es names k v at numbered name = subst (IsFound (names ++ k.items ∷ []) name) (sym (lookup_inserted name es k v)) (by (is name k) refl (lookup (is name) es) (numbered name))
  where
    by : (b : Bool) → is name k ≡ b → (o : Option ℕ) → IsFound names name o → IsFound (names ++ k.items ∷ []) name (cond b (Some v) o)
    by true t o found = subst (λ n. slice_get (names ++ k.items ∷ []) n ≡ Some name) (sym at) (last_snoc names k.items ∙ ap Some (sym (told name k.items t)))
    by false t (Some loc) found = at_snoc names k.items name loc found
    by false t None found = λ loc e. either loc (from_snoc names k.items name loc e)
      where
        either : (loc : ℕ) → (slice_get names loc ≡ Some name) ⊎ (k.items ≡ name) → ⊥
        either loc (inl e) = found loc e
        either loc (inr e) = true-false (sym (same_told name k.items (sym e)) ∙ t)

-- the same along a list of what is named
pub numbered_more : {C : Type 0} (f : C → List ℕ) (cs : List C) (i : ℕ) (c : C) (es : List (Vec ℕ Global × ℕ)) (k : Vec ℕ Global) → i < length cs → c ≡ get_or cs i c → k.items ≡ f c → IsNumbering es (map f (take i cs)) → IsNumbering (insert_entry eq es k i) (map f (take (i + 1) cs))
numbered_more {C} f cs i c es k within is named numbered =
    subst (IsNumbering (insert_entry eq es k i)) longer (one_more es (map f (take i cs)) k i long numbered)
  where
    long : i ≡ length (map f (take i cs))
    long = omega (arith, length-map (take i cs) f, length-take i cs)

    longer : map f (take i cs) ++ k.items ∷ [] ≡ map f (take (i + 1) cs)
    longer = ap (λ n. map f (take i cs) ++ n ∷ []) (named ∙ ap f is) ∙ sym (map_more f cs i c within)

pub found_some : (names : List (List ℕ)) (name : List ℕ) (o r : Option ℕ) → r ≡ o → IsFound names name o → IfSome r (λ loc. slice_get names loc ≡ Some name)
found_some names name o r e found = subst (λ x. IfSome x (λ loc. slice_get names loc ≡ Some name)) (sym e) (by o found)
  where
    by : (o : Option ℕ) → IsFound names name o → IfSome o (λ loc. slice_get names loc ≡ Some name)
    by None found = tt
    by (Some loc) found = found

pub found_none : (names : List (List ℕ)) (name : List ℕ) (o r : Option ℕ) → r ≡ o → IsFound names name o → IfNone r ((loc : ℕ) → slice_get names loc ≡ Some name → ⊥)
found_none names name o r e found = subst (λ x. IfNone x ((loc : ℕ) → slice_get names loc ≡ Some name → ⊥)) (sym e) (by o found)
  where
    by : (o : Option ℕ) → IsFound names name o → IfNone o ((loc : ℕ) → slice_get names loc ≡ Some name → ⊥)
    by None found = found
    by (Some loc) found = tt
