-- Look-ups in tables that were made of a list.
use Rattle.std.proofs.Common.{zero, suc, ◌≡◌, ℕ, Bool, true, false, cond, List, [], ◌∷◌, map, find, position, length, get_or, slice_get, Option, Some, None, option_map, refl, sym, ◌∙◌, ap, inl, inr, IfSome, IfNone}
use Rattle.std.specs.Map.{lookup}
use Rattle.std.proofs.lemmas.Option.{slice_get_past, slice_get-get_or}
use Rattle.std.proofs.lemmas.Bool.{ltb-false}
use Rattle.std.proofs.Math.Dec.{ltb}
use Rattle.std.specs.List.{position_or_len}
use Rattle.std.proofs.lemmas.List.Quantifiers.{position-Some}
use Rattle.std.proofs.lemmas.List.Folds.{find_at}
use Rattle.merlin_model.proofs.Members.{In}

-- a table of one entry for each element finds what a search among the elements finds
pub lookup_made : {W K V : Type 0} (test : K → Bool) (p : W → Bool) (entry : W → K × V) → ((w : W) → test (entry w).0 ≡ p w) → (ws : List W) → lookup test (map entry ws) ≡ option_map (λ w. (entry w).1) (find p ws)
lookup_made test p entry same [] = refl
lookup_made {W} {K} {V} test p entry same (w ∷ ws) = ap (λ b. cond b (Some (entry w).1) (lookup test (map entry ws))) (same w) ∙ by (p w) (lookup_made test p entry same ws)
  where
    by : (b : Bool) → lookup test (map entry ws) ≡ option_map (λ w. (entry w).1) (find p ws) → cond b (Some (entry w).1) (lookup test (map entry ws)) ≡ option_map (λ w. (entry w).1) (cond b (Some w) (find p ws))
    by true e = refl
    by false e = e

-- what is found is in the list and passes
pub find_in : {X : Type 0} (p : X → Bool) (xs : List X) (x : X) → find p xs ≡ Some x → In x xs × (p x ≡ true)
find_in p [] x e = absurd (no x e)
  where
    no : {X : Type 0} (x : X) → None ≡ Some x → ⊥
    no x e = cc
find_in {X} p (y ∷ xs) x e = by (p y) refl e (find_in p xs x)
  where
    by : (b : Bool) → p y ≡ b → cond b (Some y) (find p xs) ≡ Some x → (find p xs ≡ Some x → In x xs × (p x ≡ true)) → In x (y ∷ xs) × (p x ≡ true)
    by true t h rest = let same : y ≡ x = cc in (inl (sym same), sym (ap p same) ∙ t)
    by false t h rest = (inr (rest h).0, (rest h).1)

-- where nothing is found nothing passes
pub find_none : {X : Type 0} (p : X → Bool) (xs : List X) → find p xs ≡ None → (x : X) → In x xs → p x ≡ true → ⊥
find_none p [] e x i t = i
find_none {X} p (y ∷ xs) e x i t = by (p y) refl e i (λ h j. find_none p xs h x j t)
  where
    false-true : false ≡ true → ⊥
    false-true e = cc

    some-none : Some y ≡ None → ⊥
    some-none e = cc

    by : (b : Bool) → p y ≡ b → cond b (Some y) (find p xs) ≡ None → In x (y ∷ xs) → (find p xs ≡ None → In x xs → ⊥) → ⊥
    by true py h j rest = some-none h
    by false py h (inl same) rest = false-true (sym py ∙ (ap p (sym same) ∙ t))
    by false py h (inr j) rest = rest h j

-- what stands at a place is in the list
pub at_in : {X : Type 0} (xs : List X) (i : ℕ) (x : X) → slice_get xs i ≡ Some x → In x xs
at_in [] i x e = absurd (no x e)
  where
    no : {X : Type 0} (x : X) → None ≡ Some x → ⊥
    no x e = cc
at_in (y ∷ xs) zero x e = inl cc
at_in (y ∷ xs) (suc i) x e = inr (at_in xs i x e)

-- the place of the first that passes
pub position_at : {X : Type 0} (p : X → Bool) (xs : List X) (i : ℕ) → position p xs ≡ Some i → (x : X) × (slice_get xs i ≡ Some x) × (p x ≡ true)
position_at p [] i e = absurd (no i e)
  where
    no : (i : ℕ) → None ≡ Some i → ⊥
    no i e = cc
position_at p (y ∷ xs) i e =
    let first = position-Some p (y ∷ xs) i y e in
    (get_or (y ∷ xs) i y, slice_get-get_or (y ∷ xs) i y first.0, first.1)

-- where there is no place nothing passes
pub position_none : {X : Type 0} (p : X → Bool) (xs : List X) → position p xs ≡ None → (i : ℕ) (x : X) → slice_get xs i ≡ Some x → p x ≡ true → ⊥
position_none p xs e i x at t = by (ltb (position_or_len p xs) (length xs)) refl e
  where
    some-none : Some (position_or_len p xs) ≡ None → ⊥
    some-none e = cc

    by : (b : Bool) → ltb (position_or_len p xs) (length xs) ≡ b → cond b (Some (position_or_len p xs)) None ≡ None → ⊥
    by true within h = some-none h
    by false past h = find_none p xs (find_at p xs ∙ slice_get_past xs (position_or_len p xs) (ltb-false (position_or_len p xs) (length xs) past)) x (at_in xs i x at) t

pub if_some : {X : Type 0} (P : X → Type 0) (o : Option X) → ((x : X) → o ≡ Some x → P x) → IfSome o P
if_some P None f = tt
if_some P (Some x) f = f x refl

pub if_none : {X : Type 0} (P : Type 0) (o : Option X) → (o ≡ None → P) → IfNone o P
if_none P None f = f refl
if_none P (Some x) f = tt

-- what a map of an option is, it is of something
pub map_some : {X Y : Type 0} (f : X → Y) (o : Option X) (y : Y) → option_map f o ≡ Some y → (x : X) × (o ≡ Some x) × (f x ≡ y)
map_some f None y e = absurd (never y e)
  where
    never : {Y : Type 0} (y : Y) → None ≡ Some y → ⊥
    never y e = cc
map_some f (Some x) y e = (x, refl, cc)

pub at_none : {X : Type 0} (P : Type 0) (o : Option X) → o ≡ None → IfNone o P → P
at_none P None e p = p
at_none P (Some x) e p = absurd (never x e)
  where
    never : {X : Type 0} (x : X) → Some x ≡ None → ⊥
    never x e = cc
