-- Lists and the places in them.
use Rattle.std.proofs.Common.{◌≡◌, ◌≢◌, ◌<◌, ◌+◌, ◌⊎◌, inl, inr, ◌==◌, ℕ, suc, zero, Bool, true, false, List, [], ◌∷◌, ◌++◌, length, map, slice_get, None, Some, refl, sym, ◌∙◌, ap, subst, arith}
use Rattle.std.specs.List.{AllByRecursion}
use Rattle.std.proofs.lemmas.Bool.{eqb-true, eq-eqb}
use Rattle.merlin_model.specs.Networks.{Pairwise}
use Rattle.merlin_model.proofs.Members.{In}

pub some-same : {X : Type 0} {a b : X} → Some a ≡ Some b → a ≡ b
some-same e = cc

pub none-some : {X : Type 0} {a : X} → None ≡ Some a → ⊥
none-some e = cc

false-true : false ≡ true → ⊥
false-true e = cc

pub same-or-not : (a b : ℕ) → (a ≡ b) ⊎ (a ≢ b)
same-or-not a b = by (a == b) refl
  where
    by : (c : Bool) → (a == b) ≡ c → (a ≡ b) ⊎ (a ≢ b)
    by true e = inl (eqb-true a b e)
    by false e = inr (λ s. false-true (sym e ∙ eq-eqb a b s))

pub get-below : {X : Type 0} (xs : List X) (k : ℕ) (a : X) → slice_get xs k ≡ Some a → k < length xs
get-below [] k a e = absurd (none-some e)
get-below (x ∷ xs) zero a e = omega arith
get-below (x ∷ xs) (suc k) a e = let lt = get-below xs k a e in omega (arith, lt)

pub get-in : {X : Type 0} (xs : List X) (k : ℕ) (a : X) → slice_get xs k ≡ Some a → In a xs
get-in [] k a e = absurd (none-some e)
get-in (x ∷ xs) zero a e = inl (sym (some-same e))
get-in (x ∷ xs) (suc k) a e = inr (get-in xs k a e)

pub in-get : {X : Type 0} (xs : List X) (a : X) → In a xs → (k : ℕ) × (slice_get xs k ≡ Some a)
in-get [] a i = absurd i
in-get (x ∷ xs) a (inl e) = (0, ap Some (sym e))
in-get (x ∷ xs) a (inr i) = let rest = in-get xs a i in (suc rest.0, rest.1)

pub get-map : {X Y : Type 0} (f : X → Y) (xs : List X) (k : ℕ) (a : X) → slice_get xs k ≡ Some a → slice_get (map f xs) k ≡ Some (f a)
get-map f [] k a e = absurd (none-some e)
get-map f (x ∷ xs) zero a e = ap Some (ap f (some-same e))
get-map f (x ∷ xs) (suc k) a e = get-map f xs k a e

pub map-get : {X Y : Type 0} (f : X → Y) (xs : List X) (k : ℕ) (b : Y) → slice_get (map f xs) k ≡ Some b → (a : X) × (slice_get xs k ≡ Some a) × (f a ≡ b)
map-get f [] k b e = absurd (none-some e)
map-get f (x ∷ xs) zero b e = (x, refl, some-same e)
map-get f (x ∷ xs) (suc k) b e = map-get f xs k b e

pub get-front : {X : Type 0} (xs ys : List X) (k : ℕ) (a : X) → slice_get xs k ≡ Some a → slice_get (xs ++ ys) k ≡ Some a
get-front [] ys k a e = absurd (none-some e)
get-front (x ∷ xs) ys zero a e = e
get-front (x ∷ xs) ys (suc k) a e = get-front xs ys k a e

-- a place in two lists is one in the first, or in the second
pub get-split : {X : Type 0} (xs ys : List X) (k : ℕ) (a : X) → slice_get (xs ++ ys) k ≡ Some a → (slice_get xs k ≡ Some a) ⊎ ((i : ℕ) × (k ≡ length xs + i) × (slice_get ys i ≡ Some a))
get-split [] ys k a e = inr (k, omega arith, e)
get-split (x ∷ xs) ys zero a e = inl e
get-split (x ∷ xs) ys (suc k) a e = by (get-split xs ys k a e)
  where
    by : (slice_get xs k ≡ Some a) ⊎ ((i : ℕ) × (k ≡ length xs + i) × (slice_get ys i ≡ Some a)) → (slice_get xs k ≡ Some a) ⊎ ((i : ℕ) × (suc k ≡ length (x ∷ xs) + i) × (slice_get ys i ≡ Some a))
    by (inl h) = inl h
    by (inr h) = let at = h.1 in inr (h.0, omega (arith, at), h.2)

-- before the last place of a list with one element more
pub get-not-last : {X : Type 0} (xs : List X) (z : X) (k : ℕ) (a : X) → slice_get (xs ++ z ∷ []) k ≡ Some a → k ≢ length xs → slice_get xs k ≡ Some a
get-not-last xs z k a e other = by (get-split xs (z ∷ []) k a e)
  where
    by : (slice_get xs k ≡ Some a) ⊎ ((i : ℕ) × (k ≡ length xs + i) × (slice_get (z ∷ []) i ≡ Some a)) → slice_get xs k ≡ Some a
    by (inl h) = h
    by (inr h) = let lt = get-below (z ∷ []) h.0 a h.2 in let at = h.1 in absurd (other (omega (arith, lt, at)))

pub all-get : {X : Type 0} (P : X → Type 0) (xs : List X) (k : ℕ) (a : X) → AllByRecursion P xs → slice_get xs k ≡ Some a → P a
all-get P [] k a h e = absurd (none-some e)
all-get P (x ∷ xs) zero a h e = subst P (some-same e) h.0
all-get P (x ∷ xs) (suc k) a h e = all-get P xs k a h.1 e

pub pairwise-get : {X : Type 0} (R : X → X → Type 0) (xs : List X) (i j : ℕ) (a b : X) → Pairwise R xs → i < j → slice_get xs i ≡ Some a → slice_get xs j ≡ Some b → R a b
pairwise-get R [] i j a b h lt ea eb = absurd (none-some ea)
pairwise-get R (x ∷ xs) i zero a b h lt ea eb = absurd (omega (arith, lt))
pairwise-get R (x ∷ xs) zero (suc j) a b h lt ea eb = subst (λ y. R y b) (some-same ea) (all-get (R x) xs j b h.0 eb)
pairwise-get R (x ∷ xs) (suc i) (suc j) a b h lt ea eb = pairwise-get R xs i j a b h.1 (omega arith) ea eb
