-- What lists have at a vertex, and how a write changes it.
use Rattle.std.proofs.Common.{◌≡◌, ◌≢◌, ◌<◌, ◌≤◌, ◌+◌, ◌++◌, take, add-one, nat_lt, ◌==◌, ◌⊎◌, inl, inr, ℕ, suc, zero, Bool, true, false, List, [], ◌∷◌, length, get_or, set, slice_get, Option, None, Some, refl, sym, ◌∙◌, ap, subst, arith}
use Rattle.std.specs.List.{AllByRecursion}
use Rattle.std.proofs.lemmas.Bool.{eqb-true, eq-eqb}
use Rattle.std.proofs.lemmas.List.{get_or-set_same, get_or-set_other}

pub some-same : {X : Type 0} {a b : X} → Some a ≡ Some b → a ≡ b
some-same e = cc

pub false-true : false ≡ true → ⊥
false-true e = cc

pub none-some : {X : Type 0} {a : X} → None ≡ Some a → ⊥
none-some e = cc

pub no-more : {X : Type 0} (o : Option X) → ((x : X) → o ≡ Some x → ⊥) → o ≡ None
no-more None h = refl
no-more (Some x) h = absurd (h x refl)

pub same-or-not : (a b : ℕ) → (a ≡ b) ⊎ (a ≢ b)
same-or-not a b = by (a == b) refl
  where
    by : (c : Bool) → (a == b) ≡ c → (a ≡ b) ⊎ (a ≢ b)
    by true e = inl (eqb-true a b e)
    by false e = inr (λ s. false-true (sym e ∙ eq-eqb a b s))

pub le-or-lt : (a b : ℕ) → (a ≤ b) ⊎ (b < a)
le-or-lt a b = by (nat_lt b a) refl
  where
    by : (c : Bool) → nat_lt b a ≡ c → (a ≤ b) ⊎ (b < a)
    by true e = let lt : b < a = grind arith in inr lt
    by false e = let le : a ≤ b = grind arith in inl le

pub known-below : {X : Type 0} (xs : List (Option X)) (v : ℕ) (c : X) → get_or xs v None ≡ Some c → v < length xs
known-below [] v c e = absurd (none-some e)
known-below (x ∷ xs) zero c e = omega arith
known-below (x ∷ xs) (suc v) c e = let lt = known-below xs v c e in omega (arith, lt)

pub settled-below : (xs : List Bool) (v : ℕ) → get_or xs v false ≡ true → v < length xs
settled-below [] v e = absurd (false-true e)
settled-below (x ∷ xs) zero e = omega arith
settled-below (x ∷ xs) (suc v) e = let lt = settled-below xs v e in omega (arith, lt)

pub get-below : {X : Type 0} (xs : List X) (k : ℕ) (a : X) → slice_get xs k ≡ Some a → k < length xs
get-below [] k a e = absurd (none-some e)
get-below (x ∷ xs) zero a e = omega arith
get-below (x ∷ xs) (suc k) a e = let lt = get-below xs k a e in omega (arith, lt)

pub below-get : {X : Type 0} (xs : List X) (k : ℕ) → k < length xs → (a : X) × (slice_get xs k ≡ Some a)
below-get [] k lt = absurd (omega (arith, lt))
below-get (x ∷ xs) zero lt = (x, refl)
below-get (x ∷ xs) (suc k) lt = below-get xs k (omega arith)

pub all-get : {X : Type 0} (P : X → Type 0) (xs : List X) (k : ℕ) (a : X) → AllByRecursion P xs → slice_get xs k ≡ Some a → P a
all-get P [] k a h e = absurd (none-some e)
all-get P (x ∷ xs) zero a h e = subst P (some-same e) h.0
all-get P (x ∷ xs) (suc k) a h e = all-get P xs k a h.1 e

-- the value at the place of a write, and elsewhere

pub set-here : {X : Type 0} (xs : List X) (i v : ℕ) (a d : X) → i < length xs → v ≡ i → get_or (set xs i a) v d ≡ a
set-here xs i v a d lt e = ap (λ j. get_or (set xs i a) j d) e ∙ get_or-set_same xs i a d lt

pub set-there : {X : Type 0} (xs : List X) (i v : ℕ) (a d : X) → v ≢ i → get_or (set xs i a) v d ≡ get_or xs v d
set-there xs i v a d ne = get_or-set_other xs i v a d ne

-- a vertex that is settled is another than one that is not
pub settled-other : (settled : List Bool) (u v : ℕ) → get_or settled u false ≡ true → get_or settled v false ≡ false → u ≢ v
settled-other settled u v is_set is_free e = false-true (sym is_free ∙ ap (λ w. get_or settled w false) (sym e) ∙ is_set)

-- lists with one element more

pub take-next : {X : Type 0} (xs : List X) (k : ℕ) (a : X) → slice_get xs k ≡ Some a → take (k + 1) xs ≡ take k xs ++ a ∷ []
take-next {X} xs k a at = ap (λ j. take j xs) (add-one k) ∙ by xs k at
  where
    by : (xs : List X) (k : ℕ) → slice_get xs k ≡ Some a → take (suc k) xs ≡ take k xs ++ a ∷ []
    by [] k at = absurd (none-some at)
    by (x ∷ xs) zero at = ap (λ y. y ∷ []) (some-same at)
    by (x ∷ xs) (suc k) at = ap (λ l. x ∷ l) (by xs k at)

pub all-snoc : {X : Type 0} (P : X → Type 0) (xs : List X) (x : X) → AllByRecursion P xs → P x → AllByRecursion P (xs ++ x ∷ [])
all-snoc P [] x h p = (p, tt)
all-snoc P (y ∷ xs) x h p = (h.0, all-snoc P xs x h.1 p)
