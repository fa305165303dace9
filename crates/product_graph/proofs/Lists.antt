-- Lists by their places.
use Rattle.std.proofs.Common.{◌≡◌, ◌<◌, ◌≤◌, ◌⊎◌, inl, inr, ◌+◌, ℕ, suc, zero, Bool, true, false, nat_lt, List, [], ◌∷◌, ◌++◌, length, map, take, get_or, slice_get, Contains, Some, None, Result, Ok, Err, IfOk, add-one, refl, sym, ◌∙◌, ap, subst, arith}
use Rattle.std.specs.List.{AllByRecursion}
use Rattle.std.proofs.Math.Seq.{take-suc}
use Rattle.merlin_model.specs.Networks.{Pairwise}
use Rattle.merlin_model.proofs.Members.{In, in_from, in_to, in_append, in_append-left, in_append-right}

pub some-same : {X : Type 0} {a b : X} → Some a ≡ Some b → a ≡ b
some-same e = cc

pub false-true : false ≡ true → ⊥
false-true e = cc

pub none-some : {X : Type 0} {a : X} → None ≡ Some a → ⊥
none-some e = cc

pub below_or_at : (n j : ℕ) → j < n + 1 → (j < n) ⊎ (j ≡ n)
below_or_at n j lt = by (nat_lt j n) refl
  where
    by : (b : Bool) → nat_lt j n ≡ b → (j < n) ⊎ (j ≡ n)
    by true e = inl (grind arith)
    by false e = let ge : n ≤ j = grind arith in inr (omega arith)

pub all-map : {X : Type 0} (P Q : X → Type 0) → ((k : X) → P k → Q k) → (xs : List X) → AllByRecursion P xs → AllByRecursion Q xs
all-map P Q f [] h = tt
all-map P Q f (x ∷ xs) h = (f x h.0, all-map P Q f xs h.1)

pub all-snoc : {X : Type 0} (P : X → Type 0) (xs : List X) (x : X) → AllByRecursion P xs → P x → AllByRecursion P (xs ++ x ∷ [])
all-snoc P [] x h p = (p, tt)
all-snoc P (y ∷ xs) x h p = (h.0, all-snoc P xs x h.1 p)

pub pairwise-snoc : {X : Type 0} (R : X → X → Type 0) (xs : List X) (x : X) → AllByRecursion (λ y. R y x) xs → Pairwise R xs → Pairwise R (xs ++ x ∷ [])
pairwise-snoc R [] x h a = (tt, tt)
pairwise-snoc R (y ∷ xs) x h a = (all-snoc (R y) xs x a.0 h.0, pairwise-snoc R xs x h.1 a.1)

pub all-at : {X : Type 0} (P : X → Type 0) (xs : List X) (i : ℕ) (d : X) → i < length xs → AllByRecursion P xs → P (get_or xs i d)
all-at P [] i d lt h = absurd (omega (arith, lt))
all-at P (x ∷ xs) zero d lt h = h.0
all-at P (x ∷ xs) (suc i) d lt h = all-at P xs i d (omega arith) h.1

pub get-at : {X : Type 0} (xs : List X) (i : ℕ) (d : X) → i < length xs → slice_get xs i ≡ Some (get_or xs i d)
get-at [] i d lt = absurd (omega (arith, lt))
get-at (x ∷ xs) zero d lt = refl
get-at (x ∷ xs) (suc i) d lt = get-at xs i d (omega arith)

pub at-get : {X : Type 0} (xs : List X) (i : ℕ) (d a : X) → slice_get xs i ≡ Some a → get_or xs i d ≡ a
at-get [] i d a e = absurd (none-some e)
at-get (x ∷ xs) zero d a e = some-same e
at-get (x ∷ xs) (suc i) d a e = at-get xs i d a e

pub all-get : {X : Type 0} (P : X → Type 0) (xs : List X) (i : ℕ) (a : X) → AllByRecursion P xs → slice_get xs i ≡ Some a → P a
all-get P [] i a h e = absurd (none-some e)
all-get P (x ∷ xs) zero a h e = subst P (some-same e) h.0
all-get P (x ∷ xs) (suc i) a h e = all-get P xs i a h.1 e

pub all-from : {X : Type 0} (P : X → Type 0) (xs : List X) → ((k : ℕ) (a : X) → slice_get xs k ≡ Some a → P a) → AllByRecursion P xs
all-from P [] h = tt
all-from P (x ∷ xs) h = (h 0 x refl, all-from P xs (λ k a e. h (suc k) a e))

pub take-more : {X : Type 0} (xs : List X) (i : ℕ) (d : X) → i < length xs → take (i + 1) xs ≡ take i xs ++ get_or xs i d ∷ []
take-more xs i d lt = ap (λ k. take k xs) (add-one i) ∙ take-suc xs i d lt

pub get-before : {X : Type 0} (xs : List X) (x d : X) (i : ℕ) → i < length xs → get_or (xs ++ x ∷ []) i d ≡ get_or xs i d
get-before [] x d i lt = absurd (omega (arith, lt))
get-before (y ∷ xs) x d zero lt = refl
get-before (y ∷ xs) x d (suc i) lt = get-before xs x d i (omega arith)

pub get-behind : {X : Type 0} (xs : List X) (x d : X) → get_or (xs ++ x ∷ []) (length xs) d ≡ x
get-behind [] x d = refl
get-behind (y ∷ xs) x d = get-behind xs x d

pub length-more : {X : Type 0} (xs : List X) (x : X) → length (xs ++ x ∷ []) ≡ suc (length xs)
length-more [] x = refl
length-more (y ∷ xs) x = ap suc (length-more xs x)

pub map-length : {X Y : Type 0} (f : X → Y) (xs : List X) → length (map f xs) ≡ length xs
map-length f [] = refl
map-length f (x ∷ xs) = ap suc (map-length f xs)

pub contains-left : {X : Type 0} (xs ys : List X) (x : X) → Contains xs x → Contains (xs ++ ys) x
contains-left xs ys x h = in_to (xs ++ ys) x (in_append-left xs ys x (in_from xs x h))

pub contains-right : {X : Type 0} (xs ys : List X) (x : X) → Contains ys x → Contains (xs ++ ys) x
contains-right xs ys x h = in_to (xs ++ ys) x (in_append-right xs ys x (in_from ys x h))

pub contains-either : {X : Type 0} (xs ys : List X) (x : X) → Contains (xs ++ ys) x → Contains xs x ⊎ Contains ys x
contains-either xs ys x h = by (in_append xs ys x (in_from (xs ++ ys) x h))
  where
    by : In x xs ⊎ In x ys → Contains xs x ⊎ Contains ys x
    by (inl i) = inl (in_to xs x i)
    by (inr i) = inr (in_to ys x i)

pub contains-last : {X : Type 0} (xs : List X) (x : X) → Contains (xs ++ x ∷ []) x
contains-last xs x = contains-right xs (x ∷ []) x (in_to (x ∷ []) x (inl refl))

pub contains-one : {X : Type 0} (x y : X) → Contains (x ∷ []) y → y ≡ x
contains-one x y h = by (in_from (x ∷ []) y h)
  where
    by : In y (x ∷ []) → y ≡ x
    by (inl e) = e
    by (inr i) = absurd i

pub contains-snoc : {X : Type 0} (xs : List X) (y x : X) → Contains (xs ++ y ∷ []) x → Contains xs x ⊎ (x ≡ y)
contains-snoc xs y x h = by (contains-either xs (y ∷ []) x h)
  where
    by : Contains xs x ⊎ Contains (y ∷ []) x → Contains xs x ⊎ (x ≡ y)
    by (inl i) = inl i
    by (inr i) = inr (contains-one y x i)

pub contains-none : {X : Type 0} (x : X) → Contains [] x → ⊥
contains-none x h = in_from [] x h

-- what holds at each place of a list holds at each place of a longer one
pub each-more : {X : Type 0} (P : ℕ → X → Type 0) (d : X) (xs : List X) (x : X) → ((i : ℕ) → i < length xs → P i (get_or xs i d)) → P (length xs) x → (i : ℕ) → i < length (xs ++ x ∷ []) → P i (get_or (xs ++ x ∷ []) i d)
each-more P d xs x h p i lt = by (nat_lt i (length xs)) refl
  where
    by : (b : Bool) → nat_lt i (length xs) ≡ b → P i (get_or (xs ++ x ∷ []) i d)
    by true e = let below : i < length xs = grind arith in subst (P i) (sym (get-before xs x d i below)) (h i below)
    by false e =
        let ge : length xs ≤ i = grind arith in
        let long = length-more xs x in
        let same : i ≡ length xs = omega arith in
        subst (λ j. P j (get_or (xs ++ x ∷ []) j d)) (sym same) (subst (P (length xs)) (sym (get-behind xs x d)) p)

pub get-below : {X : Type 0} (xs : List X) (k : ℕ) (a : X) → slice_get xs k ≡ Some a → k < length xs
get-below [] k a e = absurd (none-some e)
get-below (x ∷ xs) zero a e = omega arith
get-below (x ∷ xs) (suc k) a e = let lt = get-below xs k a e in omega (arith, lt)

pub get-contains : {X : Type 0} (xs : List X) (k : ℕ) (a : X) → slice_get xs k ≡ Some a → Contains xs a
get-contains {X} xs k a e = in_to xs a (by xs k e)
  where
    by : (xs : List X) (k : ℕ) → slice_get xs k ≡ Some a → In a xs
    by [] k e = absurd (none-some e)
    by (x ∷ xs) zero e = inl (sym (some-same e))
    by (x ∷ xs) (suc k) e = inr (by xs k e)

pub contains-get : {X : Type 0} (xs : List X) (a : X) → Contains xs a → (k : ℕ) × (slice_get xs k ≡ Some a)
contains-get {X} xs a h = by xs (in_from xs a h)
  where
    by : (xs : List X) → In a xs → (k : ℕ) × (slice_get xs k ≡ Some a)
    by [] i = absurd i
    by (x ∷ xs) (inl e) = (0, ap Some (sym e))
    by (x ∷ xs) (inr i) = let rest = by xs i in (suc rest.0, rest.1)

pub all-contained : {X : Type 0} (P : X → Type 0) (xs : List X) → ((x : X) → Contains xs x → P x) → AllByRecursion P xs
all-contained P xs h = all-from P xs (λ k a e. h a (get-contains xs k a e))

pub contained-all : {X : Type 0} (P : X → Type 0) (xs : List X) (x : X) → AllByRecursion P xs → Contains xs x → P x
contained-all P xs x h c = let place = contains-get xs x c in all-get P xs place.0 x h place.1

pub pairwise-get : {X : Type 0} (R : X → X → Type 0) (xs : List X) (i j : ℕ) (a b : X) → Pairwise R xs → i < j → slice_get xs i ≡ Some a → slice_get xs j ≡ Some b → R a b
pairwise-get R [] i j a b h lt ea eb = absurd (none-some ea)
pairwise-get R (x ∷ xs) i zero a b h lt ea eb = absurd (omega (arith, lt))
pairwise-get R (x ∷ xs) zero (suc j) a b h lt ea eb = subst (λ y. R y b) (some-same ea) (all-get (R x) xs j b h.0 eb)
pairwise-get R (x ∷ xs) (suc i) (suc j) a b h lt ea eb = pairwise-get R xs i j a b h.1 (omega arith) ea eb

pub pairwise-append : {X : Type 0} (R : X → X → Type 0) (xs ys : List X) → Pairwise R xs → Pairwise R ys → ((x y : X) → Contains xs x → Contains ys y → R x y) → Pairwise R (xs ++ ys)
pairwise-append R [] ys hx hy across = hy
pairwise-append {X} R (x ∷ xs) ys hx hy across = (all-contained (R x) (xs ++ ys) here, pairwise-append R xs ys hx.1 hy (λ u v cu cv. across u v (in_to (x ∷ xs) u (inr (in_from xs u cu))) cv))
  where
    here : (y : X) → Contains (xs ++ ys) y → R x y
    here y c = by (contains-either xs ys y c)
      where
        by : Contains xs y ⊎ Contains ys y → R x y
        by (inl i) = contained-all (R x) xs y hx.0 i
        by (inr i) = across x y (in_to (x ∷ xs) x (inl refl)) i

pub pairwise-map : {X : Type 0} (R S : X → X → Type 0) → ((x y : X) → R x y → S x y) → (xs : List X) → Pairwise R xs → Pairwise S xs
pairwise-map R S f [] h = tt
pairwise-map R S f (x ∷ xs) h = (all-map (R x) (S x) (f x) xs h.0, pairwise-map R S f xs h.1)

pub pairwise-last : {X : Type 0} (R : X → X → Type 0) (xs : List X) (x : X) → Pairwise R (xs ++ x ∷ []) → Pairwise R xs × AllByRecursion (λ y. R y x) xs
pairwise-last R [] x h = (tt, tt)
pairwise-last {X} R (y ∷ xs) x h =
    let rest = pairwise-last R xs x h.1 in
    let split = front xs h.0 in
    ((split.0, rest.0), (split.1, rest.1))
  where
    front : (zs : List X) → AllByRecursion (R y) (zs ++ x ∷ []) → AllByRecursion (R y) zs × R y x
    front [] g = (tt, g.0)
    front (z ∷ zs) g = let r = front zs g.1 in ((g.0, r.0), r.1)

pub lt-or-ge : (a b : ℕ) → (a < b) ⊎ (b ≤ a)
lt-or-ge a b = by (nat_lt a b) refl
  where
    by : (c : Bool) → nat_lt a b ≡ c → (a < b) ⊎ (b ≤ a)
    by true e = let lt : a < b = grind arith in inl lt
    by false e = let le : b ≤ a = grind arith in inr le

pub get-more : {X : Type 0} (xs ys : List X) (k : ℕ) (a : X) → slice_get xs k ≡ Some a → slice_get (xs ++ ys) k ≡ Some a
get-more [] ys k a e = absurd (none-some e)
get-more (x ∷ xs) ys zero a e = e
get-more (x ∷ xs) ys (suc k) a e = get-more xs ys k a e

pub get-none : {X : Type 0} (xs : List X) (i : ℕ) → slice_get xs i ≡ None → length xs ≤ i
get-none [] i e = omega arith
get-none (x ∷ xs) zero e = absurd (none-some (sym e))
get-none (x ∷ xs) (suc i) e = let rest = get-none xs i e in omega (arith, rest)

pub get-snoc : {X : Type 0} (xs : List X) (x : X) (k : ℕ) (a : X) → slice_get (xs ++ x ∷ []) k ≡ Some a → (slice_get xs k ≡ Some a) ⊎ ((k ≡ length xs) × (x ≡ a))
get-snoc [] x zero a e = inr (refl, some-same e)
get-snoc [] x (suc k) a e = absurd (none-some e)
get-snoc (y ∷ xs) x zero a e = inl e
get-snoc (y ∷ xs) x (suc k) a e = by (get-snoc xs x k a e)
  where
    by : (slice_get xs k ≡ Some a) ⊎ ((k ≡ length xs) × (x ≡ a)) → (slice_get xs k ≡ Some a) ⊎ ((suc k ≡ length (y ∷ xs)) × (x ≡ a))
    by (inl h) = inl h
    by (inr h) = let at = h.0 in inr (omega (arith, at), h.1)

-- a place in two lists is one in the first, or in the second
pub get-parts : {X : Type 0} (xs ys : List X) (k : ℕ) (a : X) → slice_get (xs ++ ys) k ≡ Some a → (slice_get xs k ≡ Some a) ⊎ ((i : ℕ) × (k ≡ length xs + i) × (slice_get ys i ≡ Some a))
get-parts [] ys k a e = inr (k, omega arith, e)
get-parts (x ∷ xs) ys zero a e = inl e
get-parts (x ∷ xs) ys (suc k) a e = by (get-parts xs ys k a e)
  where
    by : (slice_get xs k ≡ Some a) ⊎ ((i : ℕ) × (k ≡ length xs + i) × (slice_get ys i ≡ Some a)) → (slice_get (x ∷ xs) (suc k) ≡ Some a) ⊎ ((i : ℕ) × (suc k ≡ length (x ∷ xs) + i) × (slice_get ys i ≡ Some a))
    by (inl h) = inl h
    by (inr h) = let at = h.1 in inr (h.0, omega (arith, at), h.2)

pub if-ok : {X E : Type 0} (P Q : X → Type 0) (r : Result X E) → ((x : X) → P x → Q x) → IfOk r P → IfOk r Q
if-ok P Q (Ok x) f h = f x h
if-ok P Q (Err e) f h = tt
