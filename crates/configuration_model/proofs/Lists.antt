-- Lists by place, and what is found in them.
use Rattle.std.proofs.Common.{◌≡◌, ◌≢◌, ℕ, zero, suc, ◌<◌, ◌≤◌, ◌==◌, ◌⊎◌, inl, inr, ◌+◌, filter, Bool, true, false, cond, List, [], ◌∷◌, ◌++◌, length, find, filter_map, Option, None, Some, slice_get, refl, sym, ◌∙◌, ap, subst, arith}
use Rattle.std.proofs.lemmas.Bool.{eqb-true, eq-eqb}
use Rattle.std.specs.List.{AllZip, AllByRecursion, flat_map, cons_option, range_with_len}
use Rattle.std.proofs.lemmas.List.Elements.{filter_map-append}
use Rattle.merlin_model.specs.Networks.{Network, Pairwise, kind_of}
use Rattle.merlin_model.specs.Machine.{first_of}
use Rattle.merlin_model.proofs.Members.{In, all_in, in_append, in_flat_map, in_filter}
use Rattle.rules_model.specs.Tables.{all_hosts, is_host_kind}
use Rattle.merlin_model.proofs.Traces.{Some-inj}

pub None-Some : {X : Type 0} {x : X} → None ≡ Some x → ⊥
None-Some e = cc

pub false-true : false ≡ true → ⊥
false-true e = cc

pub at-in : {X : Type 0} (xs : List X) (k : ℕ) (x : X) → slice_get xs k ≡ Some x → In x xs
at-in [] k x e = absurd (None-Some e)
at-in (y ∷ ys) zero x e = inl (sym (Some-inj e))
at-in (y ∷ ys) (suc k) x e = inr (at-in ys k x e)

pub in-at : {X : Type 0} (xs : List X) (x : X) → In x xs → (k : ℕ) × (slice_get xs k ≡ Some x)
in-at [] x h = absurd h
in-at (y ∷ ys) x (inl e) = (0, ap Some (sym e))
in-at (y ∷ ys) x (inr h) = let r = in-at ys x h in (suc r.0, r.1)

-- below the length there is something
pub at-below : {X : Type 0} (xs : List X) (k : ℕ) → k < length xs → (x : X) × (slice_get xs k ≡ Some x)
at-below [] k lt = let no : ⊥ = omega arith in absurd no
at-below (y ∷ ys) zero lt = (y, refl)
at-below (y ∷ ys) (suc k) lt = at-below ys k (omega arith)

pub at-within : {X : Type 0} (xs : List X) (k : ℕ) (x : X) → slice_get xs k ≡ Some x → k < length xs
at-within [] k x e = absurd (None-Some e)
at-within (y ∷ ys) zero x e = omega arith
at-within (y ∷ ys) (suc k) x e = let lt = at-within ys k x e in omega arith

pub zip-right : {X A : Type 0} (R : X → A → Type 0) (xs : List X) (ys : List A) (k : ℕ) (x : X) → AllZip R xs ys → slice_get xs k ≡ Some x → (y : A) × (slice_get ys k ≡ Some y) × R x y
zip-right R [] ys k x h e = absurd (None-Some e)
zip-right R (x' ∷ xs) [] k x h e = absurd h
zip-right R (x' ∷ xs) (y ∷ ys) zero x h e = (y, refl, subst (λ z. R z y) (Some-inj e) h.0)
zip-right R (x' ∷ xs) (y ∷ ys) (suc k) x h e = zip-right R xs ys k x h.1 e

pub zip-left : {X A : Type 0} (R : X → A → Type 0) (xs : List X) (ys : List A) (k : ℕ) (y : A) → AllZip R xs ys → slice_get ys k ≡ Some y → (x : X) × (slice_get xs k ≡ Some x) × R x y
zip-left R [] [] k y h e = absurd (None-Some e)
zip-left R [] (y' ∷ ys) k y h e = absurd h
zip-left R (x ∷ xs) [] k y h e = absurd h
zip-left R (x ∷ xs) (y' ∷ ys) zero y h e = (x, refl, subst (λ z. R x z) (Some-inj e) h.0)
zip-left R (x ∷ xs) (y' ∷ ys) (suc k) y h e = zip-left R xs ys k y h.1 e

-- what is found is in the list and passes
pub find-in : {X : Type 0} (t : X → Bool) (xs : List X) (x : X) → find t xs ≡ Some x → In x xs × (t x ≡ true)
find-in t [] x e = absurd (None-Some e)
find-in {X} t (y ∷ ys) x e = by (t y) refl e (find-in t ys x)
  where
    by : (b : Bool) → t y ≡ b → cond b (Some y) (find t ys) ≡ Some x → (find t ys ≡ Some x → In x ys × (t x ≡ true)) → In x (y ∷ ys) × (t x ≡ true)
    by true h e ih = (inl (sym (Some-inj e)), ap t (sym (Some-inj e)) ∙ h)
    by false h e ih = let r = ih e in (inr r.0, r.1)

-- in a falling list what is found stands as high as anything that passes
pub find-top : {X : Type 0} (t : X → Bool) (rank : X → ℕ) (xs : List X) (x y : X) → Pairwise (λ b c. rank c ≤ rank b) xs → find t xs ≡ Some x → In y xs → t y ≡ true → rank y ≤ rank x
find-top t rank [] x y falls e i ty = absurd i
find-top {X} t rank (z ∷ zs) x y falls e i ty = by (t z) refl e i (λ e s. find-top t rank zs x y falls.1 e s ty)
  where
    by : (b : Bool) → t z ≡ b → cond b (Some z) (find t zs) ≡ Some x → In y (z ∷ zs) → (find t zs ≡ Some x → In y zs → rank y ≤ rank x) → rank y ≤ rank x
    by true h e (inl s) ih = let same : rank y ≡ rank x = ap rank (s ∙ Some-inj e) in omega arith
    by true h e (inr s) ih = let le : rank y ≤ rank z = all_in (λ c. rank c ≤ rank z) zs y falls.0 s in let same : rank z ≡ rank x = ap rank (Some-inj e) in omega arith
    by false h e (inl s) ih = absurd (false-true (sym h ∙ (ap t (sym s) ∙ ty)))
    by false h e (inr s) ih = ih e s

-- The first answer of a list.

abbrev pub found : {X A : Type 0} → (X → Option A) → List X → Option A
found f xs = first_of (filter_map f xs)

pub found-none : {X A : Type 0} (f : X → Option A) (x : X) (xs : List X) → f x ≡ None → found f (x ∷ xs) ≡ found f xs
found-none f x xs e = ap (λ o. first_of (cons_option o (filter_map f xs))) e

pub found-some : {X A : Type 0} (f : X → Option A) (x : X) (xs : List X) (a : A) → f x ≡ Some a → found f (x ∷ xs) ≡ Some a
found-some f x xs a e = ap (λ o. first_of (cons_option o (filter_map f xs))) e

pub found-after : {X A : Type 0} (f : X → Option A) (xs ys : List X) → found f xs ≡ None → found f (xs ++ ys) ≡ found f ys
found-after {X} {A} f xs ys none = ap first_of (filter_map-append f xs ys) ∙ by (filter_map f xs) none
  where
    by : (found_ones : List A) → first_of found_ones ≡ None → first_of (found_ones ++ filter_map f ys) ≡ first_of (filter_map f ys)
    by [] e = refl
    by (a ∷ more) e = absurd (None-Some (sym e))

pub found-before : {X A : Type 0} (f : X → Option A) (xs ys : List X) (a : A) → found f xs ≡ Some a → found f (xs ++ ys) ≡ Some a
found-before {X} {A} f xs ys a some = ap first_of (filter_map-append f xs ys) ∙ by (filter_map f xs) some
  where
    by : (found_ones : List A) → first_of found_ones ≡ Some a → first_of (found_ones ++ filter_map f ys) ≡ Some a
    by [] e = absurd (None-Some e)
    by (b ∷ more) e = e

-- nothing is found where no piece has it
pub found-nowhere : {X Y A : Type 0} (f : X → Option A) (piece : Y → List X) (ys : List Y) → ((y : Y) → In y ys → found f (piece y) ≡ None) → found f (flat_map piece ys) ≡ None
found-nowhere f piece [] none = refl
found-nowhere f piece (y ∷ ys) none = found-after f (piece y) (flat_map piece ys) (none y (inl refl)) ∙ found-nowhere f piece ys (λ z i. none z (inr i))

-- what one piece alone can have is found there
pub found-there : {X A : Type 0} (f : X → Option A) (piece : ℕ → List X) (ys : List ℕ) (s : ℕ) → In s ys → ((y : ℕ) → In y ys → y ≢ s → found f (piece y) ≡ None) → found f (flat_map piece ys) ≡ found f (piece s)
found-there f piece [] s i none = absurd i
found-there {X} {A} f piece (y ∷ ys) s i none = by (y == s) refl (λ j. found-there f piece ys s j (λ z k. none z (inr k)))
  where
    first : (o : Option A) → found f (piece s) ≡ o → found f (piece s ++ flat_map piece ys) ≡ o
    first (Some a) e = found-before f (piece s) (flat_map piece ys) a e
    first None e = found-after f (piece s) (flat_map piece ys) e ∙ found-nowhere f piece ys (λ z j. each z j (z == s) refl)
      where
        each : (z : ℕ) → In z ys → (b : Bool) → (z == s) ≡ b → found f (piece z) ≡ None
        each z j true same = ap (λ n. found f (piece n)) (eqb-true z s same) ∙ e
        each z j false other = none z (inr j) (λ same. false-true (sym other ∙ eq-eqb z s same))

    later : (b : Bool) → y ≢ s → In s (y ∷ ys) → In s ys
    later b other (inl e) = absurd (other (sym e))
    later b other (inr j) = j

    by : (b : Bool) → (y == s) ≡ b → (In s ys → found f (flat_map piece ys) ≡ found f (piece s)) → found f (piece y ++ flat_map piece ys) ≡ found f (piece s)
    by true e ih = ap (λ n. found f (piece n ++ flat_map piece ys)) (eqb-true y s e) ∙ first (found f (piece s)) refl
    by false e ih =
        let other : y ≢ s = λ same. false-true (sym e ∙ eq-eqb y s same) in
        found-after f (piece y) (flat_map piece ys) (none y (inl refl) other) ∙ ih (later false other i)

-- what holds of each member
pub all_from : {X : Type 0} (P : X → Type 0) (xs : List X) → ((x : X) → In x xs → P x) → AllByRecursion P xs
all_from P [] h = tt
all_from P (x ∷ xs) h = (h x (inl refl), all_from P xs (λ y i. h y (inr i)))

-- Pairs of members.

pub pairwise-append : {X : Type 0} (R : X → X → Type 0) (xs ys : List X) → Pairwise R xs → Pairwise R ys → ((x y : X) → In x xs → In y ys → R x y) → Pairwise R (xs ++ ys)
pairwise-append R [] ys p q between = q
pairwise-append R (x ∷ xs) ys p q between = (all_from (R x) (xs ++ ys) (λ y i. by y (in_append xs ys y i)), pairwise-append R xs ys p.1 q (λ a b i j. between a b (inr i) j))
  where
    by : (y : _) → In y xs ⊎ In y ys → R x y
    by y (inl i) = all_in (R x) xs y p.0 i
    by y (inr i) = between x y (inl refl) i

pub pairwise-flat : {X Y : Type 0} (R : Y → Y → Type 0) (S : X → X → Type 0) (f : X → List Y) (xs : List X) → Pairwise S xs → ((x : X) → Pairwise R (f x)) → ((x y : X) → S x y → (a b : Y) → In a (f x) → In b (f y) → R a b) → Pairwise R (flat_map f xs)
pairwise-flat R S f [] p each between = tt
pairwise-flat R S f (x ∷ xs) p each between = pairwise-append R (f x) (flat_map f xs) (each x) (pairwise-flat R S f xs p.1 each between)
    (λ a b i j. let from = in_flat_map f xs b j in between x from.0 (all_in (S x) xs from.0 p.0 from.1) a b i from.2)

-- two places hold the same where what they hold cannot stand before one another
pub pairwise-place : {X : Type 0} (R : X → X → Type 0) (xs : List X) → Pairwise R xs → (i j : ℕ) (x y : X) → slice_get xs i ≡ Some x → slice_get xs j ≡ Some y → (R x y → ⊥) → (R y x → ⊥) → i ≡ j
pairwise-place R [] p i j x y e f n m = absurd (None-Some e)
pairwise-place R (z ∷ xs) p zero zero x y e f n m = refl
pairwise-place R (z ∷ xs) p zero (suc j) x y e f n m = absurd (n (subst (λ a. R a y) (Some-inj e) (all_in (R z) xs y p.0 (at-in xs j y f))))
pairwise-place R (z ∷ xs) p (suc i) zero x y e f n m = absurd (m (subst (λ a. R a x) (Some-inj f) (all_in (R z) xs x p.0 (at-in xs i x e))))
pairwise-place R (z ∷ xs) p (suc i) (suc j) x y e f n m = ap suc (pairwise-place R xs p.1 i j x y e f n m)

pairwise-filter : {X : Type 0} (R : X → X → Type 0) (t : X → Bool) (xs : List X) → Pairwise R xs → Pairwise R (filter t xs)
pairwise-filter R t [] p = tt
pairwise-filter R t (x ∷ xs) p = by (t x) (pairwise-filter R t xs p.1)
  where
    by : (b : Bool) → Pairwise R (filter t xs) → Pairwise R (cond b (x ∷ filter t xs) (filter t xs))
    by true rest = (all_from (R x) (filter t xs) (λ y i. all_in (R x) xs y p.0 (in_filter t xs y i).0), rest)
    by false rest = rest

range-from : (a n k : ℕ) → In k (range_with_len a n) → a ≤ k
range-from a zero k i = absurd i
range-from a (suc n) k (inl e) = omega arith
range-from a (suc n) k (inr i) = let le = range-from (a + 1) n k i in omega arith

range-differs : (a n : ℕ) → Pairwise (λ h k. h ≢ k) (range_with_len a n)
range-differs a zero = tt
range-differs a (suc n) = (all_from (λ k. a ≢ k) (range_with_len (a + 1) n) (λ k i. below k (range-from (a + 1) n k i)), range-differs (a + 1) n)
  where
    below : (k : ℕ) → a + 1 ≤ k → a ≢ k
    below k le e = let no : ⊥ = omega arith in no

pub hosts-differ : (net : Network) → Pairwise (λ h k. h ≢ k) (all_hosts net)
hosts-differ net = pairwise-filter (λ h k. h ≢ k) (λ loc. is_host_kind (kind_of net loc)) (range_with_len 0 (length net.locations)) (range-differs 0 (length net.locations))
