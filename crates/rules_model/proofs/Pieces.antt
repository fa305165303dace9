-- Lists that are made piece by piece: what filters keep of them, and their order.
use Rattle.std.proofs.Common.{◌≡◌, ◌≢◌, ℕ, zero, suc, ◌<◌, ◌≤◌, ◌==◌, ◌+◌, ◌⊎◌, inl, inr, Bool, true, false, cond, List, [], ◌∷◌, ◌++◌, append-nil, map, filter, filter_map, length, Option, None, Some, refl, sym, ◌∙◌, ap, ap₂, subst, arith}
use Rattle.std.proofs.lemmas.Bool.{eq-eqb}
use Rattle.std.proofs.lemmas.List.Elements.{filter-append}
use Rattle.std.specs.List.{AllByRecursion, flat_map, range_with_len, cons_option}
use Rattle.merlin_model.specs.Networks.{Pairwise}
use Rattle.merlin_model.proofs.Members.{In, all_in, in_filter}

-- Filters.

-- a test that has one answer keeps all or nothing
pub filter-all : {X : Type 0} (t : X → Bool) (b : Bool) (xs : List X) → ((x : X) → In x xs → t x ≡ b) → filter t xs ≡ cond b xs []
filter-all t true [] h = refl
filter-all t false [] h = refl
filter-all t true (x ∷ xs) h = ap (λ c. cond c (x ∷ filter t xs) (filter t xs)) (h x (inl refl)) ∙ ap (λ ys. x ∷ ys) (filter-all t true xs (λ y i. h y (inr i)))
filter-all t false (x ∷ xs) h = ap (λ c. cond c (x ∷ filter t xs) (filter t xs)) (h x (inl refl)) ∙ filter-all t false xs (λ y i. h y (inr i))

pub not-same : (a b : ℕ) → a ≢ b → (a == b) ≡ false
not-same a b h = grind (arith, h)

-- of pieces that are told apart by a number, the filter keeps that of the number
pub filter-piece : {X : Type 0} (t : X → Bool) (f : ℕ → List X) (v : ℕ) (xs : List ℕ) → ((x : ℕ) (y : X) → In y (f x) → t y ≡ (x == v)) → Pairwise (λ a b. a < b) xs → In v xs → filter t (flat_map f xs) ≡ f v
filter-piece t f v [] told up h = absurd h
filter-piece {X} t f v (x ∷ xs) told up h = filter-append t (f x) (flat_map f xs) ∙ by h (filter-piece t f v xs told up.1)
  where
    by : (v ≡ x) ⊎ In v xs → (In v xs → filter t (flat_map f xs) ≡ f v) → filter t (f x) ++ filter t (flat_map f xs) ≡ f v
    by (inl e) ih =
        ap₂ (λ a b. a ++ b) (filter-all t true (f x) (λ y i. told x y i ∙ eq-eqb x v (sym e))) (nothing xs (λ z i. let lt = all_in (λ y. x < y) xs z up.0 i in not-same z v (λ s. let no_way : ⊥ = omega arith in no_way)))
        ∙ append-nil (f x) ∙ ap f (sym e)
      where
        nothing : (zs : List ℕ) → ((z : ℕ) → In z zs → (z == v) ≡ false) → filter t (flat_map f zs) ≡ []
        nothing [] other = refl
        nothing (z ∷ zs) other =
            filter-append t (f z) (flat_map f zs)
            ∙ ap₂ (λ a b. a ++ b) (filter-all t false (f z) (λ y i. told z y i ∙ other z (inl refl))) (nothing zs (λ w i. other w (inr i)))
    by (inr i) ih =
        ap (λ ys. ys ++ filter t (flat_map f xs)) (filter-all t false (f x) (λ y j. told x y j ∙ not-same x v (λ s. let lt = all_in (λ y. x < y) xs v up.0 i in let no_way : ⊥ = omega arith in no_way)))
        ∙ ih i

-- a test that has one answer in each piece goes over the pieces
pub filter-pieces : {X A : Type 0} (t : A → Bool) (f : X → List A) (p : X → Bool) (xs : List X) → ((x : X) (a : A) → In a (f x) → t a ≡ p x) → filter t (flat_map f xs) ≡ flat_map f (filter p xs)
filter-pieces t f p [] told = refl
filter-pieces {X} t f p (x ∷ xs) told =
    filter-append t (f x) (flat_map f xs) ∙ ap₂ (λ a b. a ++ b) (filter-all t (p x) (f x) (told x)) (filter-pieces t f p xs told) ∙ by (p x)
  where
    by : (b : Bool) → cond b (f x) [] ++ flat_map f (filter p xs) ≡ flat_map f (cond b (x ∷ filter p xs) (filter p xs))
    by true = refl
    by false = refl

-- equal pieces
pub flat_map-same : {X A : Type 0} (f g : X → List A) (xs : List X) → ((x : X) → In x xs → f x ≡ g x) → flat_map f xs ≡ flat_map g xs
flat_map-same f g [] h = refl
flat_map-same f g (x ∷ xs) h = ap₂ (λ a b. a ++ b) (h x (inl refl)) (flat_map-same f g xs (λ y i. h y (inr i)))

pub filter_map-same : {X A : Type 0} (f g : X → Option A) (xs : List X) → ((x : X) → In x xs → f x ≡ g x) → filter_map f xs ≡ filter_map g xs
filter_map-same f g [] h = refl
filter_map-same f g (x ∷ xs) h = ap₂ cons_option (h x (inl refl)) (filter_map-same f g xs (λ y i. h y (inr i)))

pub map-same : {X A : Type 0} (f g : X → A) (xs : List X) → ((x : X) → In x xs → f x ≡ g x) → map f xs ≡ map g xs
map-same f g [] h = refl
map-same f g (x ∷ xs) h = ap₂ (λ a b. a ∷ b) (h x (inl refl)) (map-same f g xs (λ y i. h y (inr i)))

-- What a filter that maps keeps.
pub in_filter_map : {X A : Type 0} (f : X → Option A) (xs : List X) (a : A) → In a (filter_map f xs) → (x : X) × In x xs × (f x ≡ Some a)
in_filter_map f [] a h = absurd h
in_filter_map {X} {A} f (x ∷ xs) a h = by (f x) refl h (in_filter_map f xs a)
  where
    on : ((y : X) × In y xs × (f y ≡ Some a)) → (y : X) × In y (x ∷ xs) × (f y ≡ Some a)
    on m = (m.0, inr m.1, m.2)

    by : (o : Option A) → f x ≡ o → In a (cons_option o (filter_map f xs)) → (In a (filter_map f xs) → (y : X) × In y xs × (f y ≡ Some a)) → (y : X) × In y (x ∷ xs) × (f y ≡ Some a)
    by None e i ih = on (ih i)
    by (Some b) e (inl same) ih = (x, inl refl, e ∙ ap Some (sym same))
    by (Some b) e (inr i) ih = on (ih i)

pub filter_map_in : {X A : Type 0} (f : X → Option A) (xs : List X) (x : X) (a : A) → In x xs → f x ≡ Some a → In a (filter_map f xs)
filter_map_in f [] x a h e = absurd h
filter_map_in {A = A} f (y ∷ xs) x a (inl same) e = subst (λ o. In a (cons_option o (filter_map f xs))) (sym (sym (ap f same) ∙ e)) (inl refl)
filter_map_in {A = A} f (y ∷ xs) x a (inr h) e = by (f y) (filter_map_in f xs x a h e)
  where
    by : (o : Option A) → In a (filter_map f xs) → In a (cons_option o (filter_map f xs))
    by None i = i
    by (Some b) i = inr i

-- Order.

pub range-above : (a n m : ℕ) → m ≤ a → AllByRecursion (λ k. m ≤ k) (range_with_len a n)
range-above a zero m le = tt
range-above a (suc n) m le = (le, range-above (a + 1) n m (omega arith))

pub range-up : (a n : ℕ) → Pairwise (λ k l. k < l) (range_with_len a n)
range-up a zero = tt
range-up a (suc n) = (higher (range_with_len (a + 1) n) (range-above (a + 1) n (a + 1) (omega arith)), range-up (a + 1) n)
  where
    higher : (xs : List ℕ) → AllByRecursion (λ k. a + 1 ≤ k) xs → AllByRecursion (λ k. a < k) xs
    higher [] h = tt
    higher (x ∷ xs) h = let le = h.0 in (omega arith, higher xs h.1)

pub all-from : {X : Type 0} (P : X → Type 0) (xs : List X) → ((x : X) → In x xs → P x) → AllByRecursion P xs
all-from P [] h = tt
all-from P (x ∷ xs) h = (h x (inl refl), all-from P xs (λ y i. h y (inr i)))

pub filter-up : {X : Type 0} (R : X → X → Type 0) (t : X → Bool) (xs : List X) → Pairwise R xs → Pairwise R (filter t xs)
filter-up R t [] up = tt
filter-up {X} R t (x ∷ xs) up = by (t x) (filter-up R t xs up.1)
  where
    by : (b : Bool) → Pairwise R (filter t xs) → Pairwise R (cond b (x ∷ filter t xs) (filter t xs))
    by true rest = (all-from (R x) (filter t xs) (λ y i. all_in (R x) xs y up.0 (in_filter t xs y i).0), rest)
    by false rest = rest

pub filter_map-up : {X A : Type 0} (R : X → X → Type 0) (S : A → A → Type 0) (f : X → Option A) (xs : List X) →
    ((x y : X) (a b : A) → R x y → f x ≡ Some a → f y ≡ Some b → S a b) → Pairwise R xs → Pairwise S (filter_map f xs)
filter_map-up R S f [] keeps up = tt
filter_map-up {X} {A} R S f (x ∷ xs) keeps up = by (f x) refl (filter_map-up R S f xs keeps up.1)
  where
    by : (o : Option A) → f x ≡ o → Pairwise S (filter_map f xs) → Pairwise S (cons_option o (filter_map f xs))
    by None e rest = rest
    by (Some a) e rest = (all-from (S a) (filter_map f xs) (λ b i. let m = in_filter_map f xs b i in keeps x m.0 a b (all_in (R x) xs m.0 up.0 m.1) e m.2), rest)

-- Where there is more than one, there is another.
pub record HasOther {X : Type 0} (number : X → ℕ) (xs : List X) (x : X) : Type 0 where
  pub other : X
  pub among : In other xs
  pub differs : number other ≢ number x

pub another : {X : Type 0} (number : X → ℕ) (xs : List X) (x : X) → Pairwise (λ a b. number a < number b) xs → In x xs → length xs ≢ 1 → HasOther number xs x
another number [] x up h more = absurd h
another number (y ∷ []) x up h more = absurd (more refl)
another number (y ∷ z ∷ xs) x up (inl e) more = record { other = z; among = inr (inl refl); differs = let lt = up.0.0 in let same : number x ≡ number y = ap number e in λ s. let no_way : ⊥ = omega arith in no_way }
another number (y ∷ z ∷ xs) x up (inr h) more = record { other = y; among = inl refl; differs = let lt = all_in (λ b. number y < number b) (z ∷ xs) x up.0 h in λ s. let no_way : ⊥ = omega arith in no_way }

pub not_alone : {X : Type 0} (number : X → ℕ) (xs : List X) (x y : X) → In x xs → In y xs → number x ≢ number y → length xs ≢ 1
not_alone number [] x y h k differ one = absurd h
not_alone number (z ∷ []) x y (inl e) (inl f) differ one = differ (ap number (e ∙ sym f))
not_alone number (z ∷ []) x y (inl e) (inr k) differ one = k
not_alone number (z ∷ []) x y (inr h) k differ one = h
not_alone number (z ∷ w ∷ xs) x y h k differ one = let no_way : ⊥ = omega (arith, one) in no_way
