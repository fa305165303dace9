-- Lists that grow at their end, each element beside what it was made of.
use Rattle.std.proofs.Common.{◌≡◌, ℕ, zero, suc, ◌+◌, ◌<◌, ◌⊎◌, inl, inr, List, [], ◌∷◌, ◌++◌, length, map, slice_get, get_or, Some, unwrap_or, refl, sym, ◌∙◌, ap, subst, arith}
use Rattle.std.proofs.lemmas.Option.{slice_get_read}

-- Something stands beside each of the first n elements of a list: R holds of a place and of the two that stand there.
pub record AreBeside {A B : Type 0} (R : ℕ → A → B → Type 0) (xs : List A) (n : ℕ) (ys : List B) : Type 0 where
  pub as_many : length ys ≡ n
  pub each : (k : ℕ) (x : A) (y : B) → slice_get xs k ≡ Some x → slice_get ys k ≡ Some y → R k x y

get-pushed : {X : Type 0} (xs : List X) (x y : X) (i : ℕ) → slice_get (xs ++ x ∷ []) i ≡ Some y → (slice_get xs i ≡ Some y) ⊎ ((i ≡ length xs) × (x ≡ y))
get-pushed [] x y zero e = inr (refl, ap (λ o. unwrap_or o x) e)
get-pushed [] x y (suc i) e = let no : ⊥ = cc in absurd no
get-pushed (z ∷ xs) x y zero e = inl e
get-pushed (z ∷ xs) x y (suc i) e = by (get-pushed xs x y i e)
  where
    by : (slice_get xs i ≡ Some y) ⊎ ((i ≡ length xs) × (x ≡ y)) → (slice_get xs i ≡ Some y) ⊎ ((suc i ≡ suc (length xs)) × (x ≡ y))
    by (inl h) = inl h
    by (inr h) = inr (ap suc h.0, h.1)

long-pushed : {X : Type 0} (xs : List X) (x : X) → length (xs ++ x ∷ []) ≡ length xs + 1
long-pushed [] x = refl
long-pushed (y ∷ xs) x = let h = long-pushed xs x in omega arith

-- something stands at each place
pub there : {X : Type 0} (xs : List X) (i : ℕ) → i < length xs → (x : X) × (slice_get xs i ≡ Some x)
there [] i l = let no : ⊥ = omega arith in absurd no
there (x ∷ xs) zero l = (x, refl)
there (x ∷ xs) (suc i) l = there xs i (omega arith)

pub beside-none : {A B : Type 0} (R : ℕ → A → B → Type 0) (xs : List A) (ys : List B) → ys ≡ [] → AreBeside R xs 0 ys
beside-none R xs ys e = subst (AreBeside R xs 0) (sym e) (record { as_many = refl; each = λ k x y s t. let no : ⊥ = cc in absurd no })

pub beside-more : {A B : Type 0} (R : ℕ → A → B → Type 0) (xs : List A) (n : ℕ) (ys after : List B) (x : A) (y : B) → AreBeside R xs n ys → slice_get xs n ≡ Some x → R n x y → after ≡ ys ++ y ∷ [] → AreBeside R xs (n + 1) after
beside-more {A} {B} R xs n ys after x y so at one pushed = subst (AreBeside R xs (n + 1)) (sym pushed) (record {
  as_many = (let a = so.as_many in let b = long-pushed ys y in omega arith);
  each = λ k u v s t. by k u v s (get-pushed ys y v k t);
})
  where
    by : (k : ℕ) (u : A) (v : B) → slice_get xs k ≡ Some u → (slice_get ys k ≡ Some v) ⊎ ((k ≡ length ys) × (y ≡ v)) → R k u v
    by k u v s (inl t) = so.each k u v s t
    by k u v s (inr h) =
        let here : k ≡ n = h.0 ∙ so.as_many in
        let which : x ≡ u = ap (λ o. unwrap_or o x) (sym at ∙ ap (slice_get xs) (sym here) ∙ s) in
        subst (λ i. R i u v) (sym here) (subst (λ z. R n z v) which (subst (R n x) h.1 one))

-- each of the first elements has something beside it
pub beside-at : {A B : Type 0} (R : ℕ → A → B → Type 0) (xs : List A) (n : ℕ) (ys : List B) → AreBeside R xs n ys → (k : ℕ) (x : A) → k < n → slice_get xs k ≡ Some x → (y : B) × R k x y
beside-at R xs n ys so k x l s = let y = there ys k (let a = so.as_many in omega arith) in (y.0, so.each k x y.0 s y.1)

-- what is read at a place stands there, seen under a map too
pub read-at : {X : Type 0} (xs : List X) (i : ℕ) (x : X) → i < length xs → x ≡ get_or xs i x → slice_get xs i ≡ Some x
read-at xs i x l e = slice_get_read xs (length xs) i x refl l e

pub seen-at : {X Y : Type 0} (f : X → Y) (xs : List X) (i : ℕ) (x : X) → i < length xs → x ≡ get_or xs i x → slice_get (map f xs) i ≡ Some (f x)
seen-at f [] i x l e = let no : ⊥ = omega arith in absurd no
seen-at f (w ∷ xs) zero x l e = ap (λ u. Some (f u)) (sym e)
seen-at f (w ∷ xs) (suc i) x l e = seen-at f xs i x (omega arith) e

pub long-seen : {X Y : Type 0} (f : X → Y) (xs : List X) → length (map f xs) ≡ length xs
long-seen f [] = refl
long-seen f (x ∷ xs) = ap suc (long-seen f xs)
