-- Lists, element by element.
use Rattle.std.proofs.Common.{◌≡◌, ◌≤◌, ◌<◌, ◌+◌, ℕ, zero, suc, Bool, true, false, cond, List, [], ◌∷◌, ◌++◌, length, map, filter, find, take, drop, get_or, None, Some, refl, sym, ◌∙◌, ap, arith}
use Rattle.std.specs.List.{enumerate_from, flat_map, range_with_len}
use Rattle.product_graph.proofs.Lists.{take-more}

pub filter-append : {X : Type 0} (p : X → Bool) (xs ys : List X) → filter p (xs ++ ys) ≡ filter p xs ++ filter p ys
filter-append p [] ys = refl
filter-append {X} p (x ∷ xs) ys = by (p x) (filter-append p xs ys)
  where
    by : (b : Bool) → filter p (xs ++ ys) ≡ filter p xs ++ filter p ys → cond b (x ∷ filter p (xs ++ ys)) (filter p (xs ++ ys)) ≡ cond b (x ∷ filter p xs) (filter p xs) ++ filter p ys
    by true e = ap (λ zs. x ∷ zs) e
    by false e = e

range-suc : (a n : ℕ) → range_with_len a (suc n) ≡ range_with_len a n ++ (a + n) ∷ []
range-suc a zero = ap (λ k. k ∷ []) (let e : a ≡ a + 0 = omega arith in e)
range-suc a (suc n) = ap (λ ks. a ∷ ks) (range-suc (a + 1) n ∙ ap (λ k. range_with_len (a + 1) n ++ k ∷ []) (let e : (a + 1) + n ≡ a + suc n = omega arith in e))

range-next : (n : ℕ) → range_with_len 0 (n + 1) ≡ range_with_len 0 n ++ n ∷ []
range-next n =
    ap (range_with_len 0) (let e : n + 1 ≡ suc n = omega arith in e) ∙ range-suc 0 n ∙ ap (λ k. range_with_len 0 n ++ k ∷ []) (let e : 0 + n ≡ n = omega arith in e)

-- the numbers that pass a test, and one number more
pub range-filter : (p : ℕ → Bool) (n : ℕ) (made : List ℕ) → made ≡ filter p (range_with_len 0 n) → made ++ filter p (n ∷ []) ≡ filter p (range_with_len 0 (n + 1))
range-filter p n made e = ap (λ l. l ++ filter p (n ∷ [])) e ∙ sym (ap (filter p) (range-next n) ∙ filter-append p (range_with_len 0 n) (n ∷ []))

-- the elements that pass a test, and one element more
pub taken-filter : {X : Type 0} (p : X → Bool) (xs : List X) (i : ℕ) (d : X) (made : List X) → i < length xs → made ≡ filter p (take i xs) → made ++ filter p (get_or xs i d ∷ []) ≡ filter p (take (i + 1) xs)
taken-filter p xs i d made lt e = ap (λ l. l ++ filter p (get_or xs i d ∷ [])) e ∙ sym (ap (filter p) (take-more xs i d lt) ∙ filter-append p (take i xs) (get_or xs i d ∷ []))

-- What is found from a place on.

pub drop-more : {X : Type 0} (xs : List X) (i : ℕ) (d : X) → i < length xs → drop i xs ≡ get_or xs i d ∷ drop (i + 1) xs
drop-more [] i d lt = absurd (omega (arith, lt))
drop-more {X} (x ∷ xs) zero d lt = by xs
  where
    by : (ys : List X) → x ∷ ys ≡ x ∷ drop 0 ys
    by [] = refl
    by (y ∷ ys) = refl
drop-more (x ∷ xs) (suc i) d lt = drop-more xs i d (omega (arith, lt)) ∙ ap (λ n. get_or xs i d ∷ drop n (x ∷ xs)) (let e : suc (i + 1) ≡ suc i + 1 = omega arith in e)

pub find-here : {X : Type 0} (p : X → Bool) (xs : List X) (i : ℕ) (d : X) → i < length xs → p (get_or xs i d) ≡ true → find p (drop i xs) ≡ find p xs → find p xs ≡ Some (get_or xs i d)
find-here p xs i d lt passes e = sym e ∙ ap (find p) (drop-more xs i d lt) ∙ ap (λ b. cond b (Some (get_or xs i d)) (find p (drop (i + 1) xs))) passes

pub find-on : {X : Type 0} (p : X → Bool) (xs : List X) (i : ℕ) (d : X) → i < length xs → p (get_or xs i d) ≡ false → find p (drop i xs) ≡ find p xs → find p (drop (i + 1) xs) ≡ find p xs
find-on p xs i d lt fails e = sym (ap (λ b. cond b (Some (get_or xs i d)) (find p (drop (i + 1) xs))) fails) ∙ sym (ap (find p) (drop-more xs i d lt)) ∙ e

pub drop-past : {X : Type 0} (xs : List X) (i : ℕ) → length xs ≤ i → drop i xs ≡ []
drop-past {X} [] i le = by i
  where
    by : (i : ℕ) → drop {A = X} i [] ≡ []
    by zero = refl
    by (suc i) = refl
drop-past (x ∷ xs) zero le = absurd (omega (arith, le))
drop-past (x ∷ xs) (suc i) le = drop-past xs i (omega (arith, le))

pub find-past : {X : Type 0} (p : X → Bool) (xs : List X) (i : ℕ) → length xs ≤ i → find p (drop i xs) ≡ find p xs → find p xs ≡ None
find-past p xs i le e = sym e ∙ ap (find p) (drop-past xs i le)

-- What is made of numbered elements, and one element more.

flat-append : {X Y : Type 0} (f : X → List Y) (xs ys : List X) → flat_map f (xs ++ ys) ≡ flat_map f xs ++ flat_map f ys
flat-append f [] ys = refl
flat-append f (x ∷ xs) ys = ap (λ r. f x ++ r) (flat-append f xs ys) ∙ sym (through (f x) (flat_map f xs) (flat_map f ys))
  where
    through : {Y : Type 0} (ps qs rs : List Y) → (ps ++ qs) ++ rs ≡ ps ++ (qs ++ rs)
    through [] qs rs = refl
    through (p ∷ ps) qs rs = ap (λ r. p ∷ r) (through ps qs rs)

append-none : {X : Type 0} (xs : List X) → xs ++ [] ≡ xs
append-none [] = refl
append-none (x ∷ xs) = ap (λ zs. x ∷ zs) (append-none xs)

numbered-append : {X : Type 0} (n : ℕ) (xs : List X) (x : X) → enumerate_from n (xs ++ x ∷ []) ≡ enumerate_from n xs ++ (n + length xs, x) ∷ []
numbered-append n [] x = ap (λ k. (k, x) ∷ []) (let e : n ≡ n + 0 = omega arith in e)
numbered-append n (y ∷ xs) x = ap (λ r. (n, y) ∷ r) (numbered-append (n + 1) xs x ∙ ap (λ k. enumerate_from (n + 1) xs ++ (k, x) ∷ []) (let e : (n + 1) + length xs ≡ n + suc (length xs) = omega arith in e))

pub take-long : {X : Type 0} (xs : List X) (n : ℕ) → n ≤ length xs → length (take n xs) ≡ n
take-long [] zero le = refl
take-long (x ∷ xs) zero le = refl
take-long [] (suc n) le = absurd (omega (arith, le))
take-long (x ∷ xs) (suc n) le = ap suc (take-long xs n (omega (arith, le)))

pub numbered-next : {X Y : Type 0} (f : ℕ × X → List Y) (xs : List X) (i : ℕ) (d : X) → i < length xs → flat_map f (enumerate_from 0 (take (i + 1) xs)) ≡ flat_map f (enumerate_from 0 (take i xs)) ++ f (i, get_or xs i d)
numbered-next f xs i d lt =
    ap (λ l. flat_map f (enumerate_from 0 l)) (take-more xs i d lt)
    ∙ ap (flat_map f) (numbered-append 0 (take i xs) (get_or xs i d))
    ∙ ap (λ k. flat_map f (enumerate_from 0 (take i xs) ++ (k, get_or xs i d) ∷ [])) (let long = take-long xs i (omega (arith, lt)) in let e : 0 + length (take i xs) ≡ i = omega (arith, long) in e)
    ∙ flat-append f (enumerate_from 0 (take i xs)) ((i, get_or xs i d) ∷ [])
    ∙ ap (λ r. flat_map f (enumerate_from 0 (take i xs)) ++ r) (append-none (f (i, get_or xs i d)))

pub mapped-next : {X Y : Type 0} (f : X → Y) (xs : List X) (i : ℕ) (d : X) → i < length xs → map f (take (i + 1) xs) ≡ map f (take i xs) ++ f (get_or xs i d) ∷ []
mapped-next {X} f xs i d lt = ap (map f) (take-more xs i d lt) ∙ snoc (take i xs) (get_or xs i d)
  where
    snoc : (ys : List X) (y : X) → map f (ys ++ y ∷ []) ≡ map f ys ++ f y ∷ []
    snoc [] y = refl
    snoc (z ∷ ys) y = ap (λ r. f z ∷ r) (snoc ys y)

pub split-at : {X : Type 0} (xs : List X) (i : ℕ) (d : X) → i < length xs → xs ≡ take i xs ++ get_or xs i d ∷ drop (i + 1) xs
split-at [] i d lt = absurd (omega (arith, lt))
split-at {X} (x ∷ xs) zero d lt = by xs
  where
    by : (ys : List X) → x ∷ ys ≡ x ∷ drop 0 ys
    by [] = refl
    by (y ∷ ys) = refl
split-at (x ∷ xs) (suc i) d lt = ap (λ r. x ∷ r) (split-at xs i d (omega (arith, lt))) ∙ ap (λ n. x ∷ (take i xs ++ get_or xs i d ∷ drop n (x ∷ xs))) (let e : suc (i + 1) ≡ suc i + 1 = omega arith in e)

pub mapped-split : {X Y : Type 0} (f : X → Y) (xs : List X) (i : ℕ) (d : X) → i < length xs → map f xs ≡ map f (take i xs) ++ f (get_or xs i d) ∷ map f (drop (i + 1) xs)
mapped-split {X} f xs i d lt = ap (map f) (split-at xs i d lt) ∙ append (take i xs) (get_or xs i d ∷ drop (i + 1) xs)
  where
    append : (ys zs : List X) → map f (ys ++ zs) ≡ map f ys ++ map f zs
    append [] zs = refl
    append (y ∷ ys) zs = ap (λ r. f y ∷ r) (append ys zs)

pub taken-all : {X : Type 0} (xs : List X) (n : ℕ) → length xs ≤ n → take n xs ≡ xs
taken-all [] zero le = refl
taken-all [] (suc n) le = refl
taken-all (x ∷ xs) zero le = absurd (omega (arith, le))
taken-all (x ∷ xs) (suc n) le = ap (λ r. x ∷ r) (taken-all xs n (omega (arith, le)))
