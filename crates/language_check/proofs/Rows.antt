-- Rows of numbers that ascend, and words forwards.
use Rattle.std.proofs.Common.{◌≡◌, ◌<◌, ◌+◌, inl, inr, ℕ, suc, zero, List, [], ◌∷◌, ◌++◌, length, take, get_or, slice_get, Contains, Some, add-one, refl, ◌∙◌, ap, subst, arith}
use Rattle.std.specs.List.{AllByRecursion}
use Rattle.std.proofs.Math.Seq.{take-suc}
use Rattle.merlin_model.proofs.Members.{In, in_to}
use Rattle.language_check.specs.declared.ways.Ways.{Ways}
use Rattle.language_check.specs.Ways.{AreAscending, AreConsistent, place_in, followers_in}

pub all-at : {X : Type 0} (P : X → Type 0) (xs : List X) (i : ℕ) (d : X) → i < length xs → AllByRecursion P xs → P (get_or xs i d)
all-at P [] i d lt h = absurd (omega (arith, lt))
all-at P (x ∷ xs) zero d lt h = h.0
all-at P (x ∷ xs) (suc i) d lt h = all-at P xs i d (omega arith) h.1

pub ascending-take : (row : List ℕ) (i d : ℕ) → i < length row → AreAscending row → AllByRecursion (λ k. k < get_or row i d) (take i row)
ascending-take [] i d lt h = absurd (omega (arith, lt))
ascending-take (x ∷ row) zero d lt h = tt
ascending-take (x ∷ row) (suc i) d lt h = (all-at (λ k. x < k) row i d (omega arith) h.0, ascending-take row i d (omega arith) h.1)

in-at : (row : List ℕ) (i d : ℕ) → i < length row → In (get_or row i d) row
in-at [] i d lt = absurd (omega (arith, lt))
in-at (x ∷ row) zero d lt = inl refl
in-at (x ∷ row) (suc i) d lt = inr (in-at row i d (omega arith))

pub contains-at : (row : List ℕ) (i d : ℕ) → i < length row → Contains row (get_or row i d)
contains-at row i d lt = in_to row (get_or row i d) (in-at row i d lt)

pub get-at : {X : Type 0} (xs : List X) (i : ℕ) (d : X) → i < length xs → slice_get xs i ≡ Some (get_or xs i d)
get-at [] i d lt = absurd (omega (arith, lt))
get-at (x ∷ xs) zero d lt = refl
get-at (x ∷ xs) (suc i) d lt = get-at xs i d (omega arith)

pub all-get : {X : Type 0} (P : X → Type 0) (xs : List X) (i : ℕ) (a : X) → AllByRecursion P xs → slice_get xs i ≡ Some a → P a
all-get P [] i a h e = cc
all-get P (x ∷ xs) zero a h e = let same : x ≡ a = cc in subst P same h.0
all-get P (x ∷ xs) (suc i) a h e = all-get P xs i a h.1 e

pub take-more : {X : Type 0} (xs : List X) (i : ℕ) (d : X) → i < length xs → take (i + 1) xs ≡ take i xs ++ get_or xs i d ∷ []
take-more xs i d lt = ap (λ k. take k xs) (add-one i) ∙ take-suc xs i d lt

pub row-whole : (ways : Ways) → AreConsistent ways → (k : ℕ) → k < length ways.places → AllByRecursion (λ j. j < length ways.places) (followers_in ways k) × AreAscending (followers_in ways k)
row-whole ways h k lt =
    let place : place_in ways k < length ways.rows = all-at (λ loc. loc < length ways.rows) ways.places k 0 lt h.places in
    all-at (λ row. AllByRecursion (λ j. j < length ways.places) row × AreAscending row) ways.rows (place_in ways k) [] place h.below
