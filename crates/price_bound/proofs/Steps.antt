-- Steps of loops that try one after the other.
use Rattle.std.proofs.Common.{ℕ, zero, suc, ◌≡◌, ◌<◌, ◌≤◌, ◌+◌, nat_eq, Bool, true, false, List, [], ◌∷◌, drop, length, get_or, Some, slice_get, refl, sym, ap, subst, arith}
use Rattle.std.specs.Result.{IfOk}
use Rattle.std.specs.declared.result.Result.{Result}
use Rattle.std.specs.declared.result.Result.TheVariants.{Ok, Err}
use Rattle.std.specs.List.{AllByRecursion}
use Rattle.graph_search.proofs.Places.{none-some, some-same}

pub more : (Q : ℕ → Type 0) (n : ℕ) → ((k : ℕ) → k < n → Q k) → Q n → (k : ℕ) → k < n + 1 → Q k
more Q n before here k h = by (nat_eq k n) refl
  where
    by : (b : Bool) → nat_eq k n ≡ b → Q k
    by true e = let at : k ≡ n = grind arith in subst Q (sym at) here
    by false e = before k (grind arith)

pub ok-so : {X E : Type 0} (P Q : X → Type 0) (r : Result X E) → ((x : X) → P x → Q x) → IfOk r P → IfOk r Q
ok-so P Q (Ok x) so h = so x h
ok-so P Q (Err e) so h = h

pub drop-next : {X : Type 0} (xs : List X) (k : ℕ) (x : X) → slice_get xs k ≡ Some x → drop k xs ≡ x ∷ drop (suc k) xs
drop-next [] k x e = absurd (none-some e)
drop-next (y ∷ xs) zero x e = ap (λ z. z ∷ xs) (some-same e)
drop-next (y ∷ xs) (suc k) x e = drop-next xs k x e

pub drop-end : {X : Type 0} (xs : List X) (k : ℕ) → length xs ≤ k → drop k xs ≡ []
drop-end [] zero h = refl
drop-end [] (suc k) h = refl
drop-end (x ∷ xs) zero h = let bad : ⊥ = omega arith in absurd bad
drop-end (x ∷ xs) (suc k) h = drop-end xs k (omega arith)

pub all-index : {X : Type 0} (P : X → Type 0) (xs : List X) (k : ℕ) (d : X) → AllByRecursion P xs → k < length xs → P (get_or xs k d)
all-index P [] k d all h = let bad : ⊥ = omega arith in absurd bad
all-index P (x ∷ xs) zero d all h = all.0
all-index P (x ∷ xs) (suc k) d all h = all-index P xs k d all.1 (omega arith)
