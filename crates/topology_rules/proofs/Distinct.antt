-- Lists whose elements differ.
use Rattle.std.proofs.Common.{◌≡◌, ℕ, zero, suc, Bool, true, false, ◌||◌, List, [], ◌∷◌, take, map, slice_get, Some, None, refl, sym, ◌∙◌, ap, subst}
use Rattle.std.specs.List.{AllByRecursion, IsDistinct, list_any}
use Rattle.std.specs.Cmp.{IsEquivalence}
use Rattle.merlin_model.specs.Networks.{Pairwise}

pub all_at : {X : Type 0} (P : X → Type 0) (xs : List X) (i : ℕ) (x : X) → AllByRecursion P xs → slice_get xs i ≡ Some x → P x
all_at P [] i x all at = absurd (none_is x at)
  where
    none_is : {X : Type 0} (x : X) → None ≡ Some x → ⊥
    none_is x e = cc
all_at P (y ∷ xs) zero x all at = let e : y ≡ x = cc in subst P e all.0
all_at P (y ∷ xs) (suc i) x all at = all_at P xs i x all.1 at

pub all_weaken : {X : Type 0} {P Q : X → Type 0} → ((x : X) → P x → Q x) → (xs : List X) → AllByRecursion P xs → AllByRecursion Q xs
all_weaken f [] all = tt
all_weaken f (x ∷ xs) all = (f x all.0, all_weaken f xs all.1)

pub all_map : {X Y : Type 0} (f : X → Y) (P : Y → Type 0) (xs : List X) → AllByRecursion (λ x. P (f x)) xs → AllByRecursion P (map f xs)
all_map f P [] all = tt
all_map f P (x ∷ xs) all = (all.0, all_map f P xs all.1)

pub all_unmap : {X Y : Type 0} (f : X → Y) (P : Y → Type 0) (xs : List X) → AllByRecursion P (map f xs) → AllByRecursion (λ x. P (f x)) xs
all_unmap f P [] all = tt
all_unmap f P (x ∷ xs) all = (all.0, all_unmap f P xs all.1)

pub pairwise_weaken : {X : Type 0} {R S : X → X → Type 0} → ((x y : X) → R x y → S x y) → (xs : List X) → Pairwise R xs → Pairwise S xs
pairwise_weaken f [] p = tt
pairwise_weaken f (x ∷ xs) p = (all_weaken (f x) xs p.0, pairwise_weaken f xs p.1)

pub pairwise_map : {X Y : Type 0} (f : X → Y) (R : Y → Y → Type 0) (xs : List X) → Pairwise (λ x y. R (f x) (f y)) xs → Pairwise R (map f xs)
pairwise_map f R [] p = tt
pairwise_map f R (x ∷ xs) p = (all_map f (R (f x)) xs p.0, pairwise_map f R xs p.1)

pub pairwise_unmap : {X Y : Type 0} (f : X → Y) (R : Y → Y → Type 0) (xs : List X) → Pairwise R (map f xs) → Pairwise (λ x y. R (f x) (f y)) xs
pairwise_unmap f R [] p = tt
pairwise_unmap f R (x ∷ xs) p = (all_unmap f (R (f x)) xs p.0, pairwise_unmap f R xs p.1)

all_both : {X : Type 0} (P Q : X → Type 0) (xs : List X) → AllByRecursion P xs → AllByRecursion Q xs → AllByRecursion (λ x. P x × Q x) xs
all_both P Q [] p q = tt
all_both P Q (x ∷ xs) p q = ((p.0, q.0), all_both P Q xs p.1 q.1)

pub pairwise_both : {X : Type 0} (R S : X → X → Type 0) (xs : List X) → Pairwise R xs → Pairwise S xs → Pairwise (λ x y. R x y × S x y) xs
pairwise_both R S [] p q = tt
pairwise_both R S (x ∷ xs) p q = (all_both (R x) (S x) xs p.0 q.0, pairwise_both R S xs p.1 q.1)

pub pairwise_from : {K : Type 0} (eq : K → K → Bool) (ks : List K) → IsDistinct eq ks → Pairwise (λ x y. eq x y ≡ false) ks
unfolding IsDistinct
pairwise_from eq [] d = tt
pairwise_from eq (k ∷ ks) d = (d.0, pairwise_from eq ks d.1)

pub distinct_from : {K : Type 0} (eq : K → K → Bool) (ks : List K) → Pairwise (λ x y. eq x y ≡ false) ks → IsDistinct eq ks
unfolding IsDistinct
distinct_from eq [] p = tt
distinct_from eq (k ∷ ks) p = (p.0, distinct_from eq ks p.1)

-- an element after an equal one
pub repeated : {K : Type 0} {eq : K → K → Bool} → IsEquivalence eq → (ks : List K) (i : ℕ) (k : K) → slice_get ks i ≡ Some k → list_any (eq k) (take i ks) ≡ true → IsDistinct eq ks → ⊥
unfolding IsDistinct
repeated laws [] i k at any d = absurd (none_is k at)
  where
    none_is : {X : Type 0} (x : X) → None ≡ Some x → ⊥
    none_is x e = cc
repeated laws (x ∷ ks) zero k at any d = absurd (no any)
  where
    no : false ≡ true → ⊥
    no e = cc
repeated {K} {eq} laws (x ∷ ks) (suc i) k at any d = by (eq k x) refl any (λ h. repeated laws ks i k at h d.1)
  where
    no : true ≡ false → ⊥
    no e = cc

    by : (b : Bool) → eq k x ≡ b → (b || list_any (eq k) (take i ks)) ≡ true → (list_any (eq k) (take i ks) ≡ true → ⊥) → ⊥
    by true e h rest = no (sym e ∙ (laws.symm k x ∙ all_at (λ y. eq x y ≡ false) ks i k d.0 at))
    by false e h rest = rest h

pub list_any-map : {X Y : Type 0} (f : X → Y) (p : Y → Bool) (xs : List X) → list_any p (map f xs) ≡ list_any (λ x. p (f x)) xs
list_any-map f p [] = refl
list_any-map f p (x ∷ xs) = ap (λ b. p (f x) || b) (list_any-map f p xs)
