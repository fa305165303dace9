-- Laws of noting paths in turn.
use Rattle.std.proofs.Common.{◌≡◌, ◌||◌, ℕ, suc, zero, Bool, true, false, cond, List, [], ◌∷◌, ◌++◌, length, slice_get, append_assoc, append-nil, Some, refl, sym, ◌∙◌, ap, subst}
use Rattle.std.specs.List.{list_any}
use Rattle.merlin_model.specs.declared.policy.Path.{Path}
use Rattle.path_automaton.specs.States.{with_new, with_all_new}
use Rattle.path_automaton.proofs.Places.{is, is-same, is-itself, false-true}

pub with_all_new-append : (others xs ys : List Path) → with_all_new others (xs ++ ys) ≡ with_all_new (with_all_new others xs) ys
with_all_new-append others [] ys = refl
with_all_new-append others (x ∷ xs) ys = with_all_new-append (with_new others x) xs ys

pub with_all_new-last : (others xs : List Path) (x : Path) → with_all_new others (xs ++ x ∷ []) ≡ with_new (with_all_new others xs) x
with_all_new-last others xs x = with_all_new-append others xs (x ∷ [])

-- what is noted stands behind what was there
pub with_new-more : (others : List Path) (a : Path) → (more : List Path) × (with_new others a ≡ others ++ more)
with_new-more others a = by (list_any (λ b. is a b) others)
  where
    by : (t : Bool) → (more : List Path) × (cond t others (others ++ a ∷ []) ≡ others ++ more)
    by true = ([], sym (append-nil others))
    by false = (a ∷ [], refl)

pub with_all_new-more : (others xs : List Path) → (more : List Path) × (with_all_new others xs ≡ others ++ more)
with_all_new-more others [] = ([], sym (append-nil others))
with_all_new-more others (x ∷ xs) =
    let first = with_new-more others x in
    let rest = with_all_new-more (with_new others x) xs in
    (first.0 ++ rest.0, rest.1 ∙ ap (λ l. l ++ rest.0) first.1 ∙ append_assoc others first.0 rest.0)

get-append : (xs ys : List Path) (k : ℕ) (a : Path) → slice_get xs k ≡ Some a → slice_get (xs ++ ys) k ≡ Some a
get-append [] ys k a e = cc
get-append (x ∷ xs) ys zero a e = e
get-append (x ∷ xs) ys (suc k) a e = get-append xs ys k a e

-- a place keeps its path
pub with_all_new-keeps : (others xs : List Path) (k : ℕ) (a : Path) → slice_get others k ≡ Some a → slice_get (with_all_new others xs) k ≡ Some a
with_all_new-keeps others xs k a e = let more = with_all_new-more others xs in subst (λ l. slice_get l k ≡ Some a) (sym more.1) (get-append others more.0 k a e)

-- what is there is not noted again

any-at : (a : Path) (xs : List Path) (k : ℕ) → slice_get xs k ≡ Some a → list_any (λ b. is a b) xs ≡ true
any-at a [] k e = cc
any-at a (x ∷ xs) zero e = let same : x ≡ a = cc in ap (λ t. t || list_any (λ b. is a b) xs) (ap (is a) same ∙ is-itself a)
any-at a (x ∷ xs) (suc k) e = by (is a x) (any-at a xs k e)
  where
    by : (t : Bool) → list_any (λ b. is a b) xs ≡ true → (t || list_any (λ b. is a b) xs) ≡ true
    by true f = refl
    by false f = f

pub with_new-again : (a : Path) (xs : List Path) (k : ℕ) → slice_get xs k ≡ Some a → with_new xs a ≡ xs
with_new-again a xs k e = ap (λ t. cond t xs (xs ++ a ∷ [])) (any-at a xs k e)

get-last : (xs : List Path) (a : Path) → slice_get (xs ++ a ∷ []) (length xs) ≡ Some a
get-last [] a = refl
get-last (x ∷ xs) a = get-last xs a

any-get : (a : Path) (xs : List Path) → list_any (λ b. is a b) xs ≡ true → (k : ℕ) × (slice_get xs k ≡ Some a)
any-get a [] e = absurd (false-true e)
any-get a (x ∷ xs) e = by (is a x) refl e (any-get a xs)
  where
    by : (t : Bool) → is a x ≡ t → (t || list_any (λ b. is a b) xs) ≡ true → (list_any (λ b. is a b) xs ≡ true → (k : ℕ) × (slice_get xs k ≡ Some a)) → (k : ℕ) × (slice_get (x ∷ xs) k ≡ Some a)
    by true f e ih = (0, ap Some (sym (is-same a x f)))
    by false f e ih = let rest = ih e in (suc rest.0, rest.1)

-- what was noted has a place
pub with_new-place : (xs : List Path) (a : Path) → (k : ℕ) × (slice_get (with_new xs a) k ≡ Some a)
with_new-place xs a = by (list_any (λ b. is a b) xs) refl
  where
    by : (t : Bool) → list_any (λ b. is a b) xs ≡ t → (k : ℕ) × (slice_get (cond t xs (xs ++ a ∷ [])) k ≡ Some a)
    by true e = any-get a xs e
    by false e = (length xs, get-last xs a)

-- each of a list that was noted has a place
pub with_all_new-place : (others xs : List Path) (k : ℕ) (a : Path) → slice_get xs k ≡ Some a → (j : ℕ) × (slice_get (with_all_new others xs) j ≡ Some a)
with_all_new-place others [] k a e = cc
with_all_new-place others (x ∷ xs) zero a e =
    let first = with_new-place others x in
    (first.0, with_all_new-keeps (with_new others x) xs first.0 a (first.1 ∙ e))
with_all_new-place others (x ∷ xs) (suc k) a e = with_all_new-place (with_new others x) xs k a e
