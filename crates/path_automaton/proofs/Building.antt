-- The tables of what was found are those of the path.
use Rattle.std.proofs.Common.{◌≡◌, ◌≢◌, ◌<◌, inl, inr, ℕ, suc, zero, Bool, true, false, List, [], ◌∷◌, nat_lt, length, map, get_or, slice_get, Contains, Some, refl, sym, ◌∙◌, ap, subst, arith}
use Rattle.std.specs.List.{AllByRecursion, flat_map}
use Rattle.std.proofs.lemmas.Option.{get_or_from_slice_get}
use Rattle.merlin_model.specs.declared.policy.Symbol.{Symbol}
use Rattle.merlin_model.specs.declared.policy.Path.{Path, Nothing}
use Rattle.merlin_model.specs.Networks.{AreDifferent}
use Rattle.merlin_model.proofs.Members.{In, in_from}
use Rattle.path_regex.specs.Normal.{normal_of}
use Rattle.path_regex.specs.Derivatives.{derivative_of}
use Rattle.path_automaton.specs.declared.classes.Classes.{Classes}
use Rattle.path_automaton.specs.Classes.{AreClasses}
use Rattle.path_automaton.specs.States.{IsMadeOf, IsReached, with_all_new, followers, HasStates}
use Rattle.path_automaton.specs.Followed.{AreApart, AreFollowers, IsReachedFrom, AreRows, HasMany}
use Rattle.path_automaton.proofs.Noting.{with_all_new-append}
use Rattle.path_automaton.proofs.Twins.{blind}

-- Places in lists.

pub get-below : {X : Type 0} (xs : List X) (k : ℕ) (a : X) → slice_get xs k ≡ Some a → k < length xs
get-below [] k a e = cc
get-below (x ∷ xs) zero a e = omega arith
get-below (x ∷ xs) (suc k) a e = let lt = get-below xs k a e in omega arith

pub below-get : {X : Type 0} (xs : List X) (k : ℕ) → k < length xs → (a : X) × (slice_get xs k ≡ Some a)
below-get [] k lt = absurd (omega (arith, lt))
below-get (x ∷ xs) zero lt = (x, refl)
below-get (x ∷ xs) (suc k) lt = below-get xs k (omega arith)

pub get-map : {X Y : Type 0} (f : X → Y) (xs : List X) (k : ℕ) (a : X) → slice_get xs k ≡ Some a → slice_get (map f xs) k ≡ Some (f a)
get-map f [] k a e = cc
get-map f (x ∷ xs) zero a e = let same : x ≡ a = cc in ap (λ y. Some (f y)) same
get-map f (x ∷ xs) (suc k) a e = get-map f xs k a e

pub map-length : {X Y : Type 0} (f : X → Y) (xs : List X) → length (map f xs) ≡ length xs
map-length f [] = refl
map-length f (x ∷ xs) = ap suc (map-length f xs)

pub get-in : {X : Type 0} (xs : List X) (k : ℕ) (a : X) → slice_get xs k ≡ Some a → In a xs
get-in [] k a e = cc
get-in (x ∷ xs) zero a e = inl cc
get-in (x ∷ xs) (suc k) a e = inr (get-in xs k a e)

pub in-get : {X : Type 0} (xs : List X) (a : X) → In a xs → (k : ℕ) × (slice_get xs k ≡ Some a)
in-get [] a i = absurd i
in-get (x ∷ xs) a (inl e) = (0, ap Some (sym e))
in-get (x ∷ xs) a (inr i) = let rest = in-get xs a i in (suc rest.0, rest.1)

pub all-get : {X : Type 0} (P : X → Type 0) (xs : List X) (k : ℕ) (a : X) → AllByRecursion P xs → slice_get xs k ≡ Some a → P a
all-get P [] k a h e = cc
all-get P (x ∷ xs) zero a h e = let same : x ≡ a = cc in subst P same h.0
all-get P (x ∷ xs) (suc k) a h e = all-get P xs k a h.1 e

pub all-from : {X : Type 0} (P : X → Type 0) (xs : List X) → ((k : ℕ) (a : X) → slice_get xs k ≡ Some a → P a) → AllByRecursion P xs
all-from P [] f = tt
all-from P (x ∷ xs) f = (f 0 x refl, all-from P xs (λ k a e. f (suc k) a e))

pub one-place : (forms : List Path) → AreApart forms → (i j : ℕ) (a : Path) → slice_get forms i ≡ Some a → slice_get forms j ≡ Some a → i ≡ j
one-place forms h i j a ei ej = by (nat_lt i j) (nat_lt j i) refl refl
  where
    li : i < length forms
    li = get-below forms i a ei

    lj : j < length forms
    lj = get-below forms j a ej

    same : get_or forms i Nothing ≡ get_or forms j Nothing
    same = get_or_from_slice_get forms i a Nothing ei ∙ sym (get_or_from_slice_get forms j a Nothing ej)

    by : (s t : Bool) → nat_lt i j ≡ s → nat_lt j i ≡ t → i ≡ j
    by true t e f = let lt : i < j = grind arith in absurd (h i j Nothing lt lj same)
    by false true e f = let lt : j < i = grind arith in absurd (h j i Nothing lt li (sym same))
    by false false e f = grind arith

pub pairwise : (forms : List Path) → AreApart forms → AreDifferent forms
pairwise [] h = tt
pairwise (a ∷ rest) h = (first, pairwise rest (λ i j d lt long. h (suc i) (suc j) d (omega arith) (omega arith)))
  where
    first : AllByRecursion (λ v. a ≢ v) rest
    first = all-from (λ v. a ≢ v) rest (λ k v e same. let lt = get-below rest k v e in h 0 (suc k) v (omega arith) (omega arith) (same ∙ sym (get_or_from_slice_get rest k v v e)))

-- Rows.

pub follower : (states : List Path) (form : Path) (symbols : List Symbol) (row : List ℕ) → AreFollowers states form symbols row → (k : ℕ) (x : Symbol) → slice_get symbols k ≡ Some x → (q : ℕ) × (slice_get row k ≡ Some q) × (slice_get states q ≡ Some (derivative_of form x))
follower states form [] row h k x e = cc
follower states form (y ∷ ys) [] h k x e = absurd h
follower states form (y ∷ ys) (p ∷ ps) h zero x e = let same : y ≡ x = cc in (p, refl, h.0 ∙ ap (λ z. Some (derivative_of form z)) same)
follower states form (y ∷ ys) (p ∷ ps) h (suc k) x e = follower states form ys ps h.1 k x e

pub followed : (states : List Path) (form : Path) (symbols : List Symbol) (row : List ℕ) → AreFollowers states form symbols row → (k q : ℕ) → slice_get row k ≡ Some q → (x : Symbol) × (slice_get symbols k ≡ Some x) × (slice_get states q ≡ Some (derivative_of form x))
followed states form [] [] h k q e = cc
followed states form [] (p ∷ ps) h k q e = absurd h
followed states form (y ∷ ys) [] h k q e = cc
followed states form (y ∷ ys) (p ∷ ps) h zero q e = let same : p ≡ q = cc in (y, refl, ap (slice_get states) (sym same) ∙ h.0)
followed states form (y ∷ ys) (p ∷ ps) h (suc k) q e = followed states form ys ps h.1 k q e

pub row-at : (states : List Path) (symbols : List Symbol) (forms : List Path) (rows : List (List ℕ)) → AreRows states symbols forms rows → length rows ≡ length forms → (q : ℕ) (form : Path) → slice_get forms q ≡ Some form → (row : List ℕ) × (slice_get rows q ≡ Some row) × AreFollowers states form symbols row
row-at states symbols [] rows h l q form e = cc
row-at states symbols (f ∷ forms) [] h l q form e = absurd (omega (arith, l))
row-at states symbols (f ∷ forms) (r ∷ rows) h l zero form e = let same : f ≡ form = cc in (r, refl, subst (λ g. AreFollowers states g symbols r) same h.0)
row-at states symbols (f ∷ forms) (r ∷ rows) h l (suc q) form e = row-at states symbols forms rows h.1 (omega arith) q form e

pub form-at : (states : List Path) (symbols : List Symbol) (forms : List Path) (rows : List (List ℕ)) → AreRows states symbols forms rows → (q : ℕ) (row : List ℕ) → slice_get rows q ≡ Some row → (form : Path) × (slice_get forms q ≡ Some form) × AreFollowers states form symbols row
form-at states symbols forms [] h q row e = cc
form-at states symbols [] (r ∷ rows) h q row e = absurd h
form-at states symbols (f ∷ forms) (r ∷ rows) h zero row e = let same : r ≡ row = cc in (f, refl, subst (λ s. AreFollowers states f symbols s) same h.0)
form-at states symbols (f ∷ forms) (r ∷ rows) h (suc q) row e = form-at states symbols forms rows h.1 q row e

module _ (path : Path) (symbols : List Symbol) (c : Classes) (are : AreClasses path symbols c) where
  -- a form that is reached by first symbols is reached
  reached-by : (form : Path) → IsReachedFrom (normal_of path) c.firsts form → IsReached path symbols form
  reached-by form h = (h.0, over h.0 h.1, h.2)
    where
      there : (x : Symbol) → Contains c.firsts x → Contains symbols x
      there x i = let at = in-get c.firsts x (in_from c.firsts x i) in all-get (λ y. Contains symbols y) c.firsts at.0 x are.among at.1

      over : (w : List Symbol) → IsMadeOf c.firsts w → IsMadeOf symbols w
      over [] g = tt
      over (x ∷ w) g = (there x g.0, over w g.1)

  pub all-reached : (forms : List Path) → AllByRecursion (IsReachedFrom (normal_of path) c.firsts) forms → AllByRecursion (IsReached path symbols) forms
  all-reached [] h = tt
  all-reached (a ∷ forms) h = (reached-by a h.0, all-reached forms h.1)

  -- the first symbols find what all symbols find
  pub order-all : (forms : List Path) → AllByRecursion (IsReachedFrom (normal_of path) c.firsts) forms → (others : List Path) → with_all_new others (flat_map (followers symbols) forms) ≡ with_all_new others (flat_map (followers c.firsts) forms)
  order-all [] h others = refl
  order-all (a ∷ forms) h others =
      with_all_new-append others (followers symbols a) (flat_map (followers symbols) forms)
      ∙ ap (λ l. with_all_new l (flat_map (followers symbols) forms)) (are.order (λ x. derivative_of a x) (λ x y e. ap (λ b. derivative_of b x) h.0.2 ∙ blind path h.0.0 x y e ∙ ap (λ b. derivative_of b y) (sym h.0.2)) others)
      ∙ order-all forms h.1 (with_all_new others (followers c.firsts a))
      ∙ sym (with_all_new-append others (followers c.firsts a) (flat_map (followers c.firsts) forms))

  pub too_many-states : (count : ℕ) → HasMany (normal_of path) c.firsts count → HasStates path symbols count
  too_many-states count h = record { forms = h.forms; reached = all-reached h.forms h.reached; different = pairwise h.forms h.different; many = h.many }
