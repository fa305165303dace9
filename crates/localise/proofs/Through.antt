-- Lists that are looked through one element after another, and the first of what is found.
use Rattle.std.proofs.Common.{◌≡◌, ◌+◌, ◌<◌, ◌≤◌, ◌&&◌, ℕ, suc, Bool, true, false, not, cond, List, [], ◌∷◌, ◌++◌, length, take, drop, get_or, map, filter, Option, None, Some, slice_get, sum_by, refl, sym, ◌∙◌, ap, subst, arith, nat_lt}
use Rattle.std.specs.List.{flat_map, filter_map, enumerate_from}
use Rattle.std.specs.Option.{option_to_list}
use Rattle.std.proofs.lemmas.List.{at_drop_more, at_drop_all}
use Rattle.merlin_model.specs.declared.policy.Term.{Term}
use Rattle.localise.specs.declared.fault.RateFault.{RateFault}
use Rattle.localise.specs.declared.fault.RateFault.TheVariants.{UnknownId, RepeatedId, ConstantTooLarge, LocalisedConflict, OutOfMemory}
use Rattle.localise.specs.Faults.{IsFirst, has_large_constants}

-- what is left of a list, with its first element
pub here : {X Y : Type 0} (F : List X → Y) (xs : List X) (i : ℕ) (x : X) → i < length xs → x ≡ get_or xs i x → F (drop i xs) ≡ F (x ∷ drop (i + 1) xs)
here F xs i x within is = at_drop_more F xs i x within ∙ ap (λ y. F (y ∷ drop (i + 1) xs)) (sym is)

-- where one element gives nothing, the others give all
pub passed_by : {X Y : Type 0} (g : X → List Y) (xs : List X) (i : ℕ) (x : X) → i < length xs → x ≡ get_or xs i x → g x ≡ [] → flat_map g (drop i xs) ≡ flat_map g (drop (i + 1) xs)
passed_by g xs i x within is none = here (flat_map g) xs i x within is ∙ ap (λ ys. ys ++ flat_map g (drop (i + 1) xs)) none

-- the first of a list
pub first_of_append : {X : Type 0} (xs ys : List X) (x : X) → slice_get xs 0 ≡ Some x → slice_get (xs ++ ys) 0 ≡ Some x
first_of_append [] ys x e = cc
first_of_append (y ∷ xs) ys x e = e

pub first_of_map : {X Y : Type 0} (f : X → Y) (xs : List X) (x : X) → slice_get xs 0 ≡ Some x → slice_get (map f xs) 0 ≡ Some (f x)
first_of_map f [] x e = cc
first_of_map f (y ∷ xs) x e = let same : y ≡ x = cc in ap (λ z. Some (f z)) same

-- what is the first of some faults is so with further ones behind
pub first_with_more : (all more : List RateFault) (fault : RateFault) → IsFirst all fault → IsFirst (all ++ more) fault
first_with_more all more (UnknownId id) h = first_of_append all more (UnknownId id) h
first_with_more all more (RepeatedId id) h = first_of_append all more (RepeatedId id) h
first_with_more all more (ConstantTooLarge term) h = first_of_append all more (ConstantTooLarge term) h
first_with_more all more (LocalisedConflict id least most) h = first_of_append all more (LocalisedConflict id least most) h
first_with_more all more OutOfMemory h = h

-- and behind none
pub first_after_none : (none all : List RateFault) (fault : RateFault) → none ≡ [] → IsFirst all fault → IsFirst (none ++ all) fault
first_after_none none all fault e h = subst (λ (fs : List RateFault). IsFirst (fs ++ all) fault) (sym e) h

-- A list that gives faults element by element: the first is that of the element here, where those before give none.
module _ {X Y : Type 0} (f : Y → RateFault) (g : X → List Y) (xs : List X) (i : ℕ) (x : X) (within : i < length xs) (is : x ≡ get_or xs i x)
    (clear : flat_map g (drop i xs) ≡ flat_map g xs) where
  pub found_here : (fault : RateFault) → IsFirst (map f (g x)) fault → IsFirst (map f (flat_map g xs)) fault
  found_here fault h =
      subst (λ (ys : List Y). IsFirst (map f ys) fault) (sym (here (flat_map g) xs i x within is) ∙ clear)
      (subst (λ (fs : List RateFault). IsFirst fs fault) (sym (map-append (g x) (flat_map g (drop (i + 1) xs)))) (first_with_more (map f (g x)) (map f (flat_map g (drop (i + 1) xs))) fault h))
    where
      map-append : (ys zs : List Y) → map f (ys ++ zs) ≡ map f ys ++ map f zs
      map-append [] zs = refl
      map-append (y ∷ ys) zs = ap (λ ws. f y ∷ ws) (map-append ys zs)

  pub clear_further : g x ≡ [] → flat_map g (drop (i + 1) xs) ≡ flat_map g xs
  clear_further none = sym (passed_by g xs i x within is none) ∙ clear

pub clear_all : {X Y : Type 0} (g : X → List Y) (xs : List X) (i : ℕ) → length xs ≤ i → flat_map g (drop i xs) ≡ flat_map g xs → flat_map g xs ≡ []
clear_all g xs i past clear = sym clear ∙ at_drop_all (flat_map g) xs i past

-- The terms from a place on, with their numbers, whose constants are too large.
abbrev pub large_from : List Term → ℕ → List (ℕ × Term)
large_from terms i = filter (λ t. has_large_constants t.1) (enumerate_from (i + 1) (drop i terms))

module _ (terms : List Term) (i : ℕ) (term : Term) (within : i < length terms) (is : term ≡ get_or terms i term) (clear : large_from terms i ≡ large_from terms 0) where
  large_here : large_from terms i ≡ cond (has_large_constants term) ((i + 1, term) ∷ large_from terms (i + 1)) (large_from terms (i + 1))
  large_here = here (λ ts. filter (λ t. has_large_constants t.1) (enumerate_from (i + 1) ts)) terms i term within is

  pub too_large_here : has_large_constants term ≡ true → slice_get (map ConstantTooLarge (map (λ t. t.0) (large_from terms 0))) 0 ≡ Some (ConstantTooLarge (i + 1))
  too_large_here e = ap (λ ts. slice_get (map ConstantTooLarge (map (λ t. t.0) ts)) 0) (sym clear ∙ (large_here ∙ ap (λ b. cond b ((i + 1, term) ∷ large_from terms (i + 1)) (large_from terms (i + 1))) e))

  pub small_here : has_large_constants term ≡ false → large_from terms (i + 1) ≡ large_from terms 0
  small_here e = sym (large_here ∙ ap (λ b. cond b ((i + 1, term) ∷ large_from terms (i + 1)) (large_from terms (i + 1))) e) ∙ clear

pub none_large : (terms : List Term) (i : ℕ) → length terms ≤ i → large_from terms i ≡ large_from terms 0 → map (λ (t : ℕ × Term). t.0) (large_from terms 0) ≡ []
none_large terms i past clear = ap (map (λ (t : ℕ × Term). t.0)) (sym clear ∙ at_drop_all (λ ts. filter (λ t. has_large_constants t.1) (enumerate_from (i + 1) ts)) terms i past)

pub none_first : {X : Type 0} (xs : List X) → slice_get xs 0 ≡ None → xs ≡ []
none_first [] e = refl
none_first (x ∷ xs) e = cc
