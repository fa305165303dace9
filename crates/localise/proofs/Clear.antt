-- What a formula without faults is: over each term.
use Rattle.std.proofs.Common.{◌≡◌, ◌+◌, ◌≤◌, ◌<◌, ◌⊎◌, inl, inr, ℕ, Bool, true, false, not, cond, nat_lt, ◌&&◌, List, [], ◌∷◌, ◌++◌, map, filter, Option, None, Some, refl, sym, ◌∙◌, ap, subst, arith}
use Rattle.std.specs.Prelude.{filter_map}
use Rattle.std.specs.List.{AllByRecursion, flat_map, enumerate_from, cons_option}
use Rattle.merlin_model.specs.declared.policy.Term.{Term}
use Rattle.merlin_model.specs.Networks.{AreDifferent}
use Rattle.merlin_model.specs.Rates.{ids_of}
use Rattle.localise.specs.declared.fault.RateFault.{RateFault}
use Rattle.localise.specs.declared.fault.RateFault.TheVariants.{UnknownId, RepeatedId, ConstantTooLarge}
use Rattle.localise.specs.Localised.{min_for, max_for}
use Rattle.localise.specs.Faults.{is_among, unknown_ids, repeats_in, repeated_ids, has_large_constants, large_terms, conflicts_among, faults}
use Rattle.localise.proofs.Divided.{append_none}

-- an element of a list, by cases
abbrev pub In : {X : Type 0} → X → List X → Type 0
In x [] = ⊥
In x (y ∷ ys) = (x ≡ y) ⊎ In x ys

pub all_at : {X : Type 0} (P : X → Type 0) (xs : List X) (x : X) → AllByRecursion P xs → In x xs → P x
all_at P [] x all at = absurd at
all_at P (y ∷ ys) x all (inl e) = subst P (sym e) all.0
all_at P (y ∷ ys) x all (inr at) = all_at P ys x all.1 at

pub all_from : {X : Type 0} (P : X → Type 0) (xs : List X) → ((x : X) → In x xs → P x) → AllByRecursion P xs
all_from P [] f = tt
all_from P (x ∷ xs) f = (f x (inl refl), all_from P xs (λ y at. f y (inr at)))

-- the elements that pass a test
pub all_filtered : {X : Type 0} (P : X → Type 0) (test : X → Bool) (xs : List X) → ((x : X) → In x xs → test x ≡ true → P x) → AllByRecursion P (filter test xs)
all_filtered P test [] f = tt
all_filtered {X} P test (x ∷ xs) f = by (test x) refl (all_filtered P test xs (λ y at. f y (inr at)))
  where
    by : (b : Bool) → test x ≡ b → AllByRecursion P (filter test xs) → AllByRecursion P (cond b (x ∷ filter test xs) (filter test xs))
    by true e rest = (f x (inl refl) e, rest)
    by false e rest = rest

map_none : {X Y : Type 0} (f : X → Y) (xs : List X) → map f xs ≡ [] → xs ≡ []
map_none f [] e = refl
map_none f (x ∷ xs) e = cc

flat_map_none : {X Y : Type 0} (g : X → List Y) (xs : List X) → flat_map g xs ≡ [] → AllByRecursion (λ x. g x ≡ []) xs
flat_map_none g [] e = tt
flat_map_none g (x ∷ xs) e = let split = append_none (g x) (flat_map g xs) e in (split.0, flat_map_none g xs split.1)

filter_none : {X : Type 0} (test : X → Bool) (xs : List X) → filter test xs ≡ [] → AllByRecursion (λ x. test x ≡ false) xs
filter_none test [] e = tt
filter_none {X} test (x ∷ xs) e = by (test x) refl e (filter_none test xs)
  where
    by : (b : Bool) → test x ≡ b → cond b (x ∷ filter test xs) (filter test xs) ≡ [] → (filter test xs ≡ [] → AllByRecursion (λ y. test y ≡ false) xs) → AllByRecursion (λ y. test y ≡ false) (x ∷ xs)
    by true is e rest = cc
    by false is e rest = (is, rest e)

none_numbered : {X : Type 0} (test : X → Bool) (xs : List X) (n : ℕ) → filter (λ (t : ℕ × X). test t.1) (enumerate_from n xs) ≡ [] → AllByRecursion (λ x. test x ≡ false) xs
none_numbered test [] n e = tt
none_numbered {X} test (x ∷ xs) n e = by (test x) refl e (none_numbered test xs (n + 1))
  where
    others : List (ℕ × X)
    others = filter (λ (t : ℕ × X). test t.1) (enumerate_from (n + 1) xs)

    by : (b : Bool) → test x ≡ b → cond b ((n, x) ∷ others) others ≡ [] → (others ≡ [] → AllByRecursion (λ y. test y ≡ false) xs) → AllByRecursion (λ y. test y ≡ false) (x ∷ xs)
    by true is e rest = cc
    by false is e rest = (is, rest e)

known_from : (b : Bool) → not b ≡ false → b ≡ true
known_from true e = refl
known_from false e = cc

-- A formula without faults over some ids.
pub record IsClear (terms : List Term) (ids : List (List ℕ)) : Type 0 where
  pub known : AllByRecursion (λ term. unknown_ids (is_among ids) (term ∷ []) ≡ []) terms
  pub different : AllByRecursion (λ term. repeats_in (ids_of term) ≡ []) terms
  pub small : AllByRecursion (λ term. has_large_constants term ≡ false) terms
  pub room : conflicts_among (min_for terms) (max_for terms) ids ≡ []

pub clear_from : (terms : List Term) (ids : List (List ℕ)) → faults terms ids ≡ [] → IsClear terms ids
clear_from terms ids none =
    let first = append_none (map UnknownId (unknown_ids (is_among ids) terms)) _ none in
    let second = append_none (map RepeatedId (repeated_ids terms)) _ first.1 in
    let third = append_none (map ConstantTooLarge (large_terms terms)) _ second.1 in
    record {
      known = all_from _ terms (λ term at. ap (λ names. names ++ []) (all_at _ terms term (flat_map_none _ terms (map_none UnknownId _ first.0)) at));
      different = flat_map_none _ terms (map_none RepeatedId _ second.0);
      small = none_numbered has_large_constants terms 1 (map_none _ _ (map_none ConstantTooLarge _ third.0));
      room = third.1;
    }

-- each id of a term is among the ids
pub known_in : (terms : List Term) (ids : List (List ℕ)) (term : Term) → IsClear terms ids → In term terms → (id : List ℕ) → In id (ids_of term) → is_among ids id ≡ true
known_in terms ids term clear at id among =
    known_from _ (all_at (λ name. not (is_among ids name) ≡ false) (ids_of term) id (filter_none _ (ids_of term) (append_none _ [] (all_at _ terms term clear.known at)).0) among)
