-- The first name that stands before its place, looked for one name after another.
use Rattle.std.proofs.Common.{◌≡◌, ◌+◌, ◌<◌, ◌≤◌, ℕ, Bool, true, false, cond, ◌||◌, List, [], ◌∷◌, length, take, drop, get_or, map, Option, None, Some, is_some, option_map, refl, sym, ◌∙◌, ap, zero-add}
use Rattle.std.specs.Prelude.{find, bytes_eq}
use Rattle.std.specs.List.{enumerate_from, list_any}
use Rattle.std.proofs.lemmas.List.{at_drop_more, at_drop_all, take-map, length-map, get_or-map}
use Rattle.std.proofs.lemmas.List.FromFn.{length-enumerate_from, get_or-enumerate_from}
use Rattle.policy_expansion.specs.Faults.{stands_before, first_repeat}

abbrev pub found_from : List (List ℕ) → ℕ → Option (ℕ × List ℕ)
found_from names i = find (stands_before names) (drop i (enumerate_from 0 names))

module _ (names : List (List ℕ)) (i : ℕ) (name : List ℕ) (within : i < length names) (is : name ≡ get_or names i name) where
  here : found_from names i ≡ find (stands_before names) ((i, name) ∷ drop (i + 1) (enumerate_from 0 names))
  here =
      let inside : i < length (enumerate_from 0 names) = rw (length-enumerate_from 0 names) within in
      let item : get_or (enumerate_from 0 names) i (i, name) ≡ (i, name) = get_or-enumerate_from 0 names i (i, name) within ∙ (λ k. (zero-add i k, sym is k)) in
      at_drop_more (find (stands_before names)) (enumerate_from 0 names) i (i, name) inside ∙ ap (λ x. find (stands_before names) (x ∷ drop (i + 1) (enumerate_from 0 names))) item

  pub repeated_here : list_any (λ other. bytes_eq other name) (take i names) ≡ true → found_from names i ≡ Some (i, name)
  repeated_here e = rw e at here

  pub new_here : list_any (λ other. bytes_eq other name) (take i names) ≡ false → found_from names i ≡ found_from names (i + 1)
  new_here e = rw e at here

pub none_at_end : (names : List (List ℕ)) (i : ℕ) → length names ≤ i → found_from names i ≡ None
none_at_end names i past = at_drop_all (find (stands_before names)) (enumerate_from 0 names) i (rw (length-enumerate_from 0 names) past)

-- a test of the things that bear names
pub is_some-find : {X : Type 0} (test : X → Bool) (xs : List X) → is_some (find test xs) ≡ list_any test xs
is_some-find test [] = refl
is_some-find {X} test (x ∷ xs) = by (test x) (is_some-find test xs)
  where
    by : (b : Bool) → is_some (find test xs) ≡ list_any test xs → is_some (cond b (Some x) (find test xs)) ≡ (b || list_any test xs)
    by true ih = refl
    by false ih = ih

pub list_any-map : {X Y : Type 0} (f : X → Y) (test : Y → Bool) (xs : List X) → list_any test (map f xs) ≡ list_any (λ x. test (f x)) xs
list_any-map f test [] = refl
list_any-map f test (x ∷ xs) = ap (λ b. test (f x) || b) (list_any-map f test xs)

-- Things that bear names, with the name of the thing at a place.
module _ {X : Type 0} (name_of : X → List ℕ) (xs : List X) (i : ℕ) (x : X) (within : i < length xs) (is : x ≡ get_or xs i x)
    (clear : found_from (map name_of xs) i ≡ found_from (map name_of xs) 0) where
  inside : i < length (map name_of xs)
  inside = rw (length-map xs name_of) within

  at : name_of x ≡ get_or (map name_of xs) i (name_of x)
  at = ap name_of is ∙ sym (get_or-map name_of xs i x (name_of x) within)

  before : list_any (λ other. bytes_eq other (name_of x)) (take i (map name_of xs)) ≡ list_any (λ other. bytes_eq (name_of other) (name_of x)) (take i xs)
  before = ap (list_any (λ other. bytes_eq other (name_of x))) (take-map name_of i xs) ∙ list_any-map name_of (λ other. bytes_eq other (name_of x)) (take i xs)

  -- the first name that stands before its place is the one here
  pub first_here : list_any (λ other. bytes_eq (name_of other) (name_of x)) (take i xs) ≡ true → first_repeat (map name_of xs) ≡ Some (name_of x)
  first_here e = ap (option_map (λ n. n.1)) (sym clear ∙ repeated_here (map name_of xs) i (name_of x) inside at (before ∙ e))

  -- or there is none up to here
  pub clear_past : list_any (λ other. bytes_eq (name_of other) (name_of x)) (take i xs) ≡ false → found_from (map name_of xs) (i + 1) ≡ found_from (map name_of xs) 0
  clear_past e = sym (new_here (map name_of xs) i (name_of x) inside at (before ∙ e)) ∙ clear

pub no_repeat : {X : Type 0} (name_of : X → List ℕ) (xs : List X) (i : ℕ) → length xs ≤ i → found_from (map name_of xs) i ≡ found_from (map name_of xs) 0 → first_repeat (map name_of xs) ≡ None
no_repeat name_of xs i past clear =
    let long : length (map name_of xs) ≤ i = rw (length-map xs name_of) past in
    ap (option_map (λ n. n.1)) (sym clear ∙ none_at_end (map name_of xs) i long)
