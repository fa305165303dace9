-- Paths whose names are not at fault have no function under a Not.
use Rattle.std.proofs.Common.{◌≡◌, ℕ, Bool, true, false, cond, List, [], ◌∷◌, ◌++◌, map, filter, Option, None, Some, refl, sym, ◌∙◌, ap, subst}
use Rattle.std.specs.Prelude.{⊤, find, bytes_eq}
use Rattle.std.specs.List.{AllByRecursion, flat_map, enumerate_from}
use Rattle.std.specs.Option.{option_map}
use Rattle.std.proofs.lemmas.List.{map-append}
use Rattle.merlin_model.specs.Networks.{Network}
use Rattle.merlin_model.specs.declared.policy.Path.{Path, Nothing, Loc, Fun, Cat as Sequence, Alt as Choice, Star as Repetition, Not as Complement}
use Rattle.merlin_model.specs.declared.policy.Path.TheBlock.{hidden-the_row-Path-0, hidden-the_row-Path-1}
use denote.Hole.Carrier.{hidden}
use Rattle.path_regex.specs.Functions.{HasNoFun, HasNoFunctionUnderNot}
use Rattle.policy_grammar.specs.declared.written.RawPath.{RawPath, Dot, Named, Cat', Alt', Star', Not', Row_of-RawPath, end_of-RawPath, more_of-RawPath}
use Rattle.policy_grammar.specs.NumberedPaths.{PathName, names_of, names_of_each, in_sequence, place_or_none, numbered, each_numbered}
use Rattle.policy_names.specs.Names.{named_places, meaning_of, leads_to_function, is_faulty_at, is_faulty, faulty_in, fault_of_name, name_faults}
use Rattle.policy_names.proofs.Shapes.{filter-append}

-- nothing, a location or a function
abbrev IsPlace : Option Path → Type 0
IsPlace None = ⊤
IsPlace (Some (Loc l)) = ⊤
IsPlace (Some (Fun f)) = ⊤
IsPlace (Some _) = ⊥

all-mapped : {X : Type 0} (P : List ℕ × Path → Type 0) (f : X → List ℕ × Path) (xs : List X) → ((x : X) → P (f x)) → AllByRecursion P (map f xs)
all-mapped P f [] h = tt
all-mapped P f (x ∷ xs) h = (h x, all-mapped P f xs h)

all-both : {X : Type 0} (P : X → Type 0) (xs ys : List X) → AllByRecursion P xs → AllByRecursion P ys → AllByRecursion P (xs ++ ys)
all-both P [] ys a b = b
all-both P (x ∷ xs) ys a b = (a.0, all-both P xs ys a.1 b)

found-place : (test : List ℕ × Path → Bool) (xs : List (List ℕ × Path)) → AllByRecursion (λ x. IsPlace (Some x.1)) xs → IsPlace (option_map (λ x. x.1) (find test xs))
found-place test [] h = tt
found-place test (x ∷ xs) h = by (test x) (found-place test xs h.1)
  where
    by : (b : Bool) → IsPlace (option_map (λ y. y.1) (find test xs)) → IsPlace (option_map (λ y. y.1) (cond b (Some x) (find test xs)))
    by true rest = h.0
    by false rest = rest

pub meanings-places : (net : Network) (name : List ℕ) → IsPlace (meaning_of net name)
meanings-places net name =
    found-place (λ place. bytes_eq place.0 name) (named_places net)
    (all-both (λ x. IsPlace (Some x.1)) (map (λ l. (l.1.name, Loc l.0)) (enumerate_from 0 net.locations)) (map (λ f. (f.1.name, Fun f.0)) (enumerate_from 0 net.functions))
    (all-mapped (λ x. IsPlace (Some x.1)) (λ l. (l.1.name, Loc l.0)) (enumerate_from 0 net.locations) (λ l. tt))
    (all-mapped (λ x. IsPlace (Some x.1)) (λ f. (f.1.name, Fun f.0)) (enumerate_from 0 net.functions) (λ f. tt)))

-- no function at all where a `!` stands above, else none under a Not
abbrev IsFreeAt : Bool → Path → Type 0
IsFreeAt true path = HasNoFun path
IsFreeAt false path = HasNoFunctionUnderNot path

free-Cat : (negated : Bool) (a b : Path) → IsFreeAt negated a → IsFreeAt negated b → IsFreeAt negated (Sequence a b)
unfolding hidden-the_row-Path-0 hidden-the_row-Path-1 hidden
free-Cat true a b p q = (p, q)
free-Cat false a b p q = (p, q)

free-Alt : (negated : Bool) (paths : List Path) → AllByRecursion (IsFreeAt negated) paths → IsFreeAt negated (Choice paths)
unfolding hidden-the_row-Path-0 hidden-the_row-Path-1 hidden
free-Alt true [] h = tt
free-Alt false [] h = tt
free-Alt true (a ∷ paths) h = (h.0, free-Alt true paths h.1)
free-Alt false (a ∷ paths) h = (h.0, free-Alt false paths h.1)

free-Star : (negated : Bool) (a : Path) → IsFreeAt negated a → IsFreeAt negated (Repetition a)
unfolding hidden-the_row-Path-0 hidden-the_row-Path-1 hidden
free-Star true a h = h
free-Star false a h = h

free-Not : (negated : Bool) (a : Path) → HasNoFun a → IsFreeAt negated (Complement a)
unfolding hidden-the_row-Path-0 hidden-the_row-Path-1 hidden
free-Not true a h = h
free-Not false a h = h

free-sequence : (negated : Bool) (paths : List Path) → AllByRecursion (IsFreeAt negated) paths → IsFreeAt negated (in_sequence paths)
free-sequence true [] h = tt
free-sequence false [] h = tt
free-sequence negated (p ∷ []) h = h.0
free-sequence negated (p ∷ q ∷ paths) h = free-Cat negated p (in_sequence (q ∷ paths)) h.0 (free-sequence negated (q ∷ paths) h.1)

append-none : {X : Type 0} (xs ys : List X) → xs ++ ys ≡ [] → (xs ≡ []) × (ys ≡ [])
append-none [] ys e = (refl, e)
append-none (x ∷ xs) ys e = cc

map-none : {X Y : Type 0} (f : X → Y) (xs : List X) → map f xs ≡ [] → xs ≡ []
map-none f [] e = refl
map-none f (x ∷ xs) e = cc

module _ (known : List ℕ → Option Path) (places : (name : List ℕ) → IsPlace (known name)) where
  free-name : (negated : Bool) (text : List ℕ) (place : ℕ) → faulty_in known negated (Named text place) ≡ [] → IsFreeAt negated (place_or_none (known text))
  free-name negated text place e = by negated (known text) (places text) e
    where
      by : (b : Bool) (meaning : Option Path) → IsPlace meaning →
          map (λ (name : PathName). name.text) (cond (is_faulty_at b meaning) (record { text = text; place = place; negated = b } ∷ []) []) ≡ [] → IsFreeAt b (place_or_none meaning)
      by true None p e = cc
      by false None p e = cc
      by true (Some (Loc l)) p e = tt
      by false (Some (Loc l)) p e = tt
      by true (Some (Fun f)) p e = cc
      by false (Some (Fun f)) p e = tt
      by b (Some other) p e = absurd p

  mutual
    free : (negated : Bool) (path : RawPath) → faulty_in known negated path ≡ [] → IsFreeAt negated (numbered known path)
    free true Dot e = tt
    free false Dot e = tt
    free negated (Named text place) e = free-name negated text place e
    free negated (Cat' s row) e = free-sequence negated (each_numbered known row) (free-each negated row e)
    free negated (Alt' s row) e = free-Alt negated (each_numbered known row) (free-each negated row e)
    free negated (Star' s (more_of-RawPath part end_of-RawPath)) e = free-Star negated (numbered known part) (free negated part e)
    free negated (Not' s (more_of-RawPath part end_of-RawPath)) e = free-Not negated (numbered known part) (free true part e)

    free-each : {n : _} → (negated : Bool) (row : Row_of-RawPath n) → map (λ (name : PathName). name.text) (filter (is_faulty known) (names_of_each negated row)) ≡ [] → AllByRecursion (IsFreeAt negated) (each_numbered known row)
    free-each negated end_of-RawPath e = tt
    free-each negated (more_of-RawPath part rest) e =
        let one = names_of negated part in
        let others = names_of_each negated rest in
        let split = append-none (map (λ (name : PathName). name.text) (filter (is_faulty known) one)) (map (λ (name : PathName). name.text) (filter (is_faulty known) others))
        (sym (ap (map (λ (name : PathName). name.text)) (filter-append (is_faulty known) one others) ∙ map-append (λ (name : PathName). name.text) (filter (is_faulty known) one) (filter (is_faulty known) others)) ∙ e) in
        (free negated part split.0, free-each negated rest split.1)

  free-all : (paths : List RawPath) → flat_map (faulty_in known false) paths ≡ [] → AllByRecursion HasNoFunctionUnderNot (map (numbered known) paths)
  free-all [] e = tt
  free-all (path ∷ paths) e = let split = append-none (faulty_in known false path) (flat_map (faulty_in known false) paths) e in (free false path split.0, free-all paths split.1)

pub none-under-not : (net : Network) (paths : List RawPath) → name_faults (meaning_of net) paths ≡ [] → AllByRecursion HasNoFunctionUnderNot (map (numbered (meaning_of net)) paths)
none-under-not net paths e = free-all (meaning_of net) (meanings-places net) paths (map-none (fault_of_name (meaning_of net)) (flat_map (faulty_in (meaning_of net) false) paths) e)
