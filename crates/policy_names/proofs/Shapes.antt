-- Names and numbers of put-together paths, in the words of lists.
use Rattle.std.proofs.Common.{◌≡◌, ◌+◌, ◌<◌, ℕ, Bool, true, false, cond, List, [], ◌∷◌, ◌++◌, length, drop, get_or, map, filter, Option, None, Some, slice_get, refl, sym, ◌∙◌, ap}
use Rattle.std.specs.List.{flat_map}
use Rattle.std.proofs.lemmas.List.{at_drop_more, map-append}
use Rattle.merlin_model.specs.declared.policy.Path.{Path, Alt as Choice, Star as Repetition, Not as Complement, Cat as Sequence}
use Rattle.policy_grammar.specs.declared.written.RawPath.{RawPath, Cat, Cat', Alt, Alt', Star, Not}
use Rattle.policy_grammar.specs.declared.written.RawPath.TheBlock.{hidden-the_row-RawPath-0, hidden-the_row-RawPath-1}
use denote.Hole.Carrier.{hidden}
use Rattle.policy_grammar.specs.NumberedPaths.{PathName, names_of, in_sequence, numbered, each_numbered}
use Rattle.policy_names.specs.Names.{is_faulty, faulty_in}

names_of-Cat : (negated : Bool) (parts : List RawPath) → names_of negated (Cat parts) ≡ flat_map (names_of negated) parts
unfolding hidden-the_row-RawPath-0 hidden-the_row-RawPath-1 hidden
names_of-Cat negated [] = refl
names_of-Cat negated (part ∷ rest) = ap (λ l. names_of negated part ++ l) (names_of-Cat negated rest)

names_of-Alt : (negated : Bool) (parts : List RawPath) → names_of negated (Alt parts) ≡ flat_map (names_of negated) parts
unfolding hidden-the_row-RawPath-0 hidden-the_row-RawPath-1 hidden
names_of-Alt negated [] = refl
names_of-Alt negated (part ∷ rest) = ap (λ l. names_of negated part ++ l) (names_of-Alt negated rest)

pub filter-append : {X : Type 0} (test : X → Bool) (xs ys : List X) → filter test (xs ++ ys) ≡ filter test xs ++ filter test ys
filter-append test [] ys = refl
filter-append {X} test (x ∷ xs) ys = by (test x) (filter-append test xs ys)
  where
    by : (b : Bool) → filter test (xs ++ ys) ≡ filter test xs ++ filter test ys → cond b (x ∷ filter test (xs ++ ys)) (filter test (xs ++ ys)) ≡ cond b (x ∷ filter test xs) (filter test xs) ++ filter test ys
    by true rest = ap (λ l. x ∷ l) rest
    by false rest = rest

faulty_in_all : (known : List ℕ → Option Path) (negated : Bool) (parts : List RawPath) → map (λ (name : PathName). name.text) (filter (is_faulty known) (flat_map (names_of negated) parts)) ≡ flat_map (faulty_in known negated) parts
faulty_in_all known negated [] = refl
faulty_in_all known negated (part ∷ rest) =
    ap (map (λ (name : PathName). name.text)) (filter-append (is_faulty known) (names_of negated part) (flat_map (names_of negated) rest))
    ∙ (map-append (λ (name : PathName). name.text) (filter (is_faulty known) (names_of negated part)) (filter (is_faulty known) (flat_map (names_of negated) rest))
    ∙ ap (λ l. faulty_in known negated part ++ l) (faulty_in_all known negated rest))

pub faulty_in-Cat : (known : List ℕ → Option Path) (negated : Bool) (parts : List RawPath) → faulty_in known negated (Cat parts) ≡ flat_map (faulty_in known negated) parts
faulty_in-Cat known negated parts = ap (λ names. map (λ (name : PathName). name.text) (filter (is_faulty known) names)) (names_of-Cat negated parts) ∙ faulty_in_all known negated parts

pub faulty_in-Alt : (known : List ℕ → Option Path) (negated : Bool) (parts : List RawPath) → faulty_in known negated (Alt parts) ≡ flat_map (faulty_in known negated) parts
faulty_in-Alt known negated parts = ap (λ names. map (λ (name : PathName). name.text) (filter (is_faulty known) names)) (names_of-Alt negated parts) ∙ faulty_in_all known negated parts

pub faulty_in-Star : (known : List ℕ → Option Path) (negated : Bool) (part : RawPath) → faulty_in known negated (Star part) ≡ faulty_in known negated part
unfolding hidden-the_row-RawPath-1 hidden
faulty_in-Star known negated part = refl

pub faulty_in-Not : (known : List ℕ → Option Path) (negated : Bool) (part : RawPath) → faulty_in known negated (Not part) ≡ faulty_in known true part
unfolding hidden-the_row-RawPath-1 hidden
faulty_in-Not known negated part = refl

abbrev each_of : (List ℕ → Option Path) → RawPath → List Path
each_of known (Cat' _ row) = each_numbered known row
each_of known (Alt' _ row) = each_numbered known row
each_of known _ = []

each_of-Cat : (known : List ℕ → Option Path) (parts : List RawPath) → each_of known (Cat parts) ≡ map (numbered known) parts
unfolding hidden-the_row-RawPath-0 hidden-the_row-RawPath-1 hidden
each_of-Cat known [] = refl
each_of-Cat known (part ∷ rest) = ap (λ l. numbered known part ∷ l) (each_of-Cat known rest)

each_of-Alt : (known : List ℕ → Option Path) (parts : List RawPath) → each_of known (Alt parts) ≡ map (numbered known) parts
unfolding hidden-the_row-RawPath-0 hidden-the_row-RawPath-1 hidden
each_of-Alt known [] = refl
each_of-Alt known (part ∷ rest) = ap (λ l. numbered known part ∷ l) (each_of-Alt known rest)

pub numbered-Cat : (known : List ℕ → Option Path) (parts : List RawPath) → numbered known (Cat parts) ≡ in_sequence (map (numbered known) parts)
unfolding hidden-the_row-RawPath-0 hidden-the_row-RawPath-1 hidden
numbered-Cat known parts = ap in_sequence (each_of-Cat known parts)

pub numbered-Alt : (known : List ℕ → Option Path) (parts : List RawPath) → numbered known (Alt parts) ≡ Choice (map (numbered known) parts)
unfolding hidden-the_row-RawPath-0 hidden-the_row-RawPath-1 hidden
numbered-Alt known parts = ap Choice (each_of-Alt known parts)

pub numbered-Star : (known : List ℕ → Option Path) (part : RawPath) → numbered known (Star part) ≡ Repetition (numbered known part)
unfolding hidden-the_row-RawPath-1 hidden
numbered-Star known part = refl

pub numbered-Not : (known : List ℕ → Option Path) (part : RawPath) → numbered known (Not part) ≡ Complement (numbered known part)
unfolding hidden-the_row-RawPath-1 hidden
numbered-Not known part = refl

-- the last two of some paths may be put together first
pub in_sequence-last : (paths : List Path) (p q : Path) → in_sequence (paths ++ p ∷ q ∷ []) ≡ in_sequence (paths ++ Sequence p q ∷ [])
in_sequence-last [] p q = refl
in_sequence-last (r ∷ []) p q = refl
in_sequence-last (r ∷ s ∷ paths) p q = ap (Sequence r) (in_sequence-last (s ∷ paths) p q)

-- what is left of a list, with its first element
pub here : {X Y : Type 0} (F : List X → Y) (xs : List X) (i : ℕ) (x : X) → i < length xs → x ≡ get_or xs i x → F (drop i xs) ≡ F (x ∷ drop (i + 1) xs)
here F xs i x within is = at_drop_more F xs i x within ∙ ap (λ y. F (y ∷ drop (i + 1) xs)) (sym is)

pub first_of_append : {X : Type 0} (xs ys : List X) (x : X) → slice_get xs 0 ≡ Some x → slice_get (xs ++ ys) 0 ≡ Some x
first_of_append [] ys x e = cc
first_of_append (y ∷ xs) ys x e = e

pub first_of_map : {X Y : Type 0} (f : X → Y) (xs : List X) (x : X) → slice_get xs 0 ≡ Some x → slice_get (map f xs) 0 ≡ Some (f x)
first_of_map f [] x e = cc
first_of_map f (y ∷ xs) x e = let same : y ≡ x = cc in ap (λ z. Some (f z)) same

pub none_first : {X : Type 0} (xs : List X) → slice_get xs 0 ≡ None → xs ≡ []
none_first [] e = refl
none_first (x ∷ xs) e = cc
