-- What paths that are put together in normal form take.
use Rattle.std.proofs.Common.{◌≡◌, ◌⊎◌, inl, inr, ◌↔◌, List, [], ◌∷◌, ◌++◌, append_assoc, append-nil, refl, sym, ◌∙◌, ap, ap₂, subst}
use Rattle.std.specs.List.{AllByRecursion, flat_map}
use Rattle.std.specs.Ordering.{match_ordering}
use Rattle.std.specs.declared.cmp.Ordering.{Ordering}
use Rattle.std.specs.declared.cmp.Ordering.TheVariants.{Less, Equal, Greater}
use Rattle.merlin_model.specs.declared.policy.Symbol.{Symbol}
use Rattle.merlin_model.specs.declared.policy.Path.{Path, Nothing, Empty, Cat', Alt', Star', Row_of-Path, end_of-Path, more_of-Path}
use Rattle.merlin_model.specs.declared.policy.Path.TheBlock.{hidden-the_row-Path-1}
use denote.Hole.Carrier.{hidden}
use Rattle.merlin_model.specs.Paths.{InLanguage, InSomeLanguage, InSome, concatenation, Cat-is, Star-is, Alt-is}
use Rattle.path_regex.specs.Parts.{listed}
use Rattle.path_regex.specs.Order.{order}
use Rattle.path_regex.specs.Normal.{grouped_cat, cat_of, members, added, added_all, one_of, alt_of, star_of}
use Rattle.path_regex.proofs.Ordered.{same}
use Rattle.path_regex.proofs.Plain.{either}

-- Both ways.

pub along : {A B C : Type 0} → A ↔ B → B ↔ C → A ↔ C
along f g = (λ h. g.0 (f.0 h), λ h. f.1 (g.1 h))

pub back : {A B : Type 0} → A ↔ B → B ↔ A
back f = (f.1, f.0)

pub itself : {A : Type 0} → A ↔ A
itself = (λ h. h, λ h. h)

pub by_equality : {A B : Type 0} → A ≡ B → A ↔ B
by_equality e = (λ h. subst (λ T. T) e h, λ h. subst (λ T. T) (sym e) h)

or-nothing : {A : Type 0} → A ↔ (A ⊎ ⊥)
or-nothing {A} = (λ h. inl h, from)
  where
    from : A ⊎ ⊥ → A
    from (inl h) = h
    from (inr h) = absurd h

or-grouped : {A B C : Type 0} → (A ⊎ (B ⊎ C)) ↔ ((A ⊎ B) ⊎ C)
or-grouped {A} {B} {C} = (to, from)
  where
    to : A ⊎ (B ⊎ C) → (A ⊎ B) ⊎ C
    to (inl h) = inl (inl h)
    to (inr (inl h)) = inl (inr h)
    to (inr (inr h)) = inr h

    from : (A ⊎ B) ⊎ C → A ⊎ (B ⊎ C)
    from (inl (inl h)) = inl h
    from (inl (inr h)) = inr (inl h)
    from (inr h) = inr (inr h)

-- the paths take the same words
abbrev pub Alike : Path → Path → Type 0
Alike a b = (w : List Symbol) → InLanguage a w ↔ InLanguage b w

-- a word of the one path, followed by one of the other
abbrev pub Joins : Path → Path → List Symbol → Type 0
Joins a b w = (u : List Symbol) × (v : List Symbol) × (w ≡ u ++ v) × InLanguage a u × InLanguage b v

-- Juxtaposition.

grouped_cat-takes : (a b : Path) (w : List Symbol) → InLanguage (grouped_cat a b) w ↔ Joins a b w
unfolding hidden-the_row-Path-1 hidden
grouped_cat-takes Nothing b w = (λ h. absurd h, λ h. absurd h.3)
grouped_cat-takes Empty b w = (λ h. ([], w, refl, refl, h), λ h. subst (InLanguage b) (sym (h.2 ∙ ap (λ u. u ++ h.1) h.3)) h.4)
grouped_cat-takes (Cat' s (more_of-Path a end_of-Path) t (more_of-Path c end_of-Path)) b w = (
  λ h. let rest : Joins c b h.1 = (grouped_cat-takes c b h.1).0 h.4 in
      (h.0 ++ rest.0, rest.1, h.2 ∙ ap (λ v. h.0 ++ v) rest.2 ∙ sym (append_assoc h.0 rest.0 rest.1), (h.0, rest.0, refl, h.3, rest.3), rest.4),
  λ h. let first = h.3 in
      (first.0, first.1 ++ h.1, h.2 ∙ ap (λ u. u ++ h.1) first.2 ∙ append_assoc first.0 first.1 h.1, first.3, (grouped_cat-takes c b (first.1 ++ h.1)).1 (first.1, h.1, refl, first.4, h.4)),
)
grouped_cat-takes a b w = by_equality (Cat-is a b w)

pub cat_of-takes : (a b : Path) (w : List Symbol) → InLanguage (cat_of a b) w ↔ Joins a b w
cat_of-takes a Nothing w = (λ h. absurd h, λ h. absurd h.4)
cat_of-takes a Empty w = (λ h. (w, [], sym (append-nil w), h, refl), λ h. subst (InLanguage a) (sym (h.2 ∙ ap (λ v. h.0 ++ v) h.4 ∙ append-nil h.0)) h.3)
cat_of-takes a b w = grouped_cat-takes a b w

pub Joins-alike : (a b c d : Path) → Alike a c → Alike b d → (w : List Symbol) → Joins a b w ↔ Joins c d w
Joins-alike a b c d f g w = (λ h. (h.0, h.1, h.2, (f h.0).0 h.3, (g h.1).0 h.4), λ h. (h.0, h.1, h.2, (f h.0).1 h.3, (g h.1).1 h.4))

-- Alternatives.

some-append : (xs ys : List Path) (w : List Symbol) → InSome (xs ++ ys) w ↔ (InSome xs w ⊎ InSome ys w)
some-append [] ys w = (λ h. inr h, from)
  where
    from : ⊥ ⊎ InSome ys w → InSome ys w
    from (inl h) = absurd h
    from (inr h) = h
some-append (x ∷ xs) ys w = along (either itself (some-append xs ys w)) or-grouped

some-listed : {n : _} → (row : Row_of-Path n) (w : List Symbol) → InSome (listed row) w ↔ InSomeLanguage row w
some-listed end_of-Path w = itself
some-listed (more_of-Path a row) w = either itself (some-listed row w)

members-take : (a : Path) (w : List Symbol) → InSome (members a) w ↔ InLanguage a w
members-take Nothing w = itself
members-take (Alt' s row) w = some-listed row w
members-take a w = back or-nothing

added-takes : (a : Path) (paths : List Path) (w : List Symbol) → InSome (added a paths) w ↔ (InLanguage a w ⊎ InSome paths w)
added-takes a [] w = itself
added-takes a (b ∷ rest) w = by (order a b) refl (added-takes a rest w)
  where
    once : a ≡ b → (InLanguage b w ⊎ InSome rest w) ↔ (InLanguage a w ⊎ (InLanguage b w ⊎ InSome rest w))
    once e = (λ h. inr h, from)
      where
        from : InLanguage a w ⊎ (InLanguage b w ⊎ InSome rest w) → InLanguage b w ⊎ InSome rest w
        from (inl h) = inl (subst (λ c. InLanguage c w) e h)
        from (inr h) = h

    later : (InLanguage b w ⊎ (InLanguage a w ⊎ InSome rest w)) ↔ (InLanguage a w ⊎ (InLanguage b w ⊎ InSome rest w))
    later = (turn, turn)
      where
        turn : {A B C : Type 0} → A ⊎ (B ⊎ C) → B ⊎ (A ⊎ C)
        turn (inl h) = inr (inl h)
        turn (inr (inl h)) = inl h
        turn (inr (inr h)) = inr (inr h)

    by : (o : Ordering) → order a b ≡ o → InSome (added a rest) w ↔ (InLanguage a w ⊎ InSome rest w) → InSome (match_ordering o (a ∷ b ∷ rest) (b ∷ rest) (b ∷ added a rest)) w ↔ (InLanguage a w ⊎ (InLanguage b w ⊎ InSome rest w))
    by Less e ih = itself
    by Equal e ih = once (same a b e)
    by Greater e ih = along (either itself ih) later

added_all-take : (paths others : List Path) (w : List Symbol) → InSome (added_all paths others) w ↔ (InSome paths w ⊎ InSome others w)
added_all-take [] others w = (λ h. inr h, from)
  where
    from : ⊥ ⊎ InSome others w → InSome others w
    from (inl h) = absurd h
    from (inr h) = h
added_all-take (a ∷ paths) others w = along (added-takes a (added_all paths others) w) (along (either itself (added_all-take paths others w)) or-grouped)

one_of-takes : (paths : List Path) (w : List Symbol) → InLanguage (one_of paths) w ↔ InSome paths w
one_of-takes [] w = itself
one_of-takes (a ∷ []) w = or-nothing
one_of-takes (a ∷ b ∷ rest) w = by_equality (Alt-is (a ∷ b ∷ rest) w)

all-members-take : (paths : List Path) (w : List Symbol) → InSome (flat_map members paths) w ↔ InSome paths w
all-members-take [] w = itself
all-members-take (a ∷ paths) w = along (some-append (members a) (flat_map members paths) w) (either (members-take a w) (all-members-take paths w))

pub alt_of-takes : (paths : List Path) (w : List Symbol) → InLanguage (alt_of paths) w ↔ InSome paths w
alt_of-takes paths w =
    along (one_of-takes (added_all (flat_map members paths) []) w)
    (along (added_all-take (flat_map members paths) [] w) (along (back or-nothing) (all-members-take paths w)))

-- Repetition.

joined-append : (us vs : List (List Symbol)) → concatenation (us ++ vs) ≡ concatenation us ++ concatenation vs
joined-append [] vs = refl
joined-append (u ∷ us) vs = ap (λ w. u ++ w) (joined-append us vs) ∙ sym (append_assoc u (concatenation us) (concatenation vs))

abbrev pub InStar : Path → List Symbol → Type 0
InStar a w = (parts : List (List Symbol)) × (w ≡ concatenation parts) × AllByRecursion (InLanguage a) parts

all-append : (P : List Symbol → Type 0) (us vs : List (List Symbol)) → AllByRecursion P us → AllByRecursion P vs → AllByRecursion P (us ++ vs)
all-append P [] vs h g = g
all-append P (u ∷ us) vs h g = (h.0, all-append P us vs h.1 g)

-- repeated repetitions are one
star-again : (a : Path) (parts : List (List Symbol)) → AllByRecursion (InStar a) parts → InStar a (concatenation parts)
star-again a [] h = ([], refl, tt)
star-again a (u ∷ parts) h =
    let rest : InStar a (concatenation parts) = star-again a parts h.1 in
    let first : InStar a u = h.0 in
    (first.0 ++ rest.0, ap₂ (λ v w. v ++ w) first.1 rest.1 ∙ sym (joined-append first.0 rest.0), all-append (InLanguage a) first.0 rest.0 first.2 rest.2)

only-empty : (parts : List (List Symbol)) → AllByRecursion (λ u. u ≡ []) parts → concatenation parts ≡ []
only-empty [] h = refl
only-empty (u ∷ parts) h = ap₂ (λ v w. v ++ w) h.0 (only-empty parts h.1)

none : (parts : List (List Symbol)) → AllByRecursion (λ u. ⊥) parts → concatenation parts ≡ []
none [] h = refl
none (u ∷ parts) h = absurd h.0

pub star_of-takes : (a : Path) (w : List Symbol) → InLanguage (star_of a) w ↔ InStar a w
unfolding hidden-the_row-Path-1 hidden
star_of-takes Nothing w = (λ h. ([], h, tt), λ h. h.1 ∙ none h.0 h.2)
star_of-takes Empty w = (λ h. ([], h, tt), λ h. h.1 ∙ only-empty h.0 h.2)
star_of-takes (Star' s (more_of-Path a end_of-Path)) w = (λ h. (w ∷ [], sym (append-nil w), (h, tt)), λ h. subst (InStar a) (sym h.1) (star-again a h.0 h.2))
star_of-takes a w = by_equality (Star-is a w)

all-alike : (P Q : List Symbol → Type 0) → ((w : List Symbol) → P w → Q w) → (parts : List (List Symbol)) → AllByRecursion P parts → AllByRecursion Q parts
all-alike P Q f [] h = tt
all-alike P Q f (u ∷ parts) h = (f u h.0, all-alike P Q f parts h.1)

pub Star-alike : (a b : Path) → Alike a b → (w : List Symbol) → InStar a w ↔ InStar b w
Star-alike a b f w = (λ h. (h.0, h.1, all-alike (InLanguage a) (InLanguage b) (λ u. (f u).0) h.0 h.2), λ h. (h.0, h.1, all-alike (InLanguage b) (InLanguage a) (λ u. (f u).1) h.0 h.2))
