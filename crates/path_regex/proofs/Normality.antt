-- Normal forms by their shape: each path's normal form has it, and what has it is its own normal form.
use Rattle.std.proofs.Common.{◌≡◌, ◌≤◌, length, Bool, true, false, List, [], ◌∷◌, ◌++◌, refl, sym, ◌∙◌, ap, ap₂, subst, arith}
use Rattle.std.specs.List.{AllByRecursion, flat_map}
use Rattle.std.specs.Ordering.{match_ordering, ordering_reverse}
use Rattle.std.specs.Cmp.Lexicographic.{nat_list_cmp_total}
use Rattle.std.specs.declared.cmp.Ordering.{Ordering}
use Rattle.std.specs.declared.cmp.Ordering.TheVariants.{Less, Equal, Greater}
use Rattle.std.specs.Prelude.{⊤}
use Rattle.merlin_model.specs.declared.policy.Symbol.{Symbol}
use Rattle.merlin_model.specs.declared.policy.Path.{Path, Nothing, Empty, Dot, Loc, Fun, Cat, Cat', Alt, Alt', Star, Star', Not, Not', Row_of-Path, end_of-Path, more_of-Path}
use Rattle.merlin_model.specs.declared.policy.Path.TheBlock.{hidden-the_row-Path-0, hidden-the_row-Path-1}
use denote.Hole.Carrier.{hidden}
use Rattle.path_regex.specs.Parts.{listed, Alt-listed}
use Rattle.path_regex.specs.Order.{spelled, order, AscendStrictly}
use Rattle.path_regex.specs.Normal.{grouped_cat, cat_of, members, added, added_all, one_of, alt_of, star_of, not_of, normal_of, normals, IsNormalForm}
use Rattle.path_regex.specs.Derivatives.{takes_empty, empty_if, has_no_function, not_if, with_next, derivative_of, derivatives}
use Rattle.path_regex.proofs.Shapes.{members-Alt}
use Rattle.merlin_model.proofs.Members.{all_both}
use Rattle.path_regex.proofs.Kept.{added_all-all}

-- The shape.

abbrev IsHead : Path → Type 0
IsHead Nothing = ⊥
IsHead Empty = ⊥
IsHead (Cat' _ _ _ _) = ⊥
IsHead _ = ⊤

abbrev IsTail : Path → Type 0
IsTail Nothing = ⊥
IsTail Empty = ⊥
IsTail _ = ⊤

abbrev IsMember : Path → Type 0
IsMember Nothing = ⊥
IsMember (Alt' _ _) = ⊥
IsMember _ = ⊤

abbrev IsRepeated : Path → Type 0
IsRepeated Nothing = ⊥
IsRepeated Empty = ⊥
IsRepeated (Star' _ _) = ⊥
IsRepeated _ = ⊤

abbrev IsNegated : Path → Type 0
IsNegated (Not' _ _) = ⊥
IsNegated _ = ⊤

-- the members of an Alt
abbrev AreMembers : List Path → Type 0
AreMembers paths = AllByRecursion IsMember paths × AscendStrictly paths × (2 ≤ length paths)

abbrev mutual
  pub IsNormal : Path → Type 0
  IsNormal (Cat' _ (more_of-Path a end_of-Path) _ (more_of-Path b end_of-Path)) = IsNormal a × IsNormal b × IsHead a × IsTail b
  IsNormal (Alt' _ row) = EachNormal row × AreMembers (listed row)
  IsNormal (Star' _ (more_of-Path a end_of-Path)) = IsNormal a × IsRepeated a
  IsNormal (Not' _ (more_of-Path a end_of-Path)) = IsNormal a × IsNegated a
  IsNormal _ = ⊤

  EachNormal : {n : _} → Row_of-Path n → Type 0
  EachNormal end_of-Path = ⊤
  EachNormal (more_of-Path a row) = IsNormal a × EachNormal row

each-listed : {n : _} → (row : Row_of-Path n) → EachNormal row → AllByRecursion IsNormal (listed row)
each-listed end_of-Path h = tt
each-listed (more_of-Path a row) h = (h.0, each-listed row h.1)

abbrev EachIn : Path → Type 0
EachIn (Alt' _ row) = EachNormal row
EachIn _ = ⊤

each-Alt : (paths : List Path) → AllByRecursion IsNormal paths → EachIn (Alt paths)
unfolding hidden-the_row-Path-0 hidden-the_row-Path-1 hidden
each-Alt [] h = tt
each-Alt (a ∷ paths) h = (h.0, each-Alt paths h.1)

normal-Alt : (paths : List Path) → AllByRecursion IsNormal paths → AreMembers paths → IsNormal (Alt paths)
unfolding hidden-the_row-Path-0 hidden-the_row-Path-1 hidden
normal-Alt paths h m = (each-Alt paths h, subst AreMembers (sym (members-Alt paths)) m)

abbrev InAscent : Path → Type 0
InAscent (Alt' _ row) = AscendStrictly (listed row)
InAscent _ = ⊤

in-ascent : (path : Path) → IsNormal path → InAscent path
in-ascent (Alt' s row) n = n.1.1
in-ascent path n = tt

ascent-Alt : (paths : List Path) → InAscent (Alt paths) → AscendStrictly paths
unfolding hidden-the_row-Path-0 hidden-the_row-Path-1 hidden
ascent-Alt paths h = subst AscendStrictly (members-Alt paths) h

-- the members of a normal Alt ascend
pub members-ascend : (paths : List Path) → IsNormal (Alt paths) → AscendStrictly paths
members-ascend paths n = ascent-Alt paths (in-ascent (Alt paths) n)

-- Juxtaposition.

grouped_cat-tail : (a b : Path) → IsTail a → IsTail (grouped_cat a b)
unfolding hidden-the_row-Path-1 hidden
grouped_cat-tail Nothing b t = absurd t
grouped_cat-tail Empty b t = absurd t
grouped_cat-tail (Cat' s (more_of-Path a end_of-Path) u (more_of-Path c end_of-Path)) b t = tt
grouped_cat-tail a b t = tt

grouped_cat-normal : (a b : Path) → IsNormal a → IsNormal b → IsTail b → IsNormal (grouped_cat a b)
unfolding hidden-the_row-Path-1 hidden
grouped_cat-normal Nothing b na nb t = tt
grouped_cat-normal Empty b na nb t = nb
grouped_cat-normal (Cat' s (more_of-Path a end_of-Path) u (more_of-Path c end_of-Path)) b na nb t = (na.0, grouped_cat-normal c b na.1 nb t, na.2, grouped_cat-tail c b na.3)
grouped_cat-normal a b na nb t = (na, nb, tt, t)

cat_of-normal : (a b : Path) → IsNormal a → IsNormal b → IsNormal (cat_of a b)
cat_of-normal a Nothing na nb = tt
cat_of-normal a Empty na nb = na
cat_of-normal a b na nb = grouped_cat-normal a b na nb tt

grouped_cat-own : (a b : Path) → IsHead a → grouped_cat a b ≡ Cat a b
grouped_cat-own Nothing b h = absurd h
grouped_cat-own Empty b h = absurd h
grouped_cat-own (Cat' s x t y) b h = absurd h
grouped_cat-own a b h = refl

cat_of-own : (a b : Path) → IsHead a → IsTail b → cat_of a b ≡ Cat a b
cat_of-own a Nothing h t = absurd t
cat_of-own a Empty h t = absurd t
cat_of-own a b h t = grouped_cat-own a b h

-- Alternatives.

turned : (a b : Path) → order a b ≡ Greater → order b a ≡ Less
turned a b e = nat_list_cmp_total.antisymm (spelled b) (spelled a) ∙ ap ordering_reverse e

under : (b a : Path) (rest : List Path) → order b a ≡ Less → AscendStrictly (b ∷ rest) → AscendStrictly (b ∷ added a rest)
under b a [] lt h = (lt, tt)
under b a (c ∷ rest) lt h = by (order a c) refl (λ l. under c a rest l h.1)
  where
    by : (o : Ordering) → order a c ≡ o → (order c a ≡ Less → AscendStrictly (c ∷ added a rest)) → AscendStrictly (b ∷ match_ordering o (a ∷ c ∷ rest) (c ∷ rest) (c ∷ added a rest))
    by Less e ih = (lt, (e, h.1))
    by Equal e ih = h
    by Greater e ih = (h.0, ih (turned a c e))

added-ascending : (a : Path) (paths : List Path) → AscendStrictly paths → AscendStrictly (added a paths)
added-ascending a [] h = tt
added-ascending a (b ∷ rest) h = by (order a b) refl
  where
    by : (o : Ordering) → order a b ≡ o → AscendStrictly (match_ordering o (a ∷ b ∷ rest) (b ∷ rest) (b ∷ added a rest))
    by Less e = (e, h)
    by Equal e = h
    by Greater e = under b a rest (turned a b e) h

pub added_all-ascending : (paths others : List Path) → AscendStrictly others → AscendStrictly (added_all paths others)
added_all-ascending [] others h = h
added_all-ascending (a ∷ paths) others h = added-ascending a (added_all paths others) (added_all-ascending paths others h)

all-both : (P Q : Path → Type 0) (paths : List Path) → AllByRecursion P paths → AllByRecursion Q paths → AllByRecursion (λ a. P a × Q a) paths
all-both P Q [] h g = tt
all-both P Q (a ∷ paths) h g = ((h.0, g.0), all-both P Q paths h.1 g.1)

all-first : (P Q : Path → Type 0) (paths : List Path) → AllByRecursion (λ a. P a × Q a) paths → AllByRecursion P paths × AllByRecursion Q paths
all-first P Q [] h = (tt, tt)
all-first P Q (a ∷ paths) h = let rest = all-first P Q paths h.1 in ((h.0.0, rest.0), (h.0.1, rest.1))

abbrev IsNormalMember : Path → Type 0
IsNormalMember a = IsNormal a × IsMember a

members-normal : (a : Path) → IsNormal a → AllByRecursion IsNormalMember (members a)
members-normal Nothing n = tt
members-normal (Alt' s row) n = all-both IsNormal IsMember (listed row) (each-listed row n.0) n.1.0
members-normal a n = ((n, tt), tt)

all-members-normal : (paths : List Path) → AllByRecursion IsNormal paths → AllByRecursion IsNormalMember (flat_map members paths)
all-members-normal [] h = tt
all-members-normal (a ∷ paths) h = all_both IsNormalMember (members a) (flat_map members paths) (members-normal a h.0) (all-members-normal paths h.1)

one_of-normal : (paths : List Path) → AllByRecursion IsNormalMember paths → AscendStrictly paths → IsNormal (one_of paths)
one_of-normal [] h asc = tt
one_of-normal (a ∷ []) h asc = h.0.0
one_of-normal (a ∷ b ∷ rest) h asc =
    let both = all-first IsNormal IsMember (a ∷ b ∷ rest) h in
    normal-Alt (a ∷ b ∷ rest) both.0 (both.1, asc, omega arith)

pub alt_of-normal : (paths : List Path) → AllByRecursion IsNormal paths → IsNormal (alt_of paths)
alt_of-normal paths h =
    one_of-normal (added_all (flat_map members paths) [])
    (added_all-all IsNormalMember (flat_map members paths) [] (all-members-normal paths h) tt)
    (added_all-ascending (flat_map members paths) [] tt)

added-own : (a : Path) (rest : List Path) → AscendStrictly (a ∷ rest) → added a rest ≡ a ∷ rest
added-own a [] h = refl
added-own a (b ∷ rest) h = ap (λ o. match_ordering o (a ∷ b ∷ rest) (b ∷ rest) (b ∷ added a rest)) h.0

rest-ascending : (a : Path) (rest : List Path) → AscendStrictly (a ∷ rest) → AscendStrictly rest
rest-ascending a [] h = tt
rest-ascending a (b ∷ rest) h = h.1

added_all-own : (paths : List Path) → AscendStrictly paths → added_all paths [] ≡ paths
added_all-own [] h = refl
added_all-own (a ∷ rest) h = ap (added a) (added_all-own rest (rest-ascending a rest h)) ∙ added-own a rest h

member-own : (a : Path) → IsMember a → members a ≡ a ∷ []
member-own Nothing h = absurd h
member-own (Alt' s row) h = absurd h
member-own a h = refl

members-own : (paths : List Path) → AllByRecursion IsMember paths → flat_map members paths ≡ paths
members-own [] h = refl
members-own (a ∷ paths) h = ap₂ (λ xs ys. xs ++ ys) (member-own a h.0) (members-own paths h.1)

one_of-own : (paths : List Path) → 2 ≤ length paths → one_of paths ≡ Alt paths
one_of-own [] h = let impossible : ⊥ = omega (arith, h) in absurd impossible
one_of-own (a ∷ []) h = let impossible : ⊥ = omega (arith, h) in absurd impossible
one_of-own (a ∷ b ∷ rest) h = refl

alt_of-own : (paths : List Path) → AreMembers paths → alt_of paths ≡ Alt paths
alt_of-own paths m = ap (λ l. one_of (added_all l [])) (members-own paths m.0) ∙ ap one_of (added_all-own paths m.1) ∙ one_of-own paths m.2

-- Repetition and complement.

star_of-normal : (a : Path) → IsNormal a → IsNormal (star_of a)
unfolding hidden-the_row-Path-1 hidden
star_of-normal Nothing n = tt
star_of-normal Empty n = tt
star_of-normal (Star' s (more_of-Path a end_of-Path)) n = n
star_of-normal a n = (n, tt)

star_of-own : (a : Path) → IsRepeated a → star_of a ≡ Star a
star_of-own Nothing h = absurd h
star_of-own Empty h = absurd h
star_of-own (Star' s x) h = absurd h
star_of-own a h = refl

not_of-normal : (a : Path) → IsNormal a → IsNormal (not_of a)
unfolding hidden-the_row-Path-1 hidden
not_of-normal (Not' s (more_of-Path a end_of-Path)) n = n.0
not_of-normal a n = (n, tt)

not_of-own : (a : Path) → IsNegated a → not_of a ≡ Not a
not_of-own (Not' s x) h = absurd h
not_of-own a h = refl

-- Normal forms have the shape, and what has it is its own.

mutual
  pub normal-normal : (a : Path) → IsNormal (normal_of a)
  normal-normal Nothing = tt
  normal-normal Empty = tt
  normal-normal Dot = tt
  normal-normal (Loc l) = tt
  normal-normal (Fun f) = tt
  normal-normal (Cat' s (more_of-Path a end_of-Path) t (more_of-Path b end_of-Path)) = cat_of-normal (normal_of a) (normal_of b) (normal-normal a) (normal-normal b)
  normal-normal (Alt' s row) = alt_of-normal (normals row) (normals-normal row)
  normal-normal (Star' s (more_of-Path a end_of-Path)) = star_of-normal (normal_of a) (normal-normal a)
  normal-normal (Not' s (more_of-Path a end_of-Path)) = not_of-normal (normal_of a) (normal-normal a)

  normals-normal : {n : _} → (row : Row_of-Path n) → AllByRecursion IsNormal (normals row)
  normals-normal end_of-Path = tt
  normals-normal (more_of-Path a row) = (normal-normal a, normals-normal row)

mutual
  unfolding hidden-the_row-Path-1 hidden

  pub normal-own : (a : Path) → IsNormal a → IsNormalForm a
  normal-own Nothing n = refl
  normal-own Empty n = refl
  normal-own Dot n = refl
  normal-own (Loc l) n = refl
  normal-own (Fun f) n = refl
  normal-own (Cat' s (more_of-Path a end_of-Path) t (more_of-Path b end_of-Path)) n = ap₂ cat_of (normal-own a n.0) (normal-own b n.1) ∙ cat_of-own a b n.2 n.3
  normal-own (Alt' s row) n = ap alt_of (normals-own row n.0) ∙ alt_of-own (listed row) n.1 ∙ sym (Alt-listed s row)
  normal-own (Star' s (more_of-Path a end_of-Path)) n = ap star_of (normal-own a n.0) ∙ star_of-own a n.1
  normal-own (Not' s (more_of-Path a end_of-Path)) n = ap not_of (normal-own a n.0) ∙ not_of-own a n.1

  normals-own : {n : _} → (row : Row_of-Path n) → EachNormal row → normals row ≡ listed row
  normals-own end_of-Path n = refl
  normals-own (more_of-Path a row) n = ap₂ (λ x xs. x ∷ xs) (normal-own a n.0) (normals-own row n.1)

pub has-shape : (a : Path) → IsNormalForm a → IsNormal a
has-shape a e = subst IsNormal e (normal-normal a)

-- Derivatives of normal forms are normal forms.

with_next-normal : (b : Bool) (first next : Path) → IsNormal first → IsNormal next → IsNormal (with_next b first next)
with_next-normal true first next f n = alt_of-normal (first ∷ next ∷ []) (f, (n, tt))
with_next-normal false first next f n = f

empty_if-normal : (b : Bool) → IsNormal (empty_if b)
empty_if-normal true = tt
empty_if-normal false = tt

mutual
  unfolding hidden-the_row-Path-1 hidden

  derivative-normal : (a : Path) (x : Symbol) → IsNormal a → IsNormal (derivative_of a x)
  derivative-normal Nothing x n = tt
  derivative-normal Empty x n = tt
  derivative-normal Dot x n = empty_if-normal _
  derivative-normal (Loc l) x n = empty_if-normal _
  derivative-normal (Fun f) x n = empty_if-normal _
  derivative-normal (Cat' s (more_of-Path a end_of-Path) t (more_of-Path b end_of-Path)) x n =
      with_next-normal (takes_empty a) (cat_of (derivative_of a x) b) (derivative_of b x) (cat_of-normal (derivative_of a x) b (derivative-normal a x n.0) n.1) (derivative-normal b x n.1)
  derivative-normal (Alt' s row) x n = alt_of-normal (derivatives row x) (derivatives-normal row x n.0)
  derivative-normal (Star' s (more_of-Path a end_of-Path)) x n = cat_of-normal (derivative_of a x) (Star a) (derivative-normal a x n.0) n
  derivative-normal (Not' s (more_of-Path a end_of-Path)) x n = by (has_no_function x.fun) (derivative-normal a x n.0)
    where
      by : (b : Bool) → IsNormal (derivative_of a x) → IsNormal (not_if b (derivative_of a x))
      by true ih = not_of-normal (derivative_of a x) ih
      by false ih = tt

  derivatives-normal : {n : _} → (row : Row_of-Path n) (x : Symbol) → EachNormal row → AllByRecursion IsNormal (derivatives row x)
  derivatives-normal end_of-Path x n = tt
  derivatives-normal (more_of-Path a row) x n = (derivative-normal a x n.0, derivatives-normal row x n.1)

pub normal_form : (a : Path) → IsNormalForm (normal_of a)
normal_form a = normal-own (normal_of a) (normal-normal a)

pub derivative-own : (a : Path) (x : Symbol) → IsNormalForm a → IsNormalForm (derivative_of a x)
derivative-own a x e = normal-own (derivative_of a x) (derivative-normal a x (has-shape a e))
