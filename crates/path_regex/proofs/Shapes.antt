-- What is said of rows, in the words of lists.
use Rattle.std.proofs.Common.{◌≡◌, ◌<◌, ℕ, suc, length, get_or, drop, drop-cons, true, not, ◌&&◌, ◌||◌, List, [], ◌∷◌, ◌++◌, map, append_assoc, append-nil, refl, sym, ◌∙◌, ap}
use Rattle.std.specs.List.{flat_map, list_any}
use Rattle.merlin_model.specs.declared.policy.Symbol.{Symbol}
use Rattle.merlin_model.specs.declared.policy.Path.{Path, Cat, Alt, Alt', Star, Not}
use Rattle.merlin_model.specs.declared.policy.Path.TheBlock.{hidden-the_row-Path-0, hidden-the_row-Path-1}
use denote.Hole.Carrier.{hidden}
use Rattle.path_regex.specs.Normal.{grouped_cat, cat_of, members, added, added_all, alt_of, star_of, not_of, normal_of, normals}
use Rattle.path_regex.specs.Derivatives.{takes_empty, with_next, not_if, has_no_function, derivative_of, derivatives}

pub grouped_cat-Cat : (a c b : Path) → grouped_cat (Cat a c) b ≡ Cat a (grouped_cat c b)
unfolding hidden-the_row-Path-1 hidden
grouped_cat-Cat a c b = refl

pub star_of-Star : (a : Path) → star_of (Star a) ≡ Star a
unfolding hidden-the_row-Path-1 hidden
star_of-Star a = refl

pub not_of-Not : (a : Path) → not_of (Not a) ≡ a
unfolding hidden-the_row-Path-1 hidden
not_of-Not a = refl

pub members-Alt : (paths : List Path) → members (Alt paths) ≡ paths
unfolding hidden-the_row-Path-0 hidden-the_row-Path-1 hidden
members-Alt [] = refl
members-Alt (a ∷ paths) = ap (λ l. a ∷ l) (members-Alt paths)

-- Lists put in their places.

pub added_all-append : (xs ys others : List Path) → added_all (xs ++ ys) others ≡ added_all xs (added_all ys others)
added_all-append [] ys others = refl
added_all-append (x ∷ xs) ys others = ap (added x) (added_all-append xs ys others)

pub flat_map-last : (paths : List Path) (a : Path) → flat_map members (paths ++ a ∷ []) ≡ flat_map members paths ++ members a
flat_map-last [] a = append-nil (members a)
flat_map-last (b ∷ paths) a = ap (λ l. members b ++ l) (flat_map-last paths a) ∙ sym (append_assoc (members b) (flat_map members paths) (members a))

-- Normal forms and derivatives of put-together paths.

pub normal_of-Cat : (a b : Path) → normal_of (Cat a b) ≡ cat_of (normal_of a) (normal_of b)
unfolding hidden-the_row-Path-1 hidden
normal_of-Cat a b = refl

pub normal_of-Star : (a : Path) → normal_of (Star a) ≡ star_of (normal_of a)
unfolding hidden-the_row-Path-1 hidden
normal_of-Star a = refl

pub normal_of-Not : (a : Path) → normal_of (Not a) ≡ not_of (normal_of a)
unfolding hidden-the_row-Path-1 hidden
normal_of-Not a = refl

abbrev normals-of : Path → List Path
normals-of (Alt' s row) = normals row
normals-of _ = []

pub normals-Alt : (paths : List Path) → normals-of (Alt paths) ≡ map normal_of paths
unfolding hidden-the_row-Path-0 hidden-the_row-Path-1 hidden
normals-Alt [] = refl
normals-Alt (a ∷ paths) = ap (λ l. normal_of a ∷ l) (normals-Alt paths)

pub normal_of-Alt : (paths : List Path) → normal_of (Alt paths) ≡ alt_of (map normal_of paths)
unfolding hidden-the_row-Path-0 hidden-the_row-Path-1 hidden
normal_of-Alt paths = ap alt_of (normals-Alt paths)

pub takes_empty-Cat : (a b : Path) → takes_empty (Cat a b) ≡ (takes_empty a && takes_empty b)
unfolding hidden-the_row-Path-1 hidden
takes_empty-Cat a b = refl

pub takes_empty-Alt : (paths : List Path) → takes_empty (Alt paths) ≡ list_any takes_empty paths
unfolding hidden-the_row-Path-0 hidden-the_row-Path-1 hidden
takes_empty-Alt [] = refl
takes_empty-Alt (a ∷ paths) = ap (λ b. takes_empty a || b) (takes_empty-Alt paths)

pub takes_empty-at : (paths : List Path) (i : ℕ) (a : Path) → i < length paths → a ≡ get_or paths i a → takes_empty a ≡ true → list_any takes_empty (drop i paths) ≡ true
takes_empty-at paths i a lt e t =
    ap (list_any takes_empty) (drop-cons paths i a lt)
    ∙ ap (λ b. b || list_any takes_empty (drop (suc i) paths)) (ap takes_empty (sym e) ∙ t)

pub takes_empty-Star : (a : Path) → takes_empty (Star a) ≡ true
unfolding hidden-the_row-Path-1 hidden
takes_empty-Star a = refl

pub takes_empty-Not : (a : Path) → takes_empty (Not a) ≡ not (takes_empty a)
unfolding hidden-the_row-Path-1 hidden
takes_empty-Not a = refl

pub derivative_of-Cat : (a b : Path) (x : Symbol) → derivative_of (Cat a b) x ≡ with_next (takes_empty a) (cat_of (derivative_of a x) b) (derivative_of b x)
unfolding hidden-the_row-Path-1 hidden
derivative_of-Cat a b x = refl

abbrev derivatives-of : Path → Symbol → List Path
derivatives-of (Alt' s row) x = derivatives row x
derivatives-of _ x = []

derivatives-Alt : (paths : List Path) (x : Symbol) → derivatives-of (Alt paths) x ≡ map (λ a. derivative_of a x) paths
unfolding hidden-the_row-Path-0 hidden-the_row-Path-1 hidden
derivatives-Alt [] x = refl
derivatives-Alt (a ∷ paths) x = ap (λ l. derivative_of a x ∷ l) (derivatives-Alt paths x)

pub derivative_of-Alt : (paths : List Path) (x : Symbol) → derivative_of (Alt paths) x ≡ alt_of (map (λ a. derivative_of a x) paths)
unfolding hidden-the_row-Path-0 hidden-the_row-Path-1 hidden
derivative_of-Alt paths x = ap alt_of (derivatives-Alt paths x)

pub derivative_of-Star : (a : Path) (x : Symbol) → derivative_of (Star a) x ≡ cat_of (derivative_of a x) (Star a)
unfolding hidden-the_row-Path-1 hidden
derivative_of-Star a x = refl

pub derivative_of-Not : (a : Path) (x : Symbol) → derivative_of (Not a) x ≡ not_if (has_no_function x.fun) (derivative_of a x)
unfolding hidden-the_row-Path-1 hidden
derivative_of-Not a x = refl
