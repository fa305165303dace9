-- What holds of paths exactly where it holds of their parts is kept by normal forms and derivatives.
use Rattle.std.proofs.Common.{◌≡◌, ◌==◌, ◌&&◌, Bool, true, false, List, [], ◌∷◌, map, sym, ◌∙◌, ap, subst}
use Rattle.std.specs.Prelude.{⊤}
use Rattle.std.specs.List.{AllByRecursion, flat_map}
use Rattle.std.specs.Ordering.{match_ordering}
use Rattle.std.specs.declared.cmp.Ordering.{Ordering}
use Rattle.std.specs.declared.cmp.Ordering.TheVariants.{Less, Equal, Greater}
use Rattle.merlin_model.specs.declared.policy.Symbol.{Symbol}
use Rattle.merlin_model.specs.declared.policy.Path.{Path, Nothing, Empty, Dot, Loc, Fun, Cat, Cat', Alt, Alt', Star, Star', Not, Not', Row_of-Path, end_of-Path, more_of-Path}
use Rattle.merlin_model.specs.declared.policy.Path.TheBlock.{hidden-the_row-Path-1}
use denote.Hole.Carrier.{hidden}
use Rattle.merlin_model.proofs.Members.{all_both}
use Rattle.path_regex.specs.Parts.{listed, Alt-listed}
use Rattle.path_regex.specs.Order.{order}
use Rattle.path_regex.specs.Normal.{grouped_cat, cat_of, members, added, added_all, one_of, alt_of, star_of, not_of, normal_of, normals}
use Rattle.path_regex.specs.Derivatives.{takes_empty, empty_if, has_no_function, is_function, not_if, with_next, derivative_of, derivatives}

-- What holds of paths exactly where it holds of their parts.
pub record IsOfParts (Q : Path → Type 0) : Type 0 where
  pub nothing : Q Nothing
  pub empty : Q Empty
  pub cat : (a b : Path) → Q a → Q b → Q (Cat a b)
  pub uncat : (a b : Path) → Q (Cat a b) → Q a × Q b
  pub alt : (paths : List Path) → AllByRecursion Q paths → Q (Alt paths)
  pub unalt : (paths : List Path) → Q (Alt paths) → AllByRecursion Q paths
  pub star : (a : Path) → Q a → Q (Star a)
  pub unstar : (a : Path) → Q (Star a) → Q a

-- what is by each path's variant what it says of the parts
pub of_parts : (Q : Path → Type 0) → Q Nothing → Q Empty → ((a b : Path) → Q (Cat a b) ≡ (Q a × Q b)) → Q (Alt []) ≡ ⊤ → ((a : Path) (paths : List Path) → Q (Alt (a ∷ paths)) ≡ (Q a × Q (Alt paths))) → ((a : Path) → Q (Star a) ≡ Q a) → IsOfParts Q
of_parts Q nothing empty cat none some star = record {
  nothing = nothing;
  empty = empty;
  cat = λ a b f g. subst (λ T. T) (sym (cat a b)) (f, g);
  uncat = λ a b h. subst (λ T. T) (cat a b) h;
  alt = λ paths h. subst (λ T. T) (sym (each paths)) h;
  unalt = λ paths h. subst (λ T. T) (each paths) h;
  star = λ a h. subst (λ T. T) (sym (star a)) h;
  unstar = λ a h. subst (λ T. T) (star a) h;
}
  where
    each : (paths : List Path) → Q (Alt paths) ≡ AllByRecursion Q paths
    each [] = none
    each (a ∷ paths) = some a paths ∙ ap (λ T. Q a × T) (each paths)

pub all-map : {X Y : Type 0} (P : X → Type 0) (Q : Y → Type 0) (f : X → Y) (xs : List X) → ((x : X) → P x → Q (f x)) → AllByRecursion P xs → AllByRecursion Q (map f xs)
all-map P Q f [] k h = tt
all-map P Q f (x ∷ xs) k h = (k x h.0, all-map P Q f xs k h.1)

pub added-all : (Q : Path → Type 0) (a : Path) (paths : List Path) → Q a → AllByRecursion Q paths → AllByRecursion Q (added a paths)
added-all Q a [] qa h = (qa, tt)
added-all Q a (b ∷ rest) qa h = by (order a b) (added-all Q a rest qa h.1)
  where
    by : (o : Ordering) → AllByRecursion Q (added a rest) → AllByRecursion Q (match_ordering o (a ∷ b ∷ rest) (b ∷ rest) (b ∷ added a rest))
    by Less ih = (qa, h)
    by Equal ih = h
    by Greater ih = (h.0, ih)

pub added_all-all : (Q : Path → Type 0) (paths others : List Path) → AllByRecursion Q paths → AllByRecursion Q others → AllByRecursion Q (added_all paths others)
added_all-all Q [] others h g = g
added_all-all Q (a ∷ paths) others h g = added-all Q a (added_all paths others) h.0 (added_all-all Q paths others h.1 g)

module _ (Q : Path → Type 0) (q : IsOfParts Q) where
  grouped_cat-kept : (a b : Path) → Q a → Q b → Q (grouped_cat a b)
  unfolding hidden-the_row-Path-1 hidden
  grouped_cat-kept Nothing b qa qb = q.nothing
  grouped_cat-kept Empty b qa qb = qb
  grouped_cat-kept (Cat' s (more_of-Path a end_of-Path) t (more_of-Path c end_of-Path)) b qa qb =
      let parts = q.uncat a c qa in q.cat a (grouped_cat c b) parts.0 (grouped_cat-kept c b parts.1 qb)
  grouped_cat-kept a b qa qb = q.cat a b qa qb

  cat_of-kept : (a b : Path) → Q a → Q b → Q (cat_of a b)
  cat_of-kept a Nothing qa qb = q.nothing
  cat_of-kept a Empty qa qb = qa
  cat_of-kept a b qa qb = grouped_cat-kept a b qa qb

  members-kept : (a : Path) → Q a → AllByRecursion Q (members a)
  members-kept Nothing qa = tt
  members-kept (Alt' s row) qa = q.unalt (listed row) (subst Q (Alt-listed s row) qa)
  members-kept a qa = (qa, tt)

  all-members-kept : (paths : List Path) → AllByRecursion Q paths → AllByRecursion Q (flat_map members paths)
  all-members-kept [] h = tt
  all-members-kept (a ∷ paths) h = all_both Q (members a) (flat_map members paths) (members-kept a h.0) (all-members-kept paths h.1)

  one_of-kept : (paths : List Path) → AllByRecursion Q paths → Q (one_of paths)
  one_of-kept [] h = q.nothing
  one_of-kept (a ∷ []) h = h.0
  one_of-kept (a ∷ b ∷ rest) h = q.alt (a ∷ b ∷ rest) h

  alt_of-kept : (paths : List Path) → AllByRecursion Q paths → Q (alt_of paths)
  alt_of-kept paths h = one_of-kept (added_all (flat_map members paths) []) (added_all-all Q (flat_map members paths) [] (all-members-kept paths h) tt)

  star_of-kept : (a : Path) → Q a → Q (star_of a)
  unfolding hidden-the_row-Path-1 hidden
  star_of-kept Nothing qa = q.empty
  star_of-kept Empty qa = q.empty
  star_of-kept (Star' s (more_of-Path a end_of-Path)) qa = qa
  star_of-kept a qa = q.star a qa

  with_next-kept : (b : Bool) (first next : Path) → Q first → Q next → Q (with_next b first next)
  with_next-kept true first next f n = alt_of-kept (first ∷ next ∷ []) (f, (n, tt))
  with_next-kept false first next f n = f

  empty_if-kept : (b : Bool) → Q (empty_if b)
  empty_if-kept true = q.empty
  empty_if-kept false = q.nothing

-- kept by normal forms, where complements are
module _ (Q : Path → Type 0) (q : IsOfParts Q) (un : (a : Path) → Q (Not a) → Q a) (neg : (a : Path) → Q (Not a) → Q (normal_of a) → Q (not_of (normal_of a))) where
  mutual
    unfolding hidden-the_row-Path-1 hidden

    pub normal-kept : (a : Path) → Q a → Q (normal_of a)
    normal-kept Nothing h = h
    normal-kept Empty h = h
    normal-kept Dot h = h
    normal-kept (Loc l) h = h
    normal-kept (Fun f) h = h
    normal-kept (Cat' s (more_of-Path a end_of-Path) t (more_of-Path b end_of-Path)) h =
        let parts = q.uncat a b h in cat_of-kept Q q (normal_of a) (normal_of b) (normal-kept a parts.0) (normal-kept b parts.1)
    normal-kept (Alt' s row) h = alt_of-kept Q q (normals row) (normals-kept row (q.unalt (listed row) (subst Q (Alt-listed s row) h)))
    normal-kept (Star' s (more_of-Path a end_of-Path)) h = star_of-kept Q q (normal_of a) (normal-kept a (q.unstar a h))
    normal-kept (Not' s (more_of-Path a end_of-Path)) h = neg a h (normal-kept a (un a h))

    normals-kept : {n : _} → (row : Row_of-Path n) → AllByRecursion Q (listed row) → AllByRecursion Q (normals row)
    normals-kept end_of-Path h = tt
    normals-kept (more_of-Path a row) h = (normal-kept a h.0, normals-kept row h.1)

-- kept by derivatives, where complements are
module _ (Q : Path → Type 0) (q : IsOfParts Q) (x : Symbol) (un : (a : Path) → Q (Not a) → Q a) (neg : (a : Path) → Q (Not a) → Q (derivative_of a x) → Q (not_of (derivative_of a x))) where
  mutual
    unfolding hidden-the_row-Path-1 hidden

    pub derivative-kept : (a : Path) → Q a → Q (derivative_of a x)
    derivative-kept Nothing h = q.nothing
    derivative-kept Empty h = q.nothing
    derivative-kept Dot h = empty_if-kept Q q (has_no_function x.fun)
    derivative-kept (Loc l) h = empty_if-kept Q q (has_no_function x.fun && (l == x.loc))
    derivative-kept (Fun f) h = empty_if-kept Q q (is_function f x.fun)
    derivative-kept (Cat' s (more_of-Path a end_of-Path) t (more_of-Path b end_of-Path)) h =
        let parts = q.uncat a b h in
        with_next-kept Q q (takes_empty a) (cat_of (derivative_of a x) b) (derivative_of b x) (cat_of-kept Q q (derivative_of a x) b (derivative-kept a parts.0) parts.1) (derivative-kept b parts.1)
    derivative-kept (Alt' s row) h = alt_of-kept Q q (derivatives row x) (derivatives-kept row (q.unalt (listed row) (subst Q (Alt-listed s row) h)))
    derivative-kept (Star' s (more_of-Path a end_of-Path)) h = cat_of-kept Q q (derivative_of a x) (Star a) (derivative-kept a (q.unstar a h)) h
    derivative-kept (Not' s (more_of-Path a end_of-Path)) h = by (has_no_function x.fun) (neg a h (derivative-kept a (un a h)))
      where
        by : (b : Bool) → Q (not_of (derivative_of a x)) → Q (not_if b (derivative_of a x))
        by true k = k
        by false k = q.nothing

    derivatives-kept : {n : _} → (row : Row_of-Path n) → AllByRecursion Q (listed row) → AllByRecursion Q (derivatives row x)
    derivatives-kept end_of-Path h = tt
    derivatives-kept (more_of-Path a row) h = (derivative-kept a h.0, derivatives-kept row h.1)
