-- Normal forms keep the language; derivatives are quotients.
use Rattle.std.proofs.Common.{◌⊎◌, inl, inr, ◌↔◌, Bool, true, false, List, [], ◌∷◌, refl, sym, subst}
use Rattle.std.specs.List.{AllByRecursion}
use Rattle.merlin_model.specs.declared.policy.Symbol.{Symbol}
use Rattle.merlin_model.specs.declared.policy.Path.{Path, Nothing, Empty, Dot, Loc, Fun, Cat, Cat', Alt', Star, Star', Not', Row_of-Path, end_of-Path, more_of-Path}
use Rattle.merlin_model.specs.Paths.{InLanguage, InSomeLanguage, InSome, concatenation, HasNoFunction, Cat-is, Not-is, Alt-is}
use Rattle.path_regex.specs.Normal.{cat_of, not_of, normal_of, normals}
use Rattle.path_regex.specs.Derivatives.{takes_empty, has_no_function, not_if, with_next, derivative_of, derivatives}
use Rattle.path_regex.specs.Functions.{HasNoFun, EachHasNoFun, HasNoFunctionUnderNot, EachHasNoFunctionUnderNot}
use Rattle.path_regex.proofs.Languages.{along, back, itself, by_equality, Alike, Joins-alike, Star-alike, cat_of-takes, alt_of-takes, star_of-takes}
use Rattle.merlin_model.proofs.Members.{all_both}
use Rattle.path_regex.proofs.Functionless.{none-under, normal-none, derivative-none}
use Rattle.path_regex.proofs.Plain.{either, plain, plains, not_if as plain_not_if, with_next as plain_with_next, quotient, decided}

-- A path without functions takes words without functions.

abbrev IsPlain : List Symbol → Type 0
IsPlain w = AllByRecursion HasNoFunction w

mutual
  plain-words : (a : Path) → HasNoFun a → (w : List Symbol) → InLanguage a w → IsPlain w
  plain-words Nothing n w h = absurd h
  plain-words Empty n w h = subst IsPlain (sym h) tt
  plain-words Dot n w h = subst IsPlain (sym h.1) (refl, tt)
  plain-words (Loc l) n w h = subst IsPlain (sym h) (refl, tt)
  plain-words (Fun f) n w h = absurd n
  plain-words (Cat' s (more_of-Path a end_of-Path) t (more_of-Path b end_of-Path)) n w h =
      subst IsPlain (sym h.2) (all_both HasNoFunction h.0 h.1 (plain-words a n.0 h.0 h.3) (plain-words b n.1 h.1 h.4))
  plain-words (Alt' s row) n w h = some-plain row n w h
  plain-words (Star' s (more_of-Path a end_of-Path)) n w h = subst IsPlain (sym h.1) (all-joined h.0 (all-words (InLanguage a) (plain-words a n) h.0 h.2))
    where
      all-words : (P : List Symbol → Type 0) → ((u : List Symbol) → P u → IsPlain u) → (parts : List (List Symbol)) → AllByRecursion P parts → AllByRecursion IsPlain parts
      all-words P f [] g = tt
      all-words P f (u ∷ parts) g = (f u g.0, all-words P f parts g.1)

      all-joined : (parts : List (List Symbol)) → AllByRecursion IsPlain parts → IsPlain (concatenation parts)
      all-joined [] g = tt
      all-joined (u ∷ parts) g = all_both HasNoFunction u (concatenation parts) g.0 (all-joined parts g.1)
  plain-words (Not' s (more_of-Path a end_of-Path)) n w h = h.0

  some-plain : {n : _} → (row : Row_of-Path n) → EachHasNoFun row → (w : List Symbol) → InSomeLanguage row w → IsPlain w
  some-plain end_of-Path n w h = absurd h
  some-plain (more_of-Path a row) n w (inl h) = plain-words a n.0 w h
  some-plain (more_of-Path a row) n w (inr h) = some-plain row n.1 w h

-- Complements.

abbrev Lacks : Path → List Symbol → Type 0
Lacks a w = IsPlain w × (¬ InLanguage a w)

Lacks-alike : (a b : Path) → Alike a b → (w : List Symbol) → Lacks a w ↔ Lacks b w
Lacks-alike a b f w = (λ h. (h.0, λ i. h.1 ((f w).1 i)), λ h. (h.0, λ i. h.1 ((f w).0 i)))

-- what is not lacked is taken
not_lacked : (a : Path) → HasNoFun a → (w : List Symbol) → InLanguage a w ↔ (IsPlain w × (¬ Lacks a w))
not_lacked a n w = (λ h. (plain-words a n w h, λ l. l.1 h), λ h. by (decided a w) h.0 h.1)
  where
    by : InLanguage a w ⊎ (¬ InLanguage a w) → IsPlain w → (¬ Lacks a w) → InLanguage a w
    by (inl h) p l = h
    by (inr h) p l = absurd (l (p, h))

not_of-takes : (a : Path) → HasNoFun a → (w : List Symbol) → InLanguage (not_of a) w ↔ Lacks a w
not_of-takes (Not' s (more_of-Path a end_of-Path)) n w = not_lacked a n w
not_of-takes a n w = by_equality (Not-is a w)

-- Normal forms.

mutual
  pub normal-takes : (a : Path) → HasNoFunctionUnderNot a → (w : List Symbol) → InLanguage (normal_of a) w ↔ InLanguage a w
  normal-takes Nothing n w = itself
  normal-takes Empty n w = itself
  normal-takes Dot n w = itself
  normal-takes (Loc l) n w = itself
  normal-takes (Fun f) n w = itself
  normal-takes (Cat' s (more_of-Path a end_of-Path) t (more_of-Path b end_of-Path)) n w =
      along (cat_of-takes (normal_of a) (normal_of b) w) (Joins-alike (normal_of a) (normal_of b) a b (normal-takes a n.0) (normal-takes b n.1) w)
  normal-takes (Alt' s row) n w = along (alt_of-takes (normals row) w) (normals-take row n w)
  normal-takes (Star' s (more_of-Path a end_of-Path)) n w = along (star_of-takes (normal_of a) w) (Star-alike (normal_of a) a (normal-takes a n) w)
  normal-takes (Not' s (more_of-Path a end_of-Path)) n w =
      along (not_of-takes (normal_of a) (normal-none a n) w) (Lacks-alike (normal_of a) a (normal-takes a (none-under a n)) w)

  normals-take : {n : _} → (row : Row_of-Path n) → EachHasNoFunctionUnderNot row → (w : List Symbol) → InSome (normals row) w ↔ InSomeLanguage row w
  normals-take end_of-Path n w = itself
  normals-take (more_of-Path a row) n w = either (normal-takes a n.0 w) (normals-take row n.1 w)

-- Derivatives.

with_next-takes : (b : Bool) (first next other later : Path) → Alike first other → Alike next later → (w : List Symbol) → InLanguage (with_next b first next) w ↔ InLanguage (plain_with_next b other later) w
with_next-takes true first next other later f g w =
    along (alt_of-takes (first ∷ next ∷ []) w) (along (either (f w) (either (g w) itself)) (back (by_equality (Alt-is (other ∷ later ∷ []) w))))
with_next-takes false first next other later f g w = f w

mutual
  derivative-takes : (a : Path) → HasNoFunctionUnderNot a → (x : Symbol) (w : List Symbol) → InLanguage (derivative_of a x) w ↔ InLanguage (plain a x) w
  derivative-takes Nothing n x w = itself
  derivative-takes Empty n x w = itself
  derivative-takes Dot n x w = itself
  derivative-takes (Loc l) n x w = itself
  derivative-takes (Fun f) n x w = itself
  derivative-takes (Cat' s (more_of-Path a end_of-Path) t (more_of-Path b end_of-Path)) n x w =
      with_next-takes (takes_empty a) (cat_of (derivative_of a x) b) (derivative_of b x) (Cat (plain a x) b) (plain b x)
      (λ v. along (cat_of-takes (derivative_of a x) b v) (along (Joins-alike (derivative_of a x) b (plain a x) b (derivative-takes a n.0 x) (λ u. itself) v) (back (by_equality (Cat-is (plain a x) b v)))))
      (derivative-takes b n.1 x) w
  derivative-takes (Alt' s row) n x w = along (alt_of-takes (derivatives row x) w) (along (derivatives-take row n x w) (back (by_equality (Alt-is (plains row x) w))))
  derivative-takes (Star' s (more_of-Path a end_of-Path)) n x w =
      along (cat_of-takes (derivative_of a x) (Star a) w) (along (Joins-alike (derivative_of a x) (Star a) (plain a x) (Star a) (derivative-takes a n x) (λ u. itself) w) (back (by_equality (Cat-is (plain a x) (Star a) w))))
  derivative-takes (Not' s (more_of-Path a end_of-Path)) n x w = by (has_no_function x.fun) (derivative-takes a (none-under a n) x)
    where
      by : (b : Bool) → Alike (derivative_of a x) (plain a x) → InLanguage (not_if b (derivative_of a x)) w ↔ InLanguage (plain_not_if b (plain a x)) w
      by true f =
          along (not_of-takes (derivative_of a x) (derivative-none a x n) w)
          (along (Lacks-alike (derivative_of a x) (plain a x) f w) (back (by_equality (Not-is (plain a x) w))))
      by false f = itself

  derivatives-take : {n : _} → (row : Row_of-Path n) → EachHasNoFunctionUnderNot row → (x : Symbol) (w : List Symbol) → InSome (derivatives row x) w ↔ InSome (plains row x) w
  derivatives-take end_of-Path n x w = itself
  derivatives-take (more_of-Path a row) n x w = either (derivative-takes a n.0 x w) (derivatives-take row n.1 x w)

pub derivative-quotient : (a : Path) → HasNoFunctionUnderNot a → (x : Symbol) (w : List Symbol) → InLanguage (derivative_of a x) w ↔ InLanguage a (x ∷ w)
derivative-quotient a n x w = along (derivative-takes a n x w) (quotient a x w)
