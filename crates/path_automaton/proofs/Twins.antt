-- Symbols that a path sees alike have the same derivatives.
use Rattle.std.proofs.Common.{◌≡◌, ◌==◌, ◌&&◌, ◌||◌, ℕ, Bool, true, false, List, [], ◌∷◌, Option, None, Some, refl, sym, ◌∙◌, ap, ap₂}
use Rattle.std.specs.Prelude.{⊤}
use Rattle.merlin_model.specs.declared.policy.Symbol.{Symbol}
use Rattle.merlin_model.specs.declared.policy.Path.{Path, Nothing, Empty, Dot, Loc, Fun, Cat', Alt', Star, Star', Not', Row_of-Path, end_of-Path, more_of-Path}
use Rattle.merlin_model.specs.declared.policy.Path.TheBlock.{hidden-the_row-Path-0, hidden-the_row-Path-1}
use denote.Hole.Carrier.{hidden}
use Rattle.path_regex.specs.Normal.{cat_of, alt_of, not_of, normal_of}
use Rattle.path_regex.specs.Derivatives.{takes_empty, empty_if, has_no_function, is_function, not_if, with_next, derivative_of, derivatives}
use Rattle.path_regex.proofs.Kept.{IsOfParts, of_parts, normal-kept, derivative-kept}
use Rattle.path_automaton.specs.SeenSymbols.{mentions, some_mention, seen_where}
use Rattle.path_automaton.specs.Classes.{IsBlind}
use Rattle.path_regex.specs.States.{rest_after}

abbrev at_location : ℕ → Symbol → Bool
at_location l x = has_no_function x.fun && (l == x.loc)

module _ (x y : Symbol) where
  abbrev mutual
    -- no name of the path tells the symbols apart
    IsTwin : Path → Type 0
    IsTwin (Loc l) = at_location l x ≡ at_location l y
    IsTwin (Fun f) = is_function f x.fun ≡ is_function f y.fun
    IsTwin (Cat' _ (more_of-Path a end_of-Path) _ (more_of-Path b end_of-Path)) = IsTwin a × IsTwin b
    IsTwin (Alt' _ row) = EachTwin row
    IsTwin (Star' _ (more_of-Path a end_of-Path)) = IsTwin a
    IsTwin (Not' _ (more_of-Path a end_of-Path)) = IsTwin a
    IsTwin _ = ⊤

    EachTwin : {n : _} → Row_of-Path n → Type 0
    EachTwin end_of-Path = ⊤
    EachTwin (more_of-Path a row) = IsTwin a × EachTwin row

  twin-parts : IsOfParts IsTwin
  unfolding hidden-the_row-Path-0 hidden-the_row-Path-1 hidden
  twin-parts = of_parts IsTwin tt tt (λ a b. refl) refl (λ a paths. refl) (λ a. refl)

  not_of-twin : (a : Path) → IsTwin a → IsTwin (not_of a)
  unfolding hidden-the_row-Path-1 hidden
  not_of-twin (Not' s (more_of-Path a end_of-Path)) h = h
  not_of-twin a h = h

  normal-twin : (a : Path) → IsTwin a → IsTwin (normal_of a)
  unfolding hidden-the_row-Path-1 hidden
  normal-twin a h = normal-kept IsTwin twin-parts (λ b n. n) (λ b n m. not_of-twin (normal_of b) m) a h

  derivative-twin : (a : Path) (z : Symbol) → IsTwin a → IsTwin (derivative_of a z)
  unfolding hidden-the_row-Path-1 hidden
  derivative-twin a z h = derivative-kept IsTwin twin-parts z (λ b n. n) (λ b n m. not_of-twin (derivative_of b z) m) a h

  after-twin : (a : Path) (w : List Symbol) → IsTwin a → IsTwin (rest_after a w)
  after-twin a [] h = h
  after-twin a (z ∷ w) h = after-twin (derivative_of a z) w (derivative-twin a z h)

  mutual
    twin-derivative : has_no_function x.fun ≡ has_no_function y.fun → (a : Path) → IsTwin a → derivative_of a x ≡ derivative_of a y
    twin-derivative e Nothing h = refl
    twin-derivative e Empty h = refl
    twin-derivative e Dot h = ap empty_if e
    twin-derivative e (Loc l) h = ap empty_if h
    twin-derivative e (Fun f) h = ap empty_if h
    twin-derivative e (Cat' s (more_of-Path a end_of-Path) t (more_of-Path b end_of-Path)) h =
        ap₂ (λ p q. with_next (takes_empty a) (cat_of p b) q) (twin-derivative e a h.0) (twin-derivative e b h.1)
    twin-derivative e (Alt' s row) h = ap alt_of (twin-derivatives e row h)
    twin-derivative e (Star' s (more_of-Path a end_of-Path)) h = ap (λ p. cat_of p (Star a)) (twin-derivative e a h)
    twin-derivative e (Not' s (more_of-Path a end_of-Path)) h = ap₂ not_if e (twin-derivative e a h)

    twin-derivatives : has_no_function x.fun ≡ has_no_function y.fun → {n : _} → (row : Row_of-Path n) → EachTwin row → derivatives row x ≡ derivatives row y
    twin-derivatives e end_of-Path h = refl
    twin-derivatives e (more_of-Path a row) h = ap₂ (λ p ps. p ∷ ps) (twin-derivative e a h.0) (twin-derivatives e row h.1)

  -- Names that the path has not.

  or-false : (a b : Bool) → (a || b) ≡ false → (a ≡ false) × (b ≡ false)
  or-false true b e = cc
  or-false false b e = (refl, e)

  mutual
    unnamed : (a : Path) → mentions a x ≡ false → mentions a y ≡ false → IsTwin a
    unnamed Nothing e f = tt
    unnamed Empty e f = tt
    unnamed Dot e f = tt
    unnamed (Loc l) e f = e ∙ sym f
    unnamed (Fun g) e f = e ∙ sym f
    unnamed (Cat' s (more_of-Path a end_of-Path) t (more_of-Path b end_of-Path)) e f =
        let p = or-false (mentions a x) (mentions b x) e in
        let q = or-false (mentions a y) (mentions b y) f in
        (unnamed a p.0 q.0, unnamed b p.1 q.1)
    unnamed (Alt' s row) e f = each-unnamed row e f
    unnamed (Star' s (more_of-Path a end_of-Path)) e f = unnamed a e f
    unnamed (Not' s (more_of-Path a end_of-Path)) e f = unnamed a e f

    each-unnamed : {n : _} → (row : Row_of-Path n) → some_mention row x ≡ false → some_mention row y ≡ false → EachTwin row
    each-unnamed end_of-Path e f = tt
    each-unnamed (more_of-Path a row) e f =
        let p = or-false (mentions a x) (some_mention row x) e in
        let q = or-false (mentions a y) (some_mention row y) f in
        (unnamed a p.0 q.0, each-unnamed row p.1 q.1)

  mutual
    alike-twin : ((l : ℕ) → at_location l x ≡ at_location l y) → ((f : ℕ) → is_function f x.fun ≡ is_function f y.fun) → (a : Path) → IsTwin a
    alike-twin e f Nothing = tt
    alike-twin e f Empty = tt
    alike-twin e f Dot = tt
    alike-twin e f (Loc l) = e l
    alike-twin e f (Fun g) = f g
    alike-twin e f (Cat' s (more_of-Path a end_of-Path) t (more_of-Path b end_of-Path)) = (alike-twin e f a, alike-twin e f b)
    alike-twin e f (Alt' s row) = each-alike e f row
    alike-twin e f (Star' s (more_of-Path a end_of-Path)) = alike-twin e f a
    alike-twin e f (Not' s (more_of-Path a end_of-Path)) = alike-twin e f a

    each-alike : ((l : ℕ) → at_location l x ≡ at_location l y) → ((f : ℕ) → is_function f x.fun ≡ is_function f y.fun) → {n : _} → (row : Row_of-Path n) → EachTwin row
    each-alike e f end_of-Path = tt
    each-alike e f (more_of-Path a row) = (alike-twin e f a, each-alike e f row)

abbrev symbol : ℕ → Option ℕ → Symbol
symbol l f = record { loc = l; fun = f }

same-kind : (a : Path) (l m : ℕ) (f g : Option ℕ) (s t : Bool) → mentions a (symbol l f) ≡ s → mentions a (symbol m g) ≡ t → seen_where s l f ≡ seen_where t m g →
    (has_no_function f ≡ has_no_function g) × IsTwin (symbol l f) (symbol m g) a
same-kind a l m None None true true n o e =
    let same : l ≡ m = cc in
    (refl, alike-twin (symbol l None) (symbol m None) (λ k. ap (λ j. k == j) same) (λ k. refl) a)
same-kind a l m (Some f) (Some g) true true n o e =
    let same : f ≡ g = cc in
    (refl, alike-twin (symbol l (Some f)) (symbol m (Some g)) (λ k. refl) (λ k. ap (λ j. k == j) same) a)
same-kind a l m None None false false n o e = (refl, unnamed (symbol l None) (symbol m None) a n o)
same-kind a l m (Some f) (Some g) false false n o e = (refl, unnamed (symbol l (Some f)) (symbol m (Some g)) a n o)
same-kind a l m None (Some g) true true n o e = cc
same-kind a l m (Some f) None true true n o e = cc
same-kind a l m None (Some g) false false n o e = cc
same-kind a l m (Some f) None false false n o e = cc
same-kind a l m None None true false n o e = cc
same-kind a l m None (Some g) true false n o e = cc
same-kind a l m (Some f) None true false n o e = cc
same-kind a l m (Some f) (Some g) true false n o e = cc
same-kind a l m None None false true n o e = cc
same-kind a l m None (Some g) false true n o e = cc
same-kind a l m (Some f) None false true n o e = cc
same-kind a l m (Some f) (Some g) false true n o e = cc

-- what the path sees alike, no normal form that is reached from it tells apart
pub blind : (path : Path) (w : List Symbol) → IsBlind path (λ x. derivative_of (rest_after (normal_of path) w) x)
blind path w x y e =
    let same = same-kind path x.loc y.loc x.fun y.fun (mentions path x) (mentions path y) refl refl e in
    twin-derivative x y same.0 (rest_after (normal_of path) w) (after-twin x y (normal_of path) w (normal-twin x y path same.1))
