-- The empty word, and what may follow after a symbol.
use Rattle.std.specs.Prelude.{ℕ, Bool, true, false, not, ◌&&◌, ◌||◌, ◌==◌, List, [], ◌∷◌, Option, None, Some}
use Rattle.merlin_model.specs.declared.policy.Symbol.{Symbol}
use Rattle.merlin_model.specs.declared.policy.Path.{Path, Nothing, Empty, Dot, Loc, Fun, Cat', Alt', Star, Star', Not', Row_of-Path, end_of-Path, more_of-Path}
use Rattle.path_regex.specs.Normal.{cat_of, alt_of, not_of}

abbrev mutual
  -- whether the path takes the empty word
  pub takes_empty : Path → Bool
  takes_empty Nothing = false
  takes_empty Empty = true
  takes_empty Dot = false
  takes_empty (Loc l) = false
  takes_empty (Fun f) = false
  takes_empty (Cat' _ (more_of-Path a end_of-Path) _ (more_of-Path b end_of-Path)) = takes_empty a && takes_empty b
  takes_empty (Alt' _ paths) = some_take_empty paths
  takes_empty (Star' _ (more_of-Path a end_of-Path)) = true
  takes_empty (Not' _ (more_of-Path a end_of-Path)) = not (takes_empty a)

  pub some_take_empty : {n : _} → Row_of-Path n → Bool
  some_take_empty end_of-Path = false
  some_take_empty (more_of-Path a rest) = takes_empty a || some_take_empty rest

abbrev pub empty_if : Bool → Path
empty_if true = Empty
empty_if false = Nothing

abbrev pub has_no_function : Option ℕ → Bool
has_no_function None = true
has_no_function (Some f) = false

abbrev pub is_function : ℕ → Option ℕ → Bool
is_function f None = false
is_function f (Some g) = f == g

-- the complement of what follows, after a symbol without a function
abbrev pub not_if : Bool → Path → Path
not_if true a = not_of a
not_if false a = Nothing

-- one path, or where it may be passed over the next too
abbrev pub with_next : Bool → Path → Path → Path
with_next true first next = alt_of (first ∷ next ∷ [])
with_next false first next = first

abbrev mutual
  -- what may follow after a symbol
  pub derivative_of : Path → Symbol → Path
  derivative_of Nothing x = Nothing
  derivative_of Empty x = Nothing
  derivative_of Dot x = empty_if (has_no_function x.fun)
  derivative_of (Loc l) x = empty_if (has_no_function x.fun && (l == x.loc))
  derivative_of (Fun f) x = empty_if (is_function f x.fun)
  derivative_of (Cat' _ (more_of-Path a end_of-Path) _ (more_of-Path b end_of-Path)) x = with_next (takes_empty a) (cat_of (derivative_of a x) b) (derivative_of b x)
  derivative_of (Alt' _ paths) x = alt_of (derivatives paths x)
  derivative_of (Star' _ (more_of-Path a end_of-Path)) x = cat_of (derivative_of a x) (Star a)
  derivative_of (Not' _ (more_of-Path a end_of-Path)) x = not_if (has_no_function x.fun) (derivative_of a x)

  pub derivatives : {n : _} → Row_of-Path n → Symbol → List Path
  derivatives end_of-Path x = []
  derivatives (more_of-Path a rest) x = derivative_of a x ∷ derivatives rest x
