-- Symbols that a path cannot tell apart.
use Rattle.std.specs.Prelude.{ℕ, Bool, true, false, ◌&&◌, ◌||◌, ◌==◌, Option, None, Some}
use Rattle.merlin_model.specs.declared.policy.Symbol.{Symbol}
use Rattle.merlin_model.specs.declared.policy.Path.{Path, Loc, Fun, Cat', Alt', Star', Not', Row_of-Path, end_of-Path, more_of-Path}
use Rattle.path_regex.specs.Derivatives.{has_no_function, is_function}
use Rattle.path_automaton.specs.declared.classes.SeenSymbol.{SeenSymbol}
use Rattle.path_automaton.specs.declared.classes.SeenSymbol.TheVariants.{Location, Function, OtherLocation, OtherFunction}

abbrev mutual
  -- whether the path names the symbol's function, or its location where it has none
  pub mentions : Path → Symbol → Bool
  mentions (Loc l) x = has_no_function x.fun && (l == x.loc)
  mentions (Fun f) x = is_function f x.fun
  mentions (Cat' _ (more_of-Path a end_of-Path) _ (more_of-Path b end_of-Path)) x = mentions a x || mentions b x
  mentions (Alt' _ paths) x = some_mention paths x
  mentions (Star' _ (more_of-Path a end_of-Path)) x = mentions a x
  mentions (Not' _ (more_of-Path a end_of-Path)) x = mentions a x
  mentions _ x = false

  pub some_mention : {n : _} → Row_of-Path n → Symbol → Bool
  some_mention end_of-Path x = false
  some_mention (more_of-Path a rest) x = mentions a x || some_mention rest x

-- a symbol as it looks where its name is known or not
abbrev pub seen_where : Bool → ℕ → Option ℕ → SeenSymbol
seen_where true l None = Location l
seen_where true l (Some f) = Function f
seen_where false l None = OtherLocation
seen_where false l (Some f) = OtherFunction

-- a symbol as the path sees it
abbrev pub seen_by : Path → Symbol → SeenSymbol
seen_by path x = seen_where (mentions path x) x.loc x.fun
