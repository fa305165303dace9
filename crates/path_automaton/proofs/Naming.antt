-- Laws of names in paths, in the words of lists.
use Rattle.std.proofs.Common.{◌≡◌, ◌<◌, ℕ, suc, Bool, true, ◌||◌, List, [], ◌∷◌, length, get_or, drop, drop-cons, refl, sym, ◌∙◌, ap}
use Rattle.std.specs.List.{list_any}
use Rattle.merlin_model.specs.declared.policy.Symbol.{Symbol}
use Rattle.merlin_model.specs.declared.policy.Path.{Path, Cat, Alt, Star, Not}
use Rattle.merlin_model.specs.declared.policy.Path.TheBlock.{hidden-the_row-Path-0, hidden-the_row-Path-1}
use denote.Hole.Carrier.{hidden}
use Rattle.path_automaton.specs.SeenSymbols.{mentions}

pub mentions-Cat : (a b : Path) (x : Symbol) → mentions (Cat a b) x ≡ (mentions a x || mentions b x)
unfolding hidden-the_row-Path-1 hidden
mentions-Cat a b x = refl

pub mentions-Alt : (paths : List Path) (x : Symbol) → mentions (Alt paths) x ≡ list_any (λ a. mentions a x) paths
unfolding hidden-the_row-Path-0 hidden-the_row-Path-1 hidden
mentions-Alt [] x = refl
mentions-Alt (a ∷ paths) x = ap (λ b. mentions a x || b) (mentions-Alt paths x)

pub mentions-Star : (a : Path) (x : Symbol) → mentions (Star a) x ≡ mentions a x
unfolding hidden-the_row-Path-1 hidden
mentions-Star a x = refl

pub mentions-Not : (a : Path) (x : Symbol) → mentions (Not a) x ≡ mentions a x
unfolding hidden-the_row-Path-1 hidden
mentions-Not a x = refl

pub any-from : (test : Path → Bool) (xs : List Path) (i : ℕ) (a : Path) → i < length xs → a ≡ get_or xs i a → test a ≡ true → list_any test (drop i xs) ≡ true
any-from test xs i a lt e t =
    ap (list_any test) (drop-cons xs i a lt)
    ∙ ap (λ b. b || list_any test (drop (suc i) xs)) (ap test (sym e) ∙ t)
