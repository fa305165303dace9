-- Paths without functions, and functions under a Not: kept by normal forms and derivatives.
use Rattle.std.proofs.Common.{refl}
use Rattle.merlin_model.specs.declared.policy.Symbol.{Symbol}
use Rattle.merlin_model.specs.declared.policy.Path.{Path, Nothing, Empty, Dot, Loc, Fun, Cat', Alt', Star', Not', Row_of-Path, end_of-Path, more_of-Path}
use Rattle.merlin_model.specs.declared.policy.Path.TheBlock.{hidden-the_row-Path-0, hidden-the_row-Path-1}
use denote.Hole.Carrier.{hidden}
use Rattle.path_regex.specs.Normal.{not_of, normal_of}
use Rattle.path_regex.specs.Derivatives.{derivative_of}
use Rattle.path_regex.specs.Functions.{HasNoFun, EachHasNoFun, HasNoFunctionUnderNot, EachHasNoFunctionUnderNot}
use Rattle.path_regex.proofs.Kept.{IsOfParts, of_parts, normal-kept, derivative-kept}

no_fun-parts : IsOfParts HasNoFun
unfolding hidden-the_row-Path-0 hidden-the_row-Path-1 hidden
no_fun-parts = of_parts HasNoFun tt tt (λ a b. refl) refl (λ a paths. refl) (λ a. refl)

under-parts : IsOfParts HasNoFunctionUnderNot
unfolding hidden-the_row-Path-0 hidden-the_row-Path-1 hidden
under-parts = of_parts HasNoFunctionUnderNot tt tt (λ a b. refl) refl (λ a paths. refl) (λ a. refl)

mutual
  -- without functions there are none under a Not
  pub none-under : (a : Path) → HasNoFun a → HasNoFunctionUnderNot a
  none-under Nothing h = tt
  none-under Empty h = tt
  none-under Dot h = tt
  none-under (Loc l) h = tt
  none-under (Fun f) h = tt
  none-under (Cat' s (more_of-Path a end_of-Path) t (more_of-Path b end_of-Path)) h = (none-under a h.0, none-under b h.1)
  none-under (Alt' s row) h = each-under row h
  none-under (Star' s (more_of-Path a end_of-Path)) h = none-under a h
  none-under (Not' s (more_of-Path a end_of-Path)) h = h

  each-under : {n : _} → (row : Row_of-Path n) → EachHasNoFun row → EachHasNoFunctionUnderNot row
  each-under end_of-Path h = tt
  each-under (more_of-Path a row) h = (none-under a h.0, each-under row h.1)

not_of-none : (a : Path) → HasNoFun a → HasNoFun (not_of a)
unfolding hidden-the_row-Path-1 hidden
not_of-none (Not' s (more_of-Path a end_of-Path)) h = h
not_of-none a h = h

not_of-under : (a : Path) → HasNoFun a → HasNoFunctionUnderNot (not_of a)
unfolding hidden-the_row-Path-1 hidden
not_of-under (Not' s (more_of-Path a end_of-Path)) h = none-under a h
not_of-under a h = h

-- Kept by normal forms and derivatives.

pub normal-none : (a : Path) → HasNoFun a → HasNoFun (normal_of a)
unfolding hidden-the_row-Path-1 hidden
normal-none a h = normal-kept HasNoFun no_fun-parts (λ b n. n) (λ b n m. not_of-none (normal_of b) m) a h

pub normal-under : (a : Path) → HasNoFunctionUnderNot a → HasNoFunctionUnderNot (normal_of a)
unfolding hidden-the_row-Path-1 hidden
normal-under a h = normal-kept HasNoFunctionUnderNot under-parts (λ b n. none-under b n) (λ b n m. not_of-under (normal_of b) (normal-none b n)) a h

pub derivative-none : (a : Path) (x : Symbol) → HasNoFun a → HasNoFun (derivative_of a x)
unfolding hidden-the_row-Path-1 hidden
derivative-none a x h = derivative-kept HasNoFun no_fun-parts x (λ b n. n) (λ b n m. not_of-none (derivative_of b x) m) a h

pub derivative-under : (a : Path) (x : Symbol) → HasNoFunctionUnderNot a → HasNoFunctionUnderNot (derivative_of a x)
unfolding hidden-the_row-Path-1 hidden
derivative-under a x h = derivative-kept HasNoFunctionUnderNot under-parts x (λ b n. none-under b n) (λ b n m. not_of-under (derivative_of b x) (derivative-none b x n)) a h
