-- The states of a path: the normal forms that are reached from it, in the order in which they are found.
use Rattle.std.specs.Prelude.{ℕ, ◌≡◌, List, [], ◌∷◌, ◌++◌, length, map, Contains, if◌then◌else◌}
use Rattle.std.specs.List.{AllByRecursion, flat_map, list_any}
use Rattle.std.specs.Ordering.{is_eq}
use Rattle.merlin_model.specs.declared.policy.Symbol.{Symbol}
use Rattle.merlin_model.specs.declared.policy.Path.{Path}
use Rattle.merlin_model.specs.Networks.{AreDifferent}
use Rattle.path_regex.specs.Order.{order}
use Rattle.path_regex.specs.Normal.{normal_of}
use Rattle.path_regex.specs.Derivatives.{derivative_of}
use Rattle.path_regex.specs.States.{state_reached}

-- the word is made of these symbols
abbrev pub IsMadeOf : List Symbol → List Symbol → Type 0
IsMadeOf symbols w = AllByRecursion (λ x. Contains symbols x) w

-- the normal form is reached from the path by a word over the symbols
abbrev pub IsReached : Path → List Symbol → Path → Type 0
IsReached path symbols form = (w : List Symbol) × IsMadeOf symbols w × (form ≡ state_reached path w)

-- a path noted behind others, unless it is among them
abbrev pub with_new : List Path → Path → List Path
with_new others a = if list_any (λ b. is_eq (order a b)) others then others else others ++ a ∷ []

-- paths noted in turn
abbrev pub with_all_new : List Path → List Path → List Path
with_all_new others [] = others
with_all_new others (a ∷ rest) = with_all_new (with_new others a) rest

-- what follows a normal form, by the symbols in order
abbrev pub followers : List Symbol → Path → List Path
followers symbols form = map (λ x. derivative_of form x) symbols

-- The states of the path over the symbols: its normal form, and then the followers of the states in turn, each noted where it is
-- first met.
pub record AreStates (path : Path) (symbols : List Symbol) (forms : List Path) : Type 0 where
  pub in_order : forms ≡ with_all_new (normal_of path ∷ []) (flat_map (followers symbols) forms)
  pub reached : AllByRecursion (IsReached path symbols) forms

-- the path has at least so many states
pub record HasStates (path : Path) (symbols : List Symbol) (count : ℕ) : Type 0 where
  pub forms : List Path
  pub reached : AllByRecursion (IsReached path symbols) forms
  pub different : AreDifferent forms
  pub many : count ≡ length forms
