-- What is found by following states.
use Rattle.std.specs.Prelude.{ℕ, ◌≡◌, ◌≢◌, ◌<◌, ◌≤◌, ◌+◌, List, [], ◌∷◌, length, take, slice_get, Some, Result, Ok, Err}
use Rattle.std.specs.List.{AllByRecursion, flat_map, slice_index_or}
use Rattle.merlin_model.specs.declared.policy.Symbol.{Symbol}
use Rattle.merlin_model.specs.declared.policy.Path.{Path}
use Rattle.path_regex.specs.Derivatives.{derivative_of}
use Rattle.path_regex.specs.States.{rest_after}
use Rattle.path_automaton.specs.declared.fault.AutomatonFault.{AutomatonFault}
use Rattle.path_automaton.specs.declared.fault.AutomatonFault.TheVariants.{TooManyStates, OutOfMemory}
use Rattle.path_automaton.specs.declared.exploring.Explored.{Explored}
use Rattle.path_automaton.specs.declared.exploring.TheConstants.{MAX_STATES}
use Rattle.path_automaton.specs.States.{IsMadeOf, with_all_new, followers}

-- the places at which the followers of a normal form stand
abbrev pub AreFollowers : List Path → Path → List Symbol → List ℕ → Type 0
AreFollowers states form [] [] = Unit {0}
AreFollowers states form (x ∷ xs) (q ∷ qs) = (slice_get states q ≡ Some (derivative_of form x)) × AreFollowers states form xs qs
AreFollowers states form _ _ = ⊥

-- no path stands at two places
abbrev pub AreApart : List Path → Type 0
AreApart forms = (i j : ℕ) (d : Path) → i < j → j < length forms → slice_index_or forms i d ≢ slice_index_or forms j d

-- a state is followed by all symbols, or there are too many states
abbrev pub IsFollowed : List Path → Path → List Symbol → List Path → Result (List ℕ) AutomatonFault → Type 0
IsFollowed old form symbols new (Ok row) = (new ≡ with_all_new old (followers symbols form)) × (length new ≤ MAX_STATES) × AreFollowers new form symbols row
IsFollowed old form symbols new (Err (TooManyStates count)) = (count ≡ MAX_STATES + 1) × (length new ≡ MAX_STATES + 1) × ((n : ℕ) × (new ≡ with_all_new old (followers (take n symbols) form)))
IsFollowed old form symbols new (Err OutOfMemory) = Unit {0}

-- the form is reached from the first one
abbrev pub IsReachedFrom : Path → List Symbol → Path → Type 0
IsReachedFrom first symbols form = (w : List Symbol) × IsMadeOf symbols w × (form ≡ rest_after first w)

-- for each of the first states the places of its followers
abbrev pub AreRows : List Path → List Symbol → List Path → List (List ℕ) → Type 0
AreRows states symbols forms [] = Unit {0}
AreRows states symbols [] (row ∷ rows) = ⊥
AreRows states symbols (form ∷ forms) (row ∷ rows) = AreFollowers states form symbols row × AreRows states symbols forms rows

-- what is known while the first states are followed
pub record AreExploring (first : Path) (symbols : List Symbol) (states : List Path) (rows : List (List ℕ)) : Type 0 where
  pub few : length states ≤ MAX_STATES
  pub followed : length rows ≤ length states
  pub in_order : states ≡ with_all_new (first ∷ []) (flat_map (followers symbols) (take (length rows) states))
  pub leads : AreRows states symbols states rows
  pub reached : AllByRecursion (IsReachedFrom first symbols) states
  pub different : AreApart states

-- so many different forms are reached from the first one
pub record HasMany (first : Path) (symbols : List Symbol) (count : ℕ) : Type 0 where
  pub forms : List Path
  pub reached : AllByRecursion (IsReachedFrom first symbols) forms
  pub different : AreApart forms
  pub many : count ≡ length forms

-- all states are followed, or there are too many
abbrev pub IsExplored : Path → List Symbol → Result Explored AutomatonFault → Type 0
IsExplored first symbols (Ok e) = AreExploring first symbols e.states e.rows × (length e.rows ≡ length e.states)
IsExplored first symbols (Err (TooManyStates count)) = (count ≡ MAX_STATES + 1) × HasMany first symbols count
IsExplored first symbols (Err OutOfMemory) = Unit {0}
