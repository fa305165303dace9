-- Automata that paths of one normal form share.
use Rattle.std.specs.Prelude.{ℕ, ◌≡◌, ⊤, List, [], ◌∷◌, ◌++◌, Ok, Some, slice_get}
use Rattle.std.specs.List.{AllZip}
use Rattle.merlin_model.specs.declared.policy.Path.{Path}
use Rattle.merlin_model.specs.declared.policy.Symbol.{Symbol}
use Rattle.path_regex.specs.Normal.{normal_of}
use Rattle.path_regex.specs.Functions.{HasNoFunctionUnderNot}
use Rattle.path_automaton.specs.declared.fault.AutomatonFault.{AutomatonFault}
use Rattle.path_automaton.specs.declared.fault.AutomatonFault.TheVariants as automaton
use Rattle.path_automaton.specs.Automata.{AutomatonTables, AcceptsWordsOf}
use Rattle.path_automaton.specs.Built.{IsBuilt}
use Rattle.policy_check.specs.declared.automata.Automata.{Automata}
use Rattle.policy_check.specs.declared.fault.CheckFault.{CheckFault}
use Rattle.policy_check.specs.declared.fault.CheckFault.TheVariants.{TooManyStates, OutOfMemory}
use Rattle.policy_check.specs.Rules.{IsFirstLarge}

-- the tables of the path within the limit of states; it accepts the words of the path where no function stands under a Not
abbrev pub IsTableOf : List Symbol → Path → AutomatonTables → Type 0
IsTableOf symbols path table = IsBuilt path symbols (Ok table) × (HasNoFunctionUnderNot path → AcceptsWordsOf symbols path table)

-- each normal form has its automaton, and each path the number of its normal form
pub record ShareAutomata (symbols : List Symbol) (paths : List Path) (automata : Automata) : Type 0 where
  pub tables : AllZip (IsTableOf symbols) automata.forms automata.built
  pub numbers : AllZip (λ path n. slice_get automata.forms n ≡ Some (normal_of path)) paths automata.numbers

-- the same automata, with the number of one more path
abbrev pub with_number : Automata → ℕ → Automata
with_number automata n = record { forms = automata.forms; built = automata.built; numbers = automata.numbers ++ n ∷ [] }

-- each path of this normal form may be added under the number
abbrev pub IsNumberFor : List Symbol → Path → Automata → Automata → ℕ → Type 0
IsNumberFor symbols form old new n =
    (paths : List Path) (path : Path) → form ≡ normal_of path → ShareAutomata symbols paths old → ShareAutomata symbols (paths ++ path ∷ []) (with_number new n)

-- what the fault of the path at a place is for a policy
abbrev pub IsFaultOfPath : List (List ℕ) → ℕ → AutomatonFault → CheckFault → Type 0
IsFaultOfPath ids place fault OutOfMemory = ⊤
IsFaultOfPath ids place (automaton.TooManyStates many) (TooManyStates id count) = (id ≡ slice_get ids place) × (count ≡ many)
IsFaultOfPath ids place fault other = ⊥

-- A path is the first with more states than there may be. It stands in the statement of this id, or in the default behind all statements.
abbrev pub IsLargeAmong : List (List ℕ) → List Symbol → List Path → CheckFault → Type 0
IsLargeAmong ids symbols paths (TooManyStates id count) = (place : ℕ) × (id ≡ slice_get ids place) × IsFirstLarge symbols paths place count
IsLargeAmong ids symbols paths OutOfMemory = ⊤
IsLargeAmong ids symbols paths _ = ⊥
