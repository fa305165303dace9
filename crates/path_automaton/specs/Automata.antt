-- Deterministic automata over numbered symbols.
use Rattle.std.specs.Prelude.{ℕ, suc, ◌≡◌, ◌<◌, ◌↔◌, ◌==◌, ◌&&◌, Bool, true, false, List, [], ◌∷◌, length, map, take, slice_get, Option, None, Some, if◌then◌else◌}
use Rattle.std.specs.List.{AllByRecursion, slice_index_or}
use Rattle.merlin_model.specs.declared.policy.Symbol.{Symbol}
use Rattle.merlin_model.specs.declared.policy.Path.{Path}
use Rattle.merlin_model.specs.Paths.{InLanguage}
use Rattle.path_regex.specs.Derivatives.{takes_empty, derivative_of}
use Rattle.path_automaton.specs.States.{IsMadeOf, AreStates}

-- For each state the states after each symbol, whether it accepts, and whether some word is accepted from it. State 0 is the first.
-- Beside them stands the number of symbols.
pub record AutomatonTables : Type 0 where
  pub steps : List (List ℕ)
  pub width : ℕ
  pub accepting : List Bool
  pub living : List Bool

-- the state after a symbol
abbrev pub step : AutomatonTables → ℕ → ℕ → ℕ
step t q k = slice_index_or (slice_index_or t.steps q []) k 0

abbrev pub accepts : AutomatonTables → ℕ → Bool
accepts t q = slice_index_or t.accepting q false

abbrev pub lives : AutomatonTables → ℕ → Bool
lives t q = slice_index_or t.living q false

-- the state after a word, which is written in numbers of symbols
abbrev pub state_after_numbers : AutomatonTables → ℕ → List ℕ → ℕ
state_after_numbers t q [] = q
state_after_numbers t q (k ∷ ks) = state_after_numbers t (step t q k) ks

-- the numbers below a bound
abbrev pub AreBelow : ℕ → List ℕ → Type 0
AreBelow n ks = AllByRecursion (λ k. k < n) ks

-- the numbers spell the word
abbrev pub Spells : List Symbol → List ℕ → List Symbol → Type 0
Spells symbols [] [] = Unit {0}
Spells symbols (k ∷ ks) (x ∷ w) = (slice_get symbols k ≡ Some x) × Spells symbols ks w
Spells symbols _ _ = ⊥

-- the run over a word from state 0 ends in an accepting state exactly where the word is in the language
abbrev pub AcceptsWordsOf : List Symbol → Path → AutomatonTables → Type 0
AcceptsWordsOf symbols path t = (ks : List ℕ) (w : List Symbol) → Spells symbols ks w → (accepts t (state_after_numbers t 0 ks) ≡ true) ↔ InLanguage path w

-- The same by the numbers of symbols in the list.

abbrev pub is_same_function : Option ℕ → Option ℕ → Bool
is_same_function None None = true
is_same_function (Some f) (Some g) = f == g
is_same_function _ _ = false

abbrev pub is_same_symbol : Symbol → Symbol → Bool
is_same_symbol x y = (x.loc == y.loc) && is_same_function x.fun y.fun

-- the first place of the symbol in the list, or the list's length
abbrev pub number_in : List Symbol → Symbol → ℕ
number_in [] x = 0
number_in (y ∷ ys) x = if is_same_symbol x y then 0 else suc (number_in ys x)

-- the state after a word
abbrev pub state_after_word : List Symbol → AutomatonTables → List Symbol → ℕ
state_after_word symbols t w = state_after_numbers t 0 (map (number_in symbols) w)

-- of the words over the list, the run ends in an accepting state exactly for those of the path
abbrev pub AcceptsListedWordsOf : List Symbol → Path → AutomatonTables → Type 0
AcceptsListedWordsOf symbols path t =
    (w : List Symbol) → IsMadeOf symbols w → (accepts t (state_after_word symbols t w) ≡ true) ↔ InLanguage path w

-- no two prefixes of the word that end in the same symbol lead to the same state
abbrev pub IsSimpleIn : List Symbol → AutomatonTables → List Symbol → Type 0
IsSimpleIn symbols t w =
    (i j : ℕ) (x : Symbol) → slice_get w i ≡ Some x → slice_get w j ≡ Some x →
    state_after_word symbols t (take (suc i) w) ≡ state_after_word symbols t (take (suc j) w) → i ≡ j

-- some word over so many symbols is accepted from the state
abbrev pub SomeAccepted : ℕ → AutomatonTables → ℕ → Type 0
SomeAccepted n t q = (ks : List ℕ) × AreBelow n ks × (accepts t (state_after_numbers t q ks) ≡ true)

-- The tables of a path: which normal form each state stands for, and what follows from it.
pub record AreTablesOfPath (path : Path) (symbols : List Symbol) (t : AutomatonTables) (forms : List Path) : Type 0 where
  pub states : AreStates path symbols forms
  pub count : length t.steps ≡ length forms
  pub width : t.width ≡ length symbols
  pub next : (q k : ℕ) (form : Path) (x : Symbol) → slice_get forms q ≡ Some form → slice_get symbols k ≡ Some x → slice_get forms (step t q k) ≡ Some (derivative_of form x)
  pub accepting : (q : ℕ) (form : Path) → slice_get forms q ≡ Some form → accepts t q ≡ takes_empty form
  pub living : (q : ℕ) → q < length forms → (lives t q ≡ true) ↔ SomeAccepted (length symbols) t q
