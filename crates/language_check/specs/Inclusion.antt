-- Walks that one automaton accepts and another does not, and which of them is least.
use Rattle.std.specs.Prelude.{ℕ, ◌≡◌, ◌<◌, ◌⊎◌, Bool, true, false, List, [], ◌∷◌, length, map, Option, None, Some}
use Rattle.std.specs.List.{slice_index_or}
use Rattle.merlin_model.specs.declared.policy.Symbol.{Symbol}
use Rattle.merlin_model.specs.Networks.{Network}
use Rattle.merlin_model.specs.Words.{at, IsWalk}
use Rattle.path_automaton.specs.Automata.{AutomatonTables, accepts, number_in, state_after_word}

-- whether the automaton over the symbols accepts the word
abbrev pub accepts_word : List Symbol → AutomatonTables → List Symbol → Bool
accepts_word symbols t w = accepts t (state_after_word symbols t w)

-- each walk between the two hosts that the first accepts is accepted by the second
abbrev pub IsIncluded : Network → List Symbol → AutomatonTables → AutomatonTables → ℕ → ℕ → Type 0
IsIncluded net symbols a b s d =
    (w : List Symbol) → IsWalk net s d w → accepts_word symbols a w ≡ true → accepts_word symbols b w ≡ true

-- a walk between the two hosts that the first accepts and the second does not
pub record IsStrayWalk (net : Network) (symbols : List Symbol) (a b : AutomatonTables) (s d : ℕ) (w : List Symbol) : Type 0 where
  pub walk : IsWalk net s d w
  pub accepted : accepts_word symbols a w ≡ true
  pub refused : accepts_word symbols b w ≡ false

-- the symbol of a number
abbrev pub symbol_at : List Symbol → ℕ → Symbol
symbol_at symbols k = slice_index_or symbols k (at 0)

-- the symbols of the numbers, the last one first, and then the rest
abbrev pub forwards : List Symbol → List ℕ → List Symbol → List Symbol
forwards symbols [] rest = rest
forwards symbols (k ∷ u) rest = forwards symbols u (symbol_at symbols k ∷ rest)

-- at the first place where the numbers differ, the first list has the smaller one
abbrev pub IsBelowAtDifference : List ℕ → List ℕ → Type 0
IsBelowAtDifference (x ∷ u) (y ∷ v) = (x < y) ⊎ ((x ≡ y) × IsBelowAtDifference u v)
IsBelowAtDifference _ _ = ⊥

-- the first word has fewer symbols, or as many, and where the two first differ a symbol with a smaller number
abbrev pub IsLessWord : List Symbol → List Symbol → List Symbol → Type 0
IsLessWord symbols u w =
    (length u < length w) ⊎ ((length u ≡ length w) × IsBelowAtDifference (map (number_in symbols) u) (map (number_in symbols) w))

-- the stray walk is less than every other one
abbrev pub IsLeastStrayWalk : Network → List Symbol → AutomatonTables → AutomatonTables → ℕ → ℕ → List Symbol → Type 0
IsLeastStrayWalk net symbols a b s d w =
    IsStrayWalk net symbols a b s d w × ((u : List Symbol) → IsStrayWalk net symbols a b s d u → (w ≡ u) ⊎ IsLessWord symbols w u)

-- nothing where all are included, else the least stray walk
abbrev pub IsInclusionAnswer : Network → List Symbol → AutomatonTables → AutomatonTables → ℕ → ℕ → Option (List Symbol) → Type 0
IsInclusionAnswer net symbols a b s d None = IsIncluded net symbols a b s d
IsInclusionAnswer net symbols a b s d (Some w) = IsLeastStrayWalk net symbols a b s d w
