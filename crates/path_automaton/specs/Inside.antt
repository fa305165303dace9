-- Automata as they are kept: the rows go by classes of symbols.
use Rattle.std.specs.Prelude.{ℕ, ◌≡◌, ◌<◌, Bool, List, length, map}
use Rattle.std.specs.List.{AllByRecursion, slice_index_or}
use Rattle.path_automaton.specs.Automata.{AutomatonTables}

-- the state after a symbol of the class
abbrev pub entry : List ℕ → ℕ → ℕ
entry row class = slice_index_or row class 0

abbrev pub tables_of : List (List ℕ) → List ℕ → List Bool → List Bool → AutomatonTables
tables_of rows classes accepting living = record {
  steps = map (λ row. map (entry row) classes) rows;
  width = length classes;
  accepting = accepting;
  living = living;
}

-- each state has an entry for each class, which names a state
pub record AreWhole (rows : List (List ℕ)) (classes : List ℕ) (accepting living : List Bool) : Type 0 where
  pub entries : AllByRecursion (λ row. AllByRecursion (λ class. class < length row) classes × AllByRecursion (λ q. q < length rows) row) rows
  pub some : 0 < length rows
  pub flags : length accepting ≡ length rows
  pub lives : length living ≡ length rows
