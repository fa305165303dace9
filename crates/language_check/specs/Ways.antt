-- How words go on between two hosts, by the numbers of symbols.
use Rattle.std.specs.Prelude.{ℕ, ◌≡◌, ◌<◌, ◌↔◌, Bool, true, false, List, [], length, map, slice_get, Contains, Some}
use Rattle.std.specs.List.{AllByRecursion, slice_index_or}
use Rattle.merlin_model.specs.declared.policy.Symbol.{Symbol}
use Rattle.merlin_model.specs.Networks.{Network, IsHost, Pairwise, AreDifferent}
use Rattle.merlin_model.specs.Words.{at, IsSymbol, MayFollow}
use Rattle.path_automaton.specs.Automata.{AutomatonTables}
use Rattle.language_check.specs.declared.ways.Ways.{Ways}
use Rattle.language_check.specs.declared.search.Triple.{Triple}
use Rattle.language_check.specs.Trails.{Grounds, IsSearching}

-- the list has each symbol of the network, and each once
pub record AreSymbolsOf (net : Network) (symbols : List Symbol) : Type 0 where
  pub each : (x : Symbol) → Contains symbols x ↔ IsSymbol net x
  pub once : AreDifferent symbols

-- each symbol is at a location of the network
abbrev pub AreAtLocations : Network → List Symbol → Type 0
AreAtLocations net symbols = AllByRecursion (λ x. x.loc < length net.locations) symbols

abbrev pub place_in : Ways → ℕ → ℕ
place_in ways k = slice_index_or ways.places k 0

abbrev pub followers_in : Ways → ℕ → List ℕ
followers_in ways k = slice_index_or ways.rows (place_in ways k) []

abbrev pub may_end_after : Ways → ℕ → Bool
may_end_after ways k = slice_index_or ways.last (place_in ways k) false

abbrev pub grounds_of : Ways → AutomatonTables → AutomatonTables → Grounds
grounds_of ways a b = record {
  start = ways.start;
  followers = followers_in ways;
  before_end = may_end_after ways;
  end = ways.end;
  a = a;
  b = b;
}

-- what is known while the places in turn are followed
abbrev pub IsSearchingIn : Ways → AutomatonTables → AutomatonTables → List Triple → List ℕ → ℕ → List ℕ → Type 0
IsSearchingIn ways a b found from turn done = IsSearching (grounds_of ways a b) (length ways.places) found from turn done

abbrev pub AreAscending : List ℕ → Type 0
AreAscending row = Pairwise (λ u v. u < v) row

-- the numbers are those of symbols, those that may follow ascend, and each symbol has its place
pub record AreConsistent (ways : Ways) : Type 0 where
  pub below : AllByRecursion (λ row. AllByRecursion (λ k. k < length ways.places) row × AreAscending row) ways.rows
  pub places : AllByRecursion (λ loc. loc < length ways.rows) ways.places
  pub last : length ways.last ≡ length ways.rows
  pub start : ways.start < length ways.places
  pub end : ways.end < length ways.places

-- the automaton has a state, and steps for so many symbols
pub record IsOverSymbols (n : ℕ) (t : AutomatonTables) : Type 0 where
  pub width : t.width ≡ n
  pub some : 0 < length t.steps

-- the symbol of this number may follow at the location, and is at no host
abbrev pub IsFollower : Network → List Symbol → ℕ → ℕ → Type 0
IsFollower net symbols loc j =
    (y : Symbol) × (slice_get symbols j ≡ Some y) × MayFollow net (at loc, y) × (¬ IsHost net y.loc)

-- the numbers of the followers at the location among the first symbols, in order
pub record IsRowAt (net : Network) (symbols : List Symbol) (loc : ℕ) (bound : ℕ) (row : List ℕ) : Type 0 where
  pub each : (j : ℕ) → Contains row j ↔ ((j < bound) × IsFollower net symbols loc j)
  pub below : AllByRecursion (λ k. k < bound) row
  pub ascends : AreAscending row

-- for each location the numbers of the followers there
abbrev pub AreRowsOf : Network → List Symbol → List (List ℕ) → Type 0
AreRowsOf net symbols rows =
    (loc : ℕ) → loc < length rows → IsRowAt net symbols loc (length symbols) (slice_index_or rows loc [])

-- for each location whether the host may follow there
abbrev pub AreEndsOf : Network → ℕ → List Bool → Type 0
AreEndsOf net d ends =
    (loc : ℕ) → loc < length ends → (slice_index_or ends loc false ≡ true) ↔ MayFollow net (at loc, at d)

-- the ways between the two hosts over these symbols
pub record AreWaysOf (net : Network) (symbols : List Symbol) (s d : ℕ) (ways : Ways) : Type 0 where
  pub whole : AreConsistent ways
  pub places : ways.places ≡ map (λ x. x.loc) symbols
  pub count : length ways.rows ≡ length net.locations
  pub rows : AreRowsOf net symbols ways.rows
  pub last : AreEndsOf net d ways.last
  pub start : slice_get symbols ways.start ≡ Some (at s)
  pub end : slice_get symbols ways.end ≡ Some (at d)
