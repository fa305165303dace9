-- Words and walks: the ways through a network, with the functions that run on the way.
use Rattle.std.specs.Prelude.{ℕ, ◌≡◌, ◌⊎◌, Bool, not, ◌&&◌, ◌==◌, List, [], ◌∷◌, ◌++◌, Contains, None, count_by, if◌then◌else◌, ⊤, MatchOption, option_to_list}
use Rattle.std.specs.List.{AllByRecursion}
use Rattle.merlin_model.specs.declared.policy.Symbol.{Symbol}
use Rattle.merlin_model.specs.Networks.{Network, kind_of, places_of, IsHost, AreLinked}

-- the stay at a location without a function
abbrev pub at : ℕ → Symbol
at loc = record { loc = loc; fun = None }

-- a location of the network, alone or with one function that is placed there
abbrev pub IsSymbol : Network → Symbol → Type 0
IsSymbol net x =
    MatchOption (kind_of net x.loc) ⊥ (λ _.
    MatchOption x.fun ⊤ (λ f. MatchOption (places_of net f) ⊥ (λ places. Contains places x.loc)))

-- each element with the one after it
abbrev pub neighbours : {X : Type 0} → List X → List (X × X)
neighbours [] = []
neighbours (x ∷ []) = []
neighbours (x ∷ y ∷ rest) = (x, y) ∷ neighbours (y ∷ rest)

-- one may follow the other: at the same location, or over a link
abbrev pub MayFollow : Network → Symbol × Symbol → Type 0
MayFollow net pair = (pair.0.loc ≡ pair.1.loc) ⊎ AreLinked net pair.0.loc pair.1.loc

-- A walk from host s to host d: it begins with s, ends with d and is at no host in between, and
-- each symbol may follow the one before it.
pub record IsWalk (net : Network) (s d : ℕ) (w : List Symbol) : Type 0 where
  pub inner : List Symbol
  pub shape : w ≡ at s ∷ (inner ++ at d ∷ [])
  pub start : IsHost net s
  pub end : IsHost net d
  pub inside : AllByRecursion (λ x. ¬ IsHost net x.loc) inner
  pub symbols : AllByRecursion (IsSymbol net) w
  pub steps : AllByRecursion (MayFollow net) (neighbours w)

-- The same symbol by symbol.

-- the word goes on from x to host d: each symbol may follow the one before it, and none but the
-- last is at a host
abbrev pub GoesOn : Network → ℕ → Symbol → List Symbol → Type 0
GoesOn net d x [] = ⊥
GoesOn net d x (y ∷ []) = MayFollow net (x, y) × IsSymbol net y × (y ≡ at d)
GoesOn net d x (y ∷ z ∷ rest) =
    MayFollow net (x, y) × IsSymbol net y × (¬ IsHost net y.loc) × GoesOn net d y (z ∷ rest)

abbrev pub WalksFrom : Network → ℕ → ℕ → List Symbol → Type 0
WalksFrom net s d [] = ⊥
WalksFrom net s d (x ∷ rest) =
    (x ≡ at s) × IsSymbol net x × IsHost net s × IsHost net d × GoesOn net d x rest

-- whether a step leads from u to v
abbrev pub crosses : ℕ → ℕ → Symbol × Symbol → Bool
crosses u v pair = (pair.0.loc == u) && (pair.1.loc == v) && not (u == v)

-- how often a word goes from u to v
abbrev pub crossings : List Symbol → ℕ → ℕ → ℕ
crossings w u v = count_by (crosses u v) (neighbours w)

-- a stay at one location, and the functions that run there, in order
pub record Stop : Type 0 where
  pub loc : ℕ
  pub functions : List ℕ

abbrev pub functions_of : Symbol → List ℕ
functions_of x = option_to_list x.fun

-- the stops from a symbol on, given those from the next symbol on
abbrev pub with_symbol : Symbol → List Stop → List Stop
with_symbol x [] = record { loc = x.loc; functions = functions_of x } ∷ []
with_symbol x (stop ∷ stops) =
    if x.loc == stop.loc
    then record { loc = x.loc; functions = functions_of x ++ stop.functions } ∷ stops
    else record { loc = x.loc; functions = functions_of x } ∷ stop ∷ stops

-- the stops of a word: neighbouring symbols at one location are one stop
abbrev pub visits : List Symbol → List Stop
visits [] = []
visits (x ∷ rest) = with_symbol x (visits rest)
