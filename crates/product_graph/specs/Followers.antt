-- How symbols go on in a network, by their numbers.
use Rattle.std.specs.Prelude.{ℕ, ◌≡◌, ◌<◌, ◌⊎◌, ◌↔◌, List, [], length, map, slice_get, Contains, Some}
use Rattle.std.specs.List.{AllByRecursion, slice_index_or}
use Rattle.merlin_model.specs.declared.policy.Symbol.{Symbol}
use Rattle.merlin_model.specs.Networks.{Network, IsHost, Pairwise}
use Rattle.merlin_model.specs.Words.{at, IsSymbol, MayFollow}
use Rattle.rules_model.specs.Products.{function_place}
use Rattle.product_graph.specs.declared.followers.Followers.{Followers}
use Rattle.product_graph.specs.Inside.{AreRising, numbers_after}

-- by location, and at each location first without a function
abbrev pub IsSymbolBefore : Symbol → Symbol → Type 0
IsSymbolBefore x y =
    (x.loc < y.loc) ⊎ ((x.loc ≡ y.loc) × (function_place x.fun < function_place y.fun))

-- the list has each symbol of the network, in order
pub record AreOrderedSymbols (net : Network) (symbols : List Symbol) : Type 0 where
  pub each : (x : Symbol) → Contains symbols x ↔ IsSymbol net x
  pub ascend : Pairwise IsSymbolBefore symbols

-- each symbol is at one of so many locations
abbrev pub AreSymbolsAmong : ℕ → List Symbol → Type 0
AreSymbolsAmong n symbols = AllByRecursion (λ x. x.loc < n) symbols

-- the numbers of the symbols that may follow the symbol of this number inside
abbrev pub follower_numbers : Followers → ℕ → List ℕ
follower_numbers f k = numbers_after f.rows f.places k

-- the symbol of this number may follow at the location, and is at no host
abbrev pub MayGoOn : Network → List Symbol → ℕ → ℕ → Type 0
MayGoOn net symbols loc j =
    (y : Symbol) × (slice_get symbols j ≡ Some y) × MayFollow net (at loc, y) × (¬ IsHost net y.loc)

-- the numbers of those among the first symbols that may follow at the location, in order
pub record IsFollowerRow (net : Network) (symbols : List Symbol) (loc : ℕ) (bound : ℕ) (row : List ℕ) : Type 0 where
  pub each : (j : ℕ) → Contains row j ↔ ((j < bound) × MayGoOn net symbols loc j)
  pub below : AllByRecursion (λ k. k < bound) row
  pub ascends : AreRising row

-- for each location the numbers of the symbols that may follow there
abbrev pub AreFollowerRows : Network → List Symbol → List (List ℕ) → Type 0
AreFollowerRows net symbols rows =
    (loc : ℕ) → loc < length rows →
    IsFollowerRow net symbols loc (length symbols) (slice_index_or rows loc [])

-- the followers are those of the network over these symbols
pub record AreFollowersOf (net : Network) (symbols : List Symbol) (f : Followers) : Type 0 where
  pub places : f.places ≡ map (λ x. x.loc) symbols
  pub count : length f.rows ≡ length net.locations
  pub rows : AreFollowerRows net symbols f.rows
