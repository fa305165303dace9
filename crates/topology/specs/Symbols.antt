-- The symbols of a network, and their order.
use Rattle.std.specs.Prelude.{◌==◌, ℕ, Bool, List, ◌∷◌, length, map, filter, Some}
use Rattle.std.specs.List.{enumerate_from, flat_map, list_any, range_with_len}
use Rattle.merlin_model.specs.declared.network.FnDecl.{FnDecl}
use Rattle.merlin_model.specs.declared.policy.Symbol.{Symbol}
use Rattle.merlin_model.specs.Networks.{Network}
use Rattle.merlin_model.specs.Words.{at}

abbrev pub is_placed_at : ℕ → FnDecl → Bool
is_placed_at loc function = list_any (λ place. place == loc) function.places

-- the numbers of the functions that are placed at a location, ascending
abbrev pub functions_placed_at : List FnDecl → ℕ → List ℕ
functions_placed_at functions loc =
    map (λ numbered. numbered.0) (filter (λ numbered. is_placed_at loc numbered.1) (enumerate_from 0 functions))

-- a location with a function
abbrev pub at_with : ℕ → ℕ → Symbol
at_with loc fun = record { loc = loc; fun = Some fun }

-- the symbols at a location: it alone, then with each function that is placed there
abbrev pub symbols_at : List FnDecl → ℕ → List Symbol
symbols_at functions loc = at loc ∷ map (at_with loc) (functions_placed_at functions loc)

-- the symbols at the first locations, so many of them
abbrev pub symbols_among : List FnDecl → ℕ → List Symbol
symbols_among functions locations = flat_map (symbols_at functions) (range_with_len 0 locations)

-- the symbols of a network, by location and then by function
abbrev pub network_symbols : Network → List Symbol
network_symbols net = symbols_among net.functions (length net.locations)
