-- Lists of pairs: a blank, a number, a colon and a whole number for each.
use Rattle.std.specs.Prelude.{ℕ, ◌≡◌, ◌≢◌, ◌<◌, ◌≤◌, ℤ, pos, nat_abs, List, [], ◌∷◌, ◌++◌, map}
use Rattle.std.specs.List.{AllByRecursion, flat_map}
use Rattle.std.specs.List.Sorted.{IsStrictlyIncreasing}
use Rattle.std.specs.Fmt.{decimal, signed_decimal}

abbrev pub pair_text : ℕ × ℤ → List ℕ
pair_text pair = 32 ∷ (decimal pair.0 ++ 58 ∷ signed_decimal pair.1)

abbrev pub pairs_text : List (ℕ × ℤ) → List ℕ
pairs_text = flat_map pair_text

-- first numbers that ascend below a bound, second ones that aren't 0 and are within a limit
pub record ArePairs (bound limit : ℕ) (pairs : List (ℕ × ℤ)) : Type 0 where
  pub ascend : IsStrictlyIncreasing (map (λ p. p.0) pairs)
  pub below : AllByRecursion (λ p. p.0 < bound) pairs
  pub small : AllByRecursion (λ p. nat_abs p.1 ≤ limit) pairs
  pub nonzero : AllByRecursion (λ p. p.1 ≢ pos 0) pairs

-- the text is empty, or this is its first byte
abbrev pub IsEmptyOrBegins : ℕ → List ℕ → Type 0
IsEmptyOrBegins byte [] = Unit {0}
IsEmptyOrBegins byte (c ∷ cs) = c ≡ byte
