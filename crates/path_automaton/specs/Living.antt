-- Which states lead to an accepting one.
use Rattle.std.specs.Prelude.{ℕ, suc, ◌≡◌, ◌<◌, ◌≤◌, ◌↔◌, Bool, true, false, List, [], ◌∷◌, length, Contains}
use Rattle.std.specs.List.{AllByRecursion, list_any, slice_index_or}

-- the states after a state
abbrev pub states_after : List (List ℕ) → ℕ → List ℕ
states_after rows q = slice_index_or rows q []

abbrev pub is_set : List Bool → ℕ → Bool
is_set flags q = slice_index_or flags q false

-- the states lead on from the first to an accepting one
abbrev pub IsWay : List (List ℕ) → List Bool → ℕ → List ℕ → Type 0
IsWay rows accepting q [] = is_set accepting q ≡ true
IsWay rows accepting q (p ∷ ps) = Contains (states_after rows q) p × IsWay rows accepting p ps

abbrev pub IsLive : List (List ℕ) → List Bool → ℕ → Type 0
IsLive rows accepting q = (ps : List ℕ) × IsWay rows accepting q ps

-- the rows name states alone
abbrev pub AreInside : List (List ℕ) → ℕ → Type 0
AreInside rows n = (length rows ≡ n) × AllByRecursion (λ row. AllByRecursion (λ p. p < n) row) rows

-- each flag that is set stands at a state that lives
abbrev pub AreSound : List (List ℕ) → List Bool → List Bool → Type 0
AreSound rows accepting flags = (q : ℕ) → is_set flags q ≡ true → IsLive rows accepting q

-- how many flags are not set
abbrev pub dead : List Bool → ℕ
dead [] = 0
dead (true ∷ flags) = dead flags
dead (false ∷ flags) = suc (dead flags)

-- a flag is set wherever a flag after it is
abbrev pub AreClosed : List (List ℕ) → List Bool → ℕ → Type 0
AreClosed rows flags from = (q : ℕ) → from ≤ q → q < length rows → list_any (is_set flags) (states_after rows q) ≡ true → is_set flags q ≡ true

-- what one round over the states from one on makes of the flags
pub record IsSpread (rows : List (List ℕ)) (from : ℕ) (old new : List Bool) (changed : Bool) : Type 0 where
  pub size : length new ≡ length old
  pub kept : (q : ℕ) → is_set old q ≡ true → is_set new q ≡ true
  pub sound : (accepting : List Bool) → AreSound rows accepting old → AreSound rows accepting new
  pub closed : changed ≡ false → AreClosed rows new from
  pub fewer : changed ≡ true → dead new < dead old
  pub most : dead new ≤ dead old

-- the flags are those of the states that live
pub record AreLiving (rows : List (List ℕ)) (accepting flags : List Bool) : Type 0 where
  pub size : length flags ≡ length accepting
  pub exact : (q : ℕ) → q < length rows → (is_set flags q ≡ true) ↔ IsLive rows accepting q
