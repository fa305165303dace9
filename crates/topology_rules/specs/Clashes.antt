-- The first element of a list that clashes with an earlier one, and the first of which something does not hold.
use Rattle.std.specs.Prelude.{◌≡◌, ℕ, Bool, true, List, take, Contains, Some, slice_get}
use Rattle.std.specs.List.{AllByRecursion, IsDistinct, list_any}
use Rattle.merlin_model.specs.Networks.{Pairwise}

-- no two elements clash
abbrev pub HasNoClash : {X : Type 0} → (X → X → Type 0) → List X → Type 0
HasNoClash Clash xs = Pairwise (λ x y. ¬ Clash x y) xs

-- The element at this place clashes with an earlier one, and of those before it no two do.
pub record IsFirstClash {X : Type 0} (Clash : X → X → Type 0) (xs : List X) (place : ℕ) : Type 0 where
  pub second : X
  pub stands : slice_get xs place ≡ Some second
  pub first : X
  pub earlier : Contains (take place xs) first
  pub clash : Clash first second
  pub apart : HasNoClash Clash (take place xs)

-- The element at this place is the first of which something does not hold.
pub record IsFirstFailure {X : Type 0} (Holds : X → Type 0) (xs : List X) (place : ℕ) : Type 0 where
  pub element : X
  pub stands : slice_get xs place ≡ Some element
  pub fails : ¬ Holds element
  pub before : AllByRecursion Holds (take place xs)

-- The key at this place is the first that stands before it too.
pub record IsFirstRepeated {K : Type 0} (eq : K → K → Bool) (keys : List K) (place : ℕ) : Type 0 where
  pub key : K
  pub stands : slice_get keys place ≡ Some key
  pub before : list_any (eq key) (take place keys) ≡ true
  pub apart : IsDistinct eq (take place keys)
