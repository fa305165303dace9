-- Where the caps or the guarantees of a child do not stay within the terms of its parent: which rule fails first, and what shows it.
use Rattle.std.specs.Prelude.{ℕ, ◌≡◌, ◌<◌, List, sum_by, Contains, Option, Some, slice_get}
use Rattle.merlin_model.specs.declared.policy.Bound.TheVariants.{Max, Min}
use Rattle.merlin_model.specs.declared.policy.Term.{Term}
use Rattle.merlin_model.specs.Networks.{Network}
use Rattle.merlin_model.specs.Policies.{Policy}
use Rattle.merlin_model.specs.Rates.{amount_of, min_of, IsGuaranteed}
use Rattle.refinement_model.specs.Refinement.{Touches, AreTouching, KeepsCap, KeepsReserve, IsAtMost, IsReserved, sum_of_caps}

module _ (net : Network) (parent child : Policy) where
  -- each `max` term of the parent is kept, and each `min` term
  abbrev pub KeepsAllCaps : Type 0
  KeepsAllCaps = (term : Term) → Contains parent.terms term → term.bound ≡ Max → KeepsCap net parent child term

  abbrev pub KeepsAllReserves : Type 0
  KeepsAllReserves = (term : Term) → Contains parent.terms term → term.bound ≡ Min → KeepsReserve net parent child term

  -- the caps of all that touch a `max` term sum to more than its amount; they have no sum where one has no cap
  pub record IsWideCap (term : Term) (sum : Option ℕ) : Type 0 where
    pub is_max : term.bound ≡ Max
    pub touching : List ℕ
    pub are_touching : AreTouching net parent child term touching
    pub sum_is : sum ≡ sum_of_caps child touching
    pub wide : ¬ IsAtMost sum (amount_of term)

  -- the guarantees of all that touch a `min` term sum to more than its amount
  pub record IsWideReserve (term : Term) (sum : ℕ) : Type 0 where
    pub is_min : term.bound ≡ Min
    pub touching : List ℕ
    pub are_touching : AreTouching net parent child term touching
    pub sum_is : sum ≡ sum_by (min_of child) touching
    pub wide : amount_of term < sum

  -- it is the first such term, at this place among all terms
  pub record IsFirstWideCap (place : ℕ) (sum : Option ℕ) : Type 0 where
    pub term : Term
    pub stands : slice_get parent.terms place ≡ Some term
    pub wide : IsWideCap term sum
    pub before : (k : ℕ) (t : Term) → k < place → slice_get parent.terms k ≡ Some t → t.bound ≡ Max → KeepsCap net parent child t

  pub record IsFirstWideReserve (place sum : ℕ) : Type 0 where
    pub term : Term
    pub stands : slice_get parent.terms place ≡ Some term
    pub wide : IsWideReserve term sum
    pub before : (k : ℕ) (t : Term) → k < place → slice_get parent.terms k ≡ Some t → t.bound ≡ Min → KeepsReserve net parent child t

  -- what a guaranteed statement of the child touches is reserved
  abbrev pub IsWithinReserves : ℕ → Type 0
  IsWithinReserves i = IsGuaranteed child i → (j : ℕ) → Touches net parent child i j → IsReserved parent j

  -- the statement is guaranteed, and touches one that no `min` term bounds
  pub record IsOutsideReserves (i : ℕ) : Type 0 where
    pub guaranteed : IsGuaranteed child i
    pub touched : ℕ
    pub touches : Touches net parent child i touched
    pub unreserved : ¬ IsReserved parent touched

  -- it is the first such statement, and this is its guarantee
  pub record IsFirstOutside (sum : ℕ) : Type 0 where
    pub statement : ℕ
    pub outside : IsOutsideReserves statement
    pub sum_is : sum ≡ min_of child statement
    pub before : (k : ℕ) → k < statement → IsWithinReserves k
