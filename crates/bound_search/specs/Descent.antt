-- From cutoff to cutoff.
use Rattle.std.specs.Prelude.{ℕ, zero, suc, ◌≡◌, ◌+◌, ◌<◌, Bool, true, false, IsTrue, List, [], ◌∷◌, length, Option, None, Some}
use Rattle.merlin_model.specs.Programs.{Program, IsSolution}
use Rattle.merlin_model.specs.declared.certificate.Tree.{Tree}
use Rattle.merlin_model.specs.Trees.{nodes_of, root_box, has_open_end}
use Rattle.bound_search.specs.declared.outcome.Best.{Best}
use Rattle.bound_search.specs.Growing.{AreKept, AreChosen}
use Rattle.bound_search.specs.Outcomes.{IsTreeInBudget}

-- the points of so many variables for which a test holds
abbrev pub one_if : Bool → ℕ
one_if true = 1
one_if false = 0

unfoldable pub count_points : ℕ → (List Bool → Bool) → ℕ
count_points zero test = one_if (test [])
count_points (suc n) test = count_points n (λ point. test (false ∷ point)) + count_points n (λ point. test (true ∷ point))

abbrev pub cutoff_of_best : {K : Type 0} → Option (Best K) → Option K
cutoff_of_best None = None
cutoff_of_best (Some best) = Some best.cutoff

-- a neat solution with its value, which is a cutoff that the program takes
pub record IsBest (K : Type 0) (instance : Option K → Program) (neat : List Bool → Type 0) (takes : K → Bool) (value : List Bool → K) (best : Best K) : Type 0 where
  pub solution : IsSolution (instance None) best.point
  pub is_neat : neat best.point
  pub own : best.cutoff ≡ value best.point
  pub taken : IsTrue (takes best.cutoff)

abbrev pub IsBestSoFar : (K : Type 0) (instance : Option K → Program) (neat : List Bool → Type 0) (takes : K → Bool) (value : List Bool → K) → Option (Best K) → Type 0
IsBestSoFar K instance neat takes value None = Unit {0}
IsBestSoFar K instance neat takes value (Some best) = IsBest K instance neat takes value best

-- the tree that was grown over the box that fixes nothing
pub record IsRootTree (program : Program) (easy : List (Option Bool) → Type 0) (chose : List (Option Bool) → ℕ → Type 0) (budget : ℕ) (tree : Tree) : Type 0 where
  pub kept : AreKept program easy (nodes_of tree (root_box program))
  pub chosen : AreChosen program chose (nodes_of tree (root_box program))
  pub in_budget : IsTreeInBudget budget program tree
  pub spent : has_open_end (nodes_of tree (root_box program)) ≡ true → budget < length (nodes_of tree (root_box program)) + 2
