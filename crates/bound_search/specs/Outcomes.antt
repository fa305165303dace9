-- The three outcomes of a search: over a program at each cutoff (`instance`), its easy boxes, its neat points, the order of its cutoffs,
-- the value of a point, and what the chooser may answer at a box (`chose`).
use Rattle.std.specs.Prelude.{ℕ, ◌≡◌, ◌+◌, ◌≤◌, ◌<◌, ◌^◌, Bool, true, false, List, length, Option, None, Some}
use Rattle.merlin_model.specs.Programs.{Program, variables, IsSolution}
use Rattle.merlin_model.specs.declared.certificate.Tree.{Tree}
use Rattle.merlin_model.specs.Trees.{Refutes, nodes_of, root_box, has_open_end}
use Rattle.bound_search.specs.declared.outcome.Outcome.{Outcome}
use Rattle.bound_search.specs.declared.outcome.Outcome.TheVariants.{Least, Infeasible, Budget}
use Rattle.bound_search.specs.Growing.{AreKept, AreChosen}

abbrev pub IsTreeInBudget : ℕ → Program → Tree → Type 0
IsTreeInBudget budget program tree = length (nodes_of tree (root_box program)) ≤ budget

-- a neat solution below which there is none, with a tree that shows it
pub record IsLeastPoint (K : Type 0) (instance : Option K → Program) (neat : List Bool → Type 0) (below : K → K → Bool) (value : List Bool → K)
    (chose : List (Option Bool) → ℕ → Type 0) (budget : ℕ) (point : List Bool) (cutoff : K) (tree : Tree) : Type 0 where
  pub solution : IsSolution (instance None) point
  pub is_neat : neat point
  pub own : cutoff ≡ value point
  pub least : (other : List Bool) → IsSolution (instance None) other → below (value other) cutoff ≡ false
  pub refutes : Refutes (instance (Some cutoff)) tree (root_box (instance (Some cutoff)))
  pub chosen : AreChosen (instance (Some cutoff)) chose (nodes_of tree (root_box (instance (Some cutoff))))
  pub in_budget : IsTreeInBudget budget (instance (Some cutoff)) tree

-- no solution at all, with a tree that shows it
pub record HasNone (K : Type 0) (instance : Option K → Program) (chose : List (Option Bool) → ℕ → Type 0) (budget : ℕ) (tree : Tree) : Type 0 where
  pub none : (point : List Bool) → ¬ IsSolution (instance None) point
  pub refutes : Refutes (instance None) tree (root_box (instance None))
  pub chosen : AreChosen (instance None) chose (nodes_of tree (root_box (instance None)))
  pub in_budget : IsTreeInBudget budget (instance None) tree

-- A tree whose nodes are spent: two more would pass the budget, and an end is open. Its leaves refute, and no easy box was split or left open.
pub record IsSpent (program : Program) (easy : List (Option Bool) → Type 0) (chose : List (Option Bool) → ℕ → Type 0) (budget : ℕ) (tree : Tree) : Type 0 where
  pub in_budget : IsTreeInBudget budget program tree
  pub spent : budget < length (nodes_of tree (root_box program)) + 2
  pub open_end : has_open_end (nodes_of tree (root_box program)) ≡ true
  pub kept : AreKept program easy (nodes_of tree (root_box program))
  pub chosen : AreChosen program chose (nodes_of tree (root_box program))
  -- so a budget for the tree of all boxes is never spent
  pub small : budget + 1 < 2 ^ (variables program + 1)

-- the best point of a search that is spent, if it found one, with the tree at its value
abbrev pub IsStopped : (K : Type 0) (instance : Option K → Program) (easy : Option K → List (Option Bool) → Type 0) (neat : List Bool → Type 0) (value : List Bool → K)
    (chose : List (Option Bool) → ℕ → Type 0) (budget : ℕ) (tree : Tree) → Option (List Bool) → Type 0
IsStopped K instance easy neat value chose budget tree None = IsSpent (instance None) (easy None) chose budget tree
IsStopped K instance easy neat value chose budget tree (Some point) =
    IsSolution (instance None) point × neat point × IsSpent (instance (Some (value point))) (easy (Some (value point))) chose budget tree

abbrev pub IsSearchOutcome : (K : Type 0) (instance : Option K → Program) (easy : Option K → List (Option Bool) → Type 0) (neat : List Bool → Type 0) (below : K → K → Bool) (value : List Bool → K)
    (chose : List (Option Bool) → ℕ → Type 0) (budget : ℕ) → Outcome K → Type 0
IsSearchOutcome K instance easy neat below value chose budget (Least point cutoff tree) = IsLeastPoint K instance neat below value chose budget point cutoff tree
IsSearchOutcome K instance easy neat below value chose budget (Infeasible tree) = HasNone K instance chose budget tree
IsSearchOutcome K instance easy neat below value chose budget (Budget best tree) = IsStopped K instance easy neat value chose budget tree best
