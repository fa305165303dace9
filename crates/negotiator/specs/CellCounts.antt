-- How many cells the predicates of two policies have together.
use Rattle.std.specs.Prelude.{ℕ, zero, suc, ◌≤◌, ◌+◌, ◌==◌, List, length, Option, None, Some, if◌then◌else◌}
use Rattle.merlin_model.specs.declared.network.HostAddress.{HostAddress}
use Rattle.merlin_model.specs.declared.policy.Pred.{Pred}
use Rattle.merlin_model.specs.Networks.{Network, address_of}
use Rattle.merlin_model.specs.Policies.{Policy}
use Rattle.predicate_split.specs.Cells.{cells_between}
use Rattle.predicate_split.specs.declared.fault.TheConstants.{MAX_CELLS}
use Rattle.negotiator.specs.Contacts.{preds_of_both}

-- the sum of the first n values
abbrev pub sum_to : (ℕ → ℕ) → ℕ → ℕ
sum_to f zero = 0
sum_to f (suc n) = sum_to f n + f n

-- the number of cells from one host to another; what is no host has none
abbrev pub count_between : List Pred → Option HostAddress → Option HostAddress → ℕ
count_between preds None dst = 0
count_between preds (Some src) None = 0
count_between preds (Some src) (Some dst) = length (cells_between preds src dst)

module _ (net : Network) (preds : List Pred) where
  abbrev pub cells_of_pair : ℕ → ℕ → ℕ
  cells_of_pair src dst = if src == dst then 0 else count_between preds (address_of net src) (address_of net dst)

  abbrev pub cells_from : ℕ → ℕ
  cells_from src = sum_to (cells_of_pair src) (length net.locations)

  -- over all ordered pairs of different hosts
  abbrev pub cell_count : ℕ
  cell_count = sum_to cells_from (length net.locations)

-- the predicates of both policies together have no more cells than there may be
abbrev pub HasFewCellsTogether : Network → Policy → Policy → Type 0
HasFewCellsTogether net parent child = cell_count net (preds_of_both parent child) ≤ MAX_CELLS
