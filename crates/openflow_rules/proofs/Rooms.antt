-- How much room is left for cells.
use Rattle.std.proofs.Common.{◌≡◌, ◌<◌, ◌≤◌, ◌+◌, ℕ, List, [], ◌∷◌, length, map, take, get_or, ap, arith}
use Rattle.std.specs.Prelude.{sum_by}
use Rattle.std.specs.List.{AllByRecursion}
use Rattle.std.proofs.lemmas.List.Sums.{sum_by_more, sum_by-drop_more, sum_by-take-drop}
use Rattle.openflow_rules.specs.declared.fault.RuleFault.{RuleFault}
use Rattle.openflow_rules.specs.declared.fault.RuleFault.TheVariants.{TooManyTags, TooManyCells, TooManyEntries, OutOfMemory}
use Rattle.openflow_rules.specs.Gathered.{IsCellFault}
use Rattle.openflow_rules.proofs.Steps.{taken-all}

pub cell-wider : (n room all whole : ℕ) → (room < n → whole < all) → (f : RuleFault) → IsCellFault n room f → IsCellFault all whole f
cell-wider n room all whole wider (TooManyTags count) h = h
cell-wider n room all whole wider (TooManyCells count) h = (wider h.0, h.1)
cell-wider n room all whole wider (TooManyEntries count) h = h
cell-wider n room all whole wider OutOfMemory h = h

module _ (f : ℕ → ℕ) (xs : List ℕ) (i : ℕ) where
  pub sum-next : (left after whole : ℕ) → i < length xs → left + sum_by f (take i xs) ≡ whole → after + f (get_or xs i 0) ≡ left → after + sum_by f (take (i + 1) xs) ≡ whole
  sum-next left after whole lt sum now = let more = sum_by_more f xs i 0 lt in omega (arith, more, sum, now)

  pub sum-passes : (left whole : ℕ) → i < length xs → left + sum_by f (take i xs) ≡ whole → left < f (get_or xs i 0) → whole < sum_by f xs
  sum-passes left whole lt sum full =
      let all = sum_by-take-drop f xs i in
      let next = sum_by-drop_more f xs i 0 lt in omega (arith, all, next, sum, full)

  pub sum-whole : (left whole : ℕ) → length xs ≤ i → left + sum_by f (take i xs) ≡ whole → left + sum_by f xs ≡ whole
  sum-whole left whole past sum = let same = ap (sum_by f) (taken-all xs i past) in omega (arith, same, sum)

  pub sum-below : (left whole : ℕ) → left + sum_by f (take i xs) ≡ whole → left ≤ whole
  sum-below left whole sum = omega (arith, sum)

pub all-mapped : {X Y : Type 0} (P : Y → Type 0) (f : X → Y) (xs : List X) → AllByRecursion (λ x. P (f x)) xs → AllByRecursion P (map f xs)
all-mapped P f [] h = tt
all-mapped P f (x ∷ xs) h = (h.0, all-mapped P f xs h.1)
