-- What is left of the room for cells, and what no longer fits.
use Rattle.std.proofs.Common.{◌≡◌, ◌<◌, ◌≤◌, ◌+◌, ◌-◌, ℕ, zero, suc, subst, arith}
use Rattle.negotiator.specs.declared.fault.RefineFault.{RefineFault}
use Rattle.negotiator.specs.declared.fault.RefineFault.TheVariants.{TooManyCells, PathWider, CapWider, ReserveWider, OutOfMemory}
use Rattle.negotiator.specs.CellCounts.{sum_to}
use Rattle.negotiator.specs.Refusals.{PassesRoom}

sum-more : (f : ℕ → ℕ) (k m : ℕ) → sum_to f k ≤ sum_to f (m + k)
sum-more f k zero = let same : k ≡ 0 + k = omega arith in subst (λ n. sum_to f k ≤ sum_to f n) same (omega arith)
sum-more f k (suc m) =
    let rest = sum-more f k m in
    let same : suc (m + k) ≡ suc m + k = omega arith in
    let step : sum_to f k ≤ sum_to f (m + k) + f (m + k) = omega (arith, rest) in
    subst (λ n. sum_to f k ≤ sum_to f n) same step

pub sum-part : (f : ℕ → ℕ) (k n : ℕ) → k ≤ n → sum_to f k ≤ sum_to f n
sum-part f k n h = let same : (n - k) + k ≡ n = omega (arith, h) in subst (λ m. sum_to f k ≤ sum_to f m) same (sum-more f k (n - k))

-- the values before the last that was taken, and that one, do not fit
pub passes-sum : (f : ℕ → ℕ) (k n left room : ℕ) → k < n → left + sum_to f k ≡ room → left < f k → room < sum_to f n
passes-sum f k n left room less e over = let part : sum_to f (suc k) ≤ sum_to f n = sum-part f (suc k) n less in omega (arith, e, over, part)

pub passes-more : (cells more left room : ℕ) → (left < cells → room < more) → (fault : RefineFault) → PassesRoom cells left fault → PassesRoom more room fault
passes-more cells more left room f (TooManyCells count) h = (f h.0, h.1)
passes-more cells more left room f (PathWider packet word) h = h
passes-more cells more left room f (CapWider term sum) h = h
passes-more cells more left room f (ReserveWider term sum) h = h
passes-more cells more left room f OutOfMemory h = tt
