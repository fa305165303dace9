use Rattle.std.proofs.Common.{◌≡◌, ℕ, true, false, length, slice_index_or}
use Rattle.fair_share.proofs.guess.unhindered.Given as goal

abbrev pub invariant-loop-index : goal.invariant-loop-index
invariant-loop-index l = (length l.easy.items ≡ l.index) × ((i : ℕ) → slice_index_or l.easy.items i false ≡ true → slice_index_or l.rising i false ≡ true)
