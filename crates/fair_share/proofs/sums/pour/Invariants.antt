use Rattle.std.proofs.Common.{ℕ, ◌≡◌, ◌≤◌, List, length}
use Rattle.fair_share.specs.declared.cap.Tenant.{Tenant}
use Rattle.fair_share.specs.Filling.{AreDirect}
use Rattle.fair_share.proofs.Pouring.{HasCome}
use Rattle.fair_share.proofs.sums.pour.Given as goal

abbrev pub invariant-caps : goal.invariant-caps
invariant-caps l = (l.left ≤ length l.caps) × (length l.sums ≡ length l.caps) × ((ts : List Tenant) (xs : List ℕ) → AreDirect l.caps ts xs l.initial.sums → HasCome l.caps ts xs l.sums l.left)

abbrev pub decreases-caps : goal.decreases-caps
decreases-caps l = l.left
