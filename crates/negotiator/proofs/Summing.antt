-- Caps are small.
use Rattle.std.proofs.Common.{◌≡◌, ◌≤◌, ℕ, Option, None, Some, IfSome, sym}
use Rattle.merlin_model.specs.declared.limits.TheConstants.{MAX_RATE}
use Rattle.merlin_model.specs.Policies.{Policy}
use Rattle.merlin_model.specs.Rates.{max_of}
use Rattle.policy_check.specs.Checked.{IsSoundPolicy}

pub small-cap : (policy : Policy) (i : ℕ) → IsSoundPolicy policy → ((p : Policy) (k cap : ℕ) → IsSoundPolicy p → max_of p k ≡ Some cap → cap ≤ MAX_RATE) → (o : Option ℕ) → o ≡ max_of policy i → IfSome o (λ cap. cap ≤ MAX_RATE)
small-cap policy i sound law None e = tt
small-cap policy i sound law (Some cap) e = law policy i cap sound (sym e)
