-- Refusals of formulas as refusals of policies.
use Rattle.std.proofs.Common.{◌≡◌, ℕ, List, subst}
use Rattle.localise.specs.Faults.{faults, IsFirst}
use Rattle.localise.specs.declared.fault.RateFault.{RateFault}
use Rattle.localise.specs.declared.fault.RateFault.TheVariants as rate
use Rattle.policy_expansion.specs.declared.policy.Policy.{Policy}
use Rattle.policy_check.specs.Conversions.{from_rates}
use Rattle.policy_check.specs.Rules.{listed_ids, HasApartPreds, LeavesNothing, rate_faults}
use Rattle.policy_check.specs.Parts.{BreaksPredicatesOrRates}

module _ (raw : Policy) (apart : HasApartPreds raw) (total : LeavesNothing raw) where
  by : (fault : RateFault) → IsFirst (rate_faults raw) fault → BreaksPredicatesOrRates raw (from_rates fault)
  by (rate.UnknownId id) first = (apart, total, first)
  by (rate.RepeatedId id) first = (apart, total, first)
  by (rate.ConstantTooLarge term) first = (apart, total, first)
  by (rate.LocalisedConflict id least most) first = (apart, total, first)
  by rate.OutOfMemory first = tt

  pub rates-refused : (ids : List (List ℕ)) → ids ≡ listed_ids raw → (fault : RateFault) → IsFirst (faults raw.formula.terms ids) fault → BreaksPredicatesOrRates raw (from_rates fault)
  rates-refused ids same fault first = by fault (subst (λ l. IsFirst (faults raw.formula.terms l) fault) same first)
