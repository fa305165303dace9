-- The localised minimum of a statement.
use Rattle.std.proofs.Common.{◌≡◌, ◌<◌, ◌↔◌, nat_lt, ℕ, suc, zero, true, List, [], ◌∷◌, map, get_or, slice_get, refl, sym, subst, arith}
use Rattle.std.specs.Option.{option_map_or}
use Rattle.merlin_model.specs.declared.policy.Term.{Term}
use Rattle.merlin_model.specs.Policies.{Policy, Statement}
use Rattle.merlin_model.specs.Rates.{min_of, IsGuaranteed, greatest_of, min_shares}
use Rattle.rate_formula.specs.Usage.{ids_in}
use Rattle.localise.specs.Localised.{min_for, localised}

rates-of : (terms : List Term) (statements : List Statement) (i : ℕ) → get_or (map (min_for terms) (map (λ s. s.id) statements)) i 0 ≡ option_map_or (λ s. greatest_of (min_shares s.id terms)) (slice_get statements i) 0
rates-of terms [] i = refl
rates-of terms (s ∷ statements) zero = refl
rates-of terms (s ∷ statements) (suc i) = rates-of terms statements i

pub least-is : (policy : Policy) (i : ℕ) → get_or (localised policy.terms (ids_in policy)).min i 0 ≡ min_of policy i
least-is policy i = rates-of policy.terms policy.statements i

pub above-is : (policy : Policy) (i rate : ℕ) → rate ≡ min_of policy i → (nat_lt 0 rate ≡ true) ↔ IsGuaranteed policy i
above-is policy i rate is = (λ h. let lt : 0 < rate = grind arith in subst (λ n. 0 < n) is lt, λ g. let lt : 0 < rate = subst (λ n. 0 < n) (sym is) g in grind arith)
