-- Rates by the place of a statement, and that its predicate is well formed.
use Rattle.std.proofs.Common.{ℕ, zero, suc, ◌≡◌, List, [], ◌∷◌, map, None, slice_get, refl}
use Rattle.std.specs.Prelude.{unwrap_or}
use Rattle.std.specs.Option.{option_map_or}
use Rattle.merlin_model.specs.declared.policy.Term.{Term}
use Rattle.std.specs.List.{AllByRecursion}
use Rattle.merlin_model.specs.Policies.{Statement}
use Rattle.merlin_model.specs.Predicates.{IsPred}
use Rattle.merlin_model.specs.Rates.{least_of, greatest_of, max_shares, min_shares}
use Rattle.localise.specs.Localised.{max_for, min_for}

pub min-at : (terms : List Term) (ss : List Statement) (i : ℕ) →
    unwrap_or (slice_get (map (min_for terms) (map (λ s. s.id) ss)) i) 0 ≡ option_map_or (λ s. greatest_of (min_shares s.id terms)) (slice_get ss i) 0
min-at terms [] i = refl
min-at terms (s ∷ ss) zero = refl
min-at terms (s ∷ ss) (suc i) = min-at terms ss i

pub max-at : (terms : List Term) (ss : List Statement) (i : ℕ) →
    unwrap_or (slice_get (map (max_for terms) (map (λ s. s.id) ss)) i) None ≡ option_map_or (λ s. least_of (max_shares s.id terms)) (slice_get ss i) None
max-at terms [] i = refl
max-at terms (s ∷ ss) zero = refl
max-at terms (s ∷ ss) (suc i) = max-at terms ss i

pub formed-preds : (ss : List Statement) → AllByRecursion (λ s. IsPred s.pred) ss → AllByRecursion IsPred (map (λ s. s.pred) ss)
formed-preds [] h = tt
formed-preds (s ∷ ss) h = (h.0, formed-preds ss h.1)
