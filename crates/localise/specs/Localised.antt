-- The localised rates of ids under the terms of a formula.
use Rattle.std.specs.Prelude.{ℕ, List, map, Option}
use Rattle.merlin_model.specs.declared.policy.Term.{Term}
use Rattle.merlin_model.specs.Rates.{least_of, greatest_of, max_shares, min_shares}
use Rattle.localise.specs.declared.localising.Rates.{Rates}

-- the least share of an id under `max`, if it stands in such a term
abbrev pub max_for : List Term → List ℕ → Option ℕ
max_for terms id = least_of (max_shares id terms)

-- the greatest share of an id under `min`, or 0
abbrev pub min_for : List Term → List ℕ → ℕ
min_for terms id = greatest_of (min_shares id terms)

-- the localised rates of some ids, in their order
abbrev pub localised : List Term → List (List ℕ) → Rates
localised terms ids = record { min = map (min_for terms) ids; max = map (max_for terms) ids }
