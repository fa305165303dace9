-- The limits of ids as the terms are looked at, and the table that keeps them.
use Rattle.std.specs.Prelude.{ℕ, Bool, List, map, max, min, Option, None, Some, is_some, unwrap_or}
use Rattle.std.specs.Option.{option_map_or}
use Rattle.std.specs.Ordering.{nat_cmp}
use Rattle.std.specs.BTreeMap.{BTreeMap, get_by}
use Rattle.std.specs.BTreeSet.{BTreeSet, contains_by}
use Rattle.std.specs.Cmp.Lexicographic.{slice_cmp}
use Rattle.merlin_model.specs.declared.policy.Bound.{Bound}
use Rattle.merlin_model.specs.declared.policy.Bound.TheVariants.{Max, Min}
use Rattle.merlin_model.specs.declared.policy.Term.{Term}
use Rattle.merlin_model.specs.Rates.{share_in}
use Rattle.localise.specs.declared.limits.Limits.{Limits}
use Rattle.localise.specs.declared.localising.Rates.{Rates}
use Rattle.localise.specs.declared.fault.RateFault.{RateFault}
use Rattle.localise.specs.Localised.{min_for, max_for}
use Rattle.localise.specs.Faults.{conflicts_among}
use denote.Ref.{Bor}

-- no limits
abbrev pub unlimited : Limits
unlimited = record { floor = 0; cap = None }

-- what a share under one kind of bound asks, if there is one
abbrev pub limits_from : Option ℕ → Bound → Limits
limits_from None bound = unlimited
limits_from (Some share) Max = record { floor = 0; cap = Some share }
limits_from (Some share) Min = record { floor = share; cap = None }

-- the lesser of two caps, where there are two
abbrev pub lesser : Option ℕ → Option ℕ → Option ℕ
lesser None other = other
lesser (Some one) other = Some (option_map_or (min one) other one)

-- the limits that ask both
abbrev pub together : Limits → Limits → Limits
together one other = record { floor = max one.floor other.floor; cap = lesser one.cap other.cap }

-- what one term asks of an id
abbrev pub limits_in : List ℕ → Term → Limits
limits_in id term = limits_from (share_in id term) term.bound

-- what some terms ask of an id
abbrev pub limits_of : List Term → List ℕ → Limits
limits_of terms id = record { floor = min_for terms id; cap = max_for terms id }

-- what a table holds under an id
abbrev pub held_for : BTreeMap (Bor (List ℕ)) Limits → List ℕ → Option Limits
held_for table id = get_by (λ key. slice_cmp nat_cmp id key.now) table

abbrev pub is_held : BTreeMap (Bor (List ℕ)) Limits → List ℕ → Bool
is_held table id = is_some (held_for table id)

abbrev pub limits_at : Option Limits → Limits
limits_at limits = unwrap_or limits unlimited

-- the rates that a table gives to some ids
abbrev pub rates_at : (List ℕ → Option Limits) → List (List ℕ) → Rates
rates_at held ids = record { min = map (λ id. (limits_at (held id)).floor) ids; max = map (λ id. (limits_at (held id)).cap) ids }

-- the conflicts between these rates
abbrev pub conflicts_at : (List ℕ → Option Limits) → List (List ℕ) → List RateFault
conflicts_at held ids = conflicts_among (λ id. (limits_at (held id)).floor) (λ id. (limits_at (held id)).cap) ids

-- a name is among those that were met
abbrev pub has_met : BTreeSet (Bor (List ℕ)) → List ℕ → Bool
has_met met name = contains_by (λ key. slice_cmp nat_cmp name key.now) met
