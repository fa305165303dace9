-- Why a formula gives no rates to some ids: its faults, in the order in which they count.
use Rattle.std.specs.Prelude.{ℕ, ◌≡◌, nat_lt, Bool, not, ◌&&◌, ⊤, List, ◌++◌, map, filter, flat_map, filter_map, take, Option, None, Some, slice_get, bytes_eq, sum_by, if◌then◌else◌}
use Rattle.std.specs.List.{enumerate_from, list_any}
use Rattle.merlin_model.specs.declared.policy.Term.{Term}
use Rattle.merlin_model.specs.Rates.{ids_of, constant_of_part, is_max}
use Rattle.localise.specs.declared.fault.RateFault.{RateFault}
use Rattle.localise.specs.declared.fault.RateFault.TheVariants.{UnknownId, RepeatedId, ConstantTooLarge, LocalisedConflict, OutOfMemory}
use Rattle.localise.specs.Localised.{min_for, max_for}

-- whether a name is among some names
abbrev pub is_among : List (List ℕ) → List ℕ → Bool
is_among names name = list_any (λ other. bytes_eq other name) names

-- the ids of a term that are not known, in their order
abbrev pub unknown_in : (List ℕ → Bool) → Term → List (List ℕ)
unknown_in is_known term = filter (λ id. not (is_known id)) (ids_of term)

abbrev pub unknown_ids : (List ℕ → Bool) → List Term → List (List ℕ)
unknown_ids is_known terms = flat_map (unknown_in is_known) terms

-- whether a name with its place stands before that place
abbrev pub is_repeated_at : List (List ℕ) → ℕ × List ℕ → Bool
is_repeated_at names name = is_among (take name.0 names) name.1

-- the names that stand before their places
abbrev pub repeats_in : List (List ℕ) → List (List ℕ)
repeats_in names = map (λ name. name.1) (filter (is_repeated_at names) (enumerate_from 0 names))

-- the ids that stand before their places in one term
abbrev pub repeated_ids : List Term → List (List ℕ)
repeated_ids terms = flat_map (λ term. repeats_in (ids_of term)) terms

-- whether the constants of a `max` term sum above its rate
abbrev pub has_large_constants : Term → Bool
has_large_constants term = is_max term.bound && nat_lt term.rate (sum_by constant_of_part term.parts)

-- the numbers, from 1, of such terms
abbrev pub large_terms : List Term → List ℕ
large_terms terms = map (λ t. t.0) (filter (λ t. has_large_constants t.1) (enumerate_from 1 terms))

-- the conflict of an id with these rates, if the least exceeds the most
abbrev pub conflict_of : List ℕ → ℕ → Option ℕ → Option RateFault
conflict_of id least None = None
conflict_of id least (Some most) = if nat_lt most least then Some (LocalisedConflict id least most) else None

-- the conflicts of some ids whose rates are these
abbrev pub conflicts_among : (List ℕ → ℕ) → (List ℕ → Option ℕ) → List (List ℕ) → List RateFault
conflicts_among least most ids = filter_map (λ id. conflict_of id (least id) (most id)) ids

-- all faults: ids that are unknown, ids that are repeated, constants that are too large, rates that conflict
abbrev pub faults : List Term → List (List ℕ) → List RateFault
faults terms ids =
    map UnknownId (unknown_ids (is_among ids) terms)
    ++ (map RepeatedId (repeated_ids terms)
    ++ (map ConstantTooLarge (large_terms terms)
    ++ conflicts_among (min_for terms) (max_for terms) ids))

-- A part of the work fails for want of memory, or with the first of these faults.
abbrev pub IsFirst : List RateFault → RateFault → Type 0
IsFirst all (UnknownId id) = slice_get all 0 ≡ Some (UnknownId id)
IsFirst all (RepeatedId id) = slice_get all 0 ≡ Some (RepeatedId id)
IsFirst all (ConstantTooLarge term) = slice_get all 0 ≡ Some (ConstantTooLarge term)
IsFirst all (LocalisedConflict id least most) = slice_get all 0 ≡ Some (LocalisedConflict id least most)
IsFirst all OutOfMemory = ⊤
