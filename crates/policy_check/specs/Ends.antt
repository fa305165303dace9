-- The ends of the guaranteed statements of a policy, and why there are none.
use Rattle.std.specs.Prelude.{ℕ, suc, ◌≡◌, ◌<◌, ◌≤◌, ◌+◌, ◌⊎◌, ◌↔◌, ⊤, nat_lt, List, [], ◌∷◌, Contains, length, Some, slice_get, if◌then◌else◌}
use Rattle.std.specs.List.Sorted.{IsStrictlyIncreasing}
use Rattle.merlin_model.specs.declared.policy.Ends.{Ends}
use Rattle.merlin_model.specs.Networks.{Network}
use Rattle.merlin_model.specs.Policies.{Policy}
use Rattle.merlin_model.specs.Rates.{IsGuaranteed}
use Rattle.merlin_model.specs.Assignments.{HasTraffic, AreTheEnds}
use Rattle.rate_formula.specs.Usage.{ids_in}
use Rattle.policy_check.specs.declared.guarantees.TheConstants.{MAX_GUARANTEES}
use Rattle.policy_check.specs.declared.fault.EndsFault.{EndsFault}
use Rattle.policy_check.specs.declared.fault.EndsFault.TheVariants.{TooManyGuarantees, NoEnds, ManyEnds, OutOfMemory}
use Rattle.policy_check.specs.Traffic.{IsPairBefore}

-- the guaranteed statements, in their order
pub record AreGuaranteed (policy : Policy) (places : List ℕ) : Type 0 where
  pub ascending : IsStrictlyIncreasing places
  pub exactly : (i : ℕ) → Contains places i ↔ IsGuaranteed policy i

abbrev pub HasFewGuarantees : Policy → Type 0
HasFewGuarantees policy = (places : List ℕ) × AreGuaranteed policy places × (length places ≤ MAX_GUARANTEES)

abbrev pub HasManyGuarantees : Policy → Type 0
HasManyGuarantees policy = (places : List ℕ) × AreGuaranteed policy places × (MAX_GUARANTEES < length places)

module _ (net : Network) (policy : Policy) where
  -- the ends of a statement
  abbrev pub AreEndsOf : ℕ → Ends → Type 0
  AreEndsOf i ends = (ends.statement ≡ i) × AreTheEnds net policy ends

  abbrev pub HasEnds : ℕ → Type 0
  HasEnds i = (ends : Ends) × AreEndsOf i ends

  -- no two hosts have traffic of the statement
  abbrev pub HasNoTraffic : ℕ → Type 0
  HasNoTraffic i = (s d : ℕ) → HasTraffic net policy i s d → ⊥

  -- of the pairs of hosts with traffic of the statement these are the first two, by the numbers of their locations
  pub record HasFirstPairs (first second : ℕ × ℕ) (i : ℕ) : Type 0 where
    pub has_first : HasTraffic net policy i first.0 first.1
    pub has_second : HasTraffic net policy i second.0 second.1
    pub before : IsPairBefore first second
    pub others : (s d : ℕ) → HasTraffic net policy i s d → ((s, d) ≡ first) ⊎ ((s, d) ≡ second) ⊎ IsPairBefore second (s, d)

  -- the fault of a guaranteed statement
  abbrev pub BreaksEndsAt : ℕ → EndsFault → Type 0
  BreaksEndsAt i (NoEnds id) = (slice_get (ids_in policy) i ≡ Some id) × HasNoTraffic i
  BreaksEndsAt i (ManyEnds id first second) = (slice_get (ids_in policy) i ≡ Some id) × HasFirstPairs first second i
  BreaksEndsAt i OutOfMemory = ⊤
  BreaksEndsAt i (TooManyGuarantees count) = ⊥

  -- of the guaranteed statements this is the first with a fault
  pub record IsFirstWithoutEnds (fault : EndsFault) : Type 0 where
    pub few : HasFewGuarantees policy
    pub statement : ℕ
    pub guaranteed : IsGuaranteed policy statement
    pub before : (i : ℕ) → i < statement → IsGuaranteed policy i → HasEnds i
    pub at_fault : BreaksEndsAt statement fault

  -- Why there are no ends: too many guarantees, counted up to one past the limit; else the first guaranteed statement that no two hosts have traffic of,
  -- or more than one pair. Want of memory has no cause.
  abbrev pub BreaksEnds : EndsFault → Type 0
  BreaksEnds (TooManyGuarantees count) = HasManyGuarantees policy × (count ≡ MAX_GUARANTEES + 1)
  BreaksEnds (NoEnds id) = IsFirstWithoutEnds (NoEnds id)
  BreaksEnds (ManyEnds id first second) = IsFirstWithoutEnds (ManyEnds id first second)
  BreaksEnds OutOfMemory = ⊤

-- the places, from n on, of the rates above 0
abbrev pub places_above : ℕ → List ℕ → List ℕ
places_above n [] = []
places_above n (rate ∷ rest) = if nat_lt 0 rate then n ∷ places_above (suc n) rest else places_above (suc n) rest
