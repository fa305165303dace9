-- Why a child does not stand in the place of its parent, rule by rule in their order.
use Rattle.std.specs.Prelude.{ℕ, zero, suc, ◌≡◌, ◌≤◌, ◌<◌, ◌+◌, ⊤, List, sum_by, Contains, Some}
use Rattle.merlin_model.specs.declared.policy.Bound.TheVariants.{Max, Min}
use Rattle.merlin_model.specs.declared.policy.Symbol.{Symbol}
use Rattle.merlin_model.specs.declared.policy.Term.{Term}
use Rattle.merlin_model.specs.Packets.{Packet}
use Rattle.merlin_model.specs.Networks.{Network}
use Rattle.merlin_model.specs.Policies.{Policy}
use Rattle.merlin_model.specs.Rates.{ids_of, amount_of, rate_of_id, max_of, min_of}
use Rattle.predicate_split.specs.declared.fault.TheConstants.{MAX_CELLS}
use Rattle.refinement_model.specs.Refinement.{Refines, IsIn, IsAllowedTraffic, rate_of}
use Rattle.negotiator.specs.declared.fault.RefineFault.{RefineFault}
use Rattle.negotiator.specs.declared.fault.RefineFault.TheVariants.{TooManyCells, PathWider, CapWider, ReserveWider, OutOfMemory}
use Rattle.negotiator.specs.CellCounts.{HasFewCellsTogether}
use Rattle.negotiator.specs.Wider.{IsWidePath, KeepsPaths}
use Rattle.negotiator.specs.Amounts.{KeepsAllCaps, KeepsAllReserves, IsWideCap, IsFirstWideCap, IsWideReserve, IsFirstWideReserve, IsFirstOutside}

-- more cells than there is room for; the count is one past the limit
abbrev pub PassesRoom : ℕ → ℕ → RefineFault → Type 0
PassesRoom cells room (TooManyCells count) = (room < cells) × (count ≡ MAX_CELLS + 1)
PassesRoom cells room OutOfMemory = ⊤
PassesRoom cells room fault = ⊥

module _ (net : Network) (parent child : Policy) where
  -- What one rule refuses, of one term by its number and then of all. Terms are numbered from 1. Want of memory has no cause.

  abbrev pub RefusesCap : ℕ → Term → RefineFault → Type 0
  RefusesCap number term (CapWider n sum) = (n ≡ number) × IsWideCap net parent child term sum
  RefusesCap number term OutOfMemory = ⊤
  RefusesCap number term fault = ⊥

  abbrev pub RefusesCaps : RefineFault → Type 0
  RefusesCaps (CapWider zero sum) = ⊥
  RefusesCaps (CapWider (suc place) sum) = IsFirstWideCap net parent child place sum
  RefusesCaps OutOfMemory = ⊤
  RefusesCaps fault = ⊥

  abbrev pub RefusesReserve : ℕ → Term → RefineFault → Type 0
  RefusesReserve number term (ReserveWider n sum) = (n ≡ number) × IsWideReserve net parent child term sum
  RefusesReserve number term OutOfMemory = ⊤
  RefusesReserve number term fault = ⊥

  abbrev pub RefusesReserves : RefineFault → Type 0
  RefusesReserves (ReserveWider zero sum) = ⊥
  RefusesReserves (ReserveWider (suc place) sum) = IsFirstWideReserve net parent child place sum
  RefusesReserves OutOfMemory = ⊤
  RefusesReserves fault = ⊥

  -- the number of no term
  abbrev pub RefusesOutside : RefineFault → Type 0
  RefusesOutside (ReserveWider zero sum) = IsFirstOutside net parent child sum
  RefusesOutside OutOfMemory = ⊤
  RefusesOutside fault = ⊥

  -- The first rule that fails: those before it hold.
  abbrev pub RefusesAmounts : RefineFault → Type 0
  RefusesAmounts (CapWider number sum) = RefusesCaps (CapWider number sum)
  RefusesAmounts (ReserveWider zero sum) = KeepsAllCaps net parent child × KeepsAllReserves net parent child × IsFirstOutside net parent child sum
  RefusesAmounts (ReserveWider (suc place) sum) = KeepsAllCaps net parent child × IsFirstWideReserve net parent child place sum
  RefusesAmounts OutOfMemory = ⊤
  RefusesAmounts fault = ⊥

  abbrev pub RefusesRules : List Symbol → RefineFault → Type 0
  RefusesRules symbols (PathWider packet word) = IsWidePath net parent child symbols (record { packet = packet; word = word })
  RefusesRules symbols (CapWider number sum) = KeepsPaths net parent child × RefusesAmounts (CapWider number sum)
  RefusesRules symbols (ReserveWider number sum) = KeepsPaths net parent child × RefusesAmounts (ReserveWider number sum)
  RefusesRules symbols OutOfMemory = ⊤
  RefusesRules symbols fault = ⊥

  abbrev pub RefusesChild : List Symbol → RefineFault → Type 0
  RefusesChild symbols (TooManyCells count) = (¬ HasFewCellsTogether net parent child) × (count ≡ MAX_CELLS + 1)
  RefusesChild symbols OutOfMemory = ⊤
  RefusesChild symbols fault = HasFewCellsTogether net parent child × RefusesRules symbols fault

  -- the child refines the parent, and the cells are within their limit
  pub record IsRefinement : Type 0 where
    pub few : HasFewCellsTogether net parent child
    pub refines : Refines net parent child

  -- What that means for traffic that the child allows. Where each statement keeps to its maximum, each `max` term of the parent is kept. Where each keeps to
  -- its minimum, the parent's `min` terms hold it, and a statement outside these terms has none of it.
  pub record KeepsTerms (traffic : List (Packet × ℕ)) : Type 0 where
    pub caps : ((i m : ℕ) → max_of child i ≡ Some m → rate_of child traffic i ≤ m) → (term : Term) → Contains parent.terms term → term.bound ≡ Max →
        sum_by (rate_of_id parent traffic) (ids_of term) ≤ amount_of term
    pub reserves : ((i : ℕ) → rate_of child traffic i ≤ min_of child i) → (term : Term) → Contains parent.terms term → term.bound ≡ Min →
        sum_by (rate_of_id parent traffic) (ids_of term) ≤ amount_of term
    pub outside : ((i : ℕ) → rate_of child traffic i ≤ min_of child i) → (j : ℕ) → ((term : Term) → Contains parent.terms term → term.bound ≡ Min → ¬ IsIn parent term j) →
        rate_of parent traffic j ≡ 0

  abbrev pub KeepsUsages : Type 0
  KeepsUsages = (traffic : List (Packet × ℕ)) → IsAllowedTraffic net child traffic → KeepsTerms traffic
