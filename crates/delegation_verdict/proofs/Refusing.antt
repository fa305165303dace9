-- A rule of refinement that fails keeps the child from refining its parent.
use Rattle.std.proofs.Common.{ℕ, zero, suc, ◌≡◌, ◌≢◌, ◌≤◌, ◌↔◌, List, sum_by, slice_get, Contains, Option, Some, refl, sym, subst, arith}
use Rattle.merlin_model.specs.declared.policy.Symbol.{Symbol}
use Rattle.merlin_model.specs.declared.policy.Term.{Term}
use Rattle.merlin_model.specs.Networks.{Network}
use Rattle.merlin_model.specs.Policies.{Policy}
use Rattle.merlin_model.specs.Rates.{amount_of, min_of}
use Rattle.merlin_model.proofs.Members.{in_to}
use Rattle.path_automaton.proofs.Building.{get-in}
use Rattle.refinement_model.specs.Refinement.{Refines, AreTouching, KeepsCap, KeepsReserve, IsAtMost, sum_of_caps}
use Rattle.negotiator.specs.declared.fault.RefineFault.{RefineFault}
use Rattle.negotiator.specs.declared.fault.RefineFault.TheVariants as faults
use Rattle.negotiator.specs.Amounts.{IsFirstWideCap, IsFirstWideReserve, IsFirstOutside}
use Rattle.negotiator.specs.Refusals.{RefusesRules}

-- What is known of sums, from the laws on them.
pub record KnownSums : Type 0 where
  pub caps : (net : Network) (parent child : Policy) (term : Term) (touching : List ℕ) → AreTouching net parent child term touching →
      KeepsCap net parent child term ↔ IsAtMost (sum_of_caps child touching) (amount_of term)
  pub reserves : (net : Network) (parent child : Policy) (term : Term) (touching : List ℕ) → AreTouching net parent child term touching →
      KeepsReserve net parent child term ↔ (sum_by (min_of child) touching ≤ amount_of term)

contained : (terms : List Term) (place : ℕ) (term : Term) → slice_get terms place ≡ Some term → Contains terms term
contained terms place term stands = in_to terms term (get-in terms place term stands)

module _ (known : KnownSums) (net : Network) (parent child : Policy) (refines : Refines net parent child) where
  no_wide_cap : (place : ℕ) (sum : Option ℕ) → IsFirstWideCap net parent child place sum → ⊥
  no_wide_cap place sum first =
      let wide = first.wide in
      let keeps = refines.caps first.term (contained parent.terms place first.term first.stands) wide.is_max in
      let within = (known.caps net parent child first.term wide.touching wide.are_touching).0 keeps in
      wide.wide (subst (λ s. IsAtMost s (amount_of first.term)) (sym wide.sum_is) within)

  no_wide_reserve : (place sum : ℕ) → IsFirstWideReserve net parent child place sum → ⊥
  no_wide_reserve place sum first =
      let wide = first.wide in
      let keeps = refines.reserves first.term (contained parent.terms place first.term first.stands) wide.is_min in
      let within = (known.reserves net parent child first.term wide.touching wide.are_touching).0 keeps in
      let above = wide.wide in
      let is = wide.sum_is in
      omega (arith, within, above, is)

  no_outside : (sum : ℕ) → IsFirstOutside net parent child sum → ⊥
  no_outside sum first = let out = first.outside in out.unreserved (refines.outside first.statement out.touched out.guaranteed out.touches)

  pub no-rule : (symbols : List Symbol) (fault : RefineFault) → fault ≢ faults.OutOfMemory → RefusesRules net parent child symbols fault → ⊥
  no-rule symbols (faults.TooManyCells count) real h = h
  no-rule symbols (faults.PathWider packet word) real h =
      let stray = h.word.stray in
      stray.2 (refines.path packet stray.0 word h.packet.is_packet stray.1)
  no-rule symbols (faults.CapWider zero sum) real (paths, h) = h
  no-rule symbols (faults.CapWider (suc place) sum) real (paths, h) = no_wide_cap place sum h
  no-rule symbols (faults.ReserveWider zero sum) real (paths, h) = no_outside sum h.2
  no-rule symbols (faults.ReserveWider (suc place) sum) real (paths, h) = no_wide_reserve place sum h.1
  no-rule symbols faults.OutOfMemory real h = real refl
