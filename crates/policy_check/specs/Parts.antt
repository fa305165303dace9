-- Why a part of the work fails: the rules that this part asks, in their order.
use Rattle.std.specs.Prelude.{ℕ, ◌≡◌, ◌≤◌, ⊤, List, [], Some, slice_get}
use Rattle.std.specs.List.{slice_index_or}
use Rattle.merlin_model.specs.Packets.{Packet}
use Rattle.predicate_split.specs.declared.fault.TheConstants.{MAX_CLASSES}
use Rattle.predicate_split.specs.declared.fault.SplitFault.TheVariants as split
use Rattle.predicate_split.specs.Refusals.{classes_in, RefusesClasses}
use Rattle.policy_expansion.specs.declared.policy.Policy.{Policy}
use Rattle.localise.specs.Localised.{localised}
use Rattle.policy_check.specs.declared.checking.Judged.{Judged}
use Rattle.policy_check.specs.declared.fault.CheckFault.{CheckFault}
use Rattle.policy_check.specs.declared.fault.CheckFault.TheVariants.{TooManyClasses, Overlap, NotTotal, Rate, OutOfMemory}
use Rattle.policy_check.specs.Rules.{listed_ids, listed_preds, HasApartPreds, LeavesNothing, rate_faults, IsOverlapOf, IsLeftOut}

-- the refusal of two statements by their places
abbrev pub overlap_at : List (List ℕ) → ℕ → ℕ → Packet → CheckFault
overlap_at ids i j packet = Overlap (slice_index_or ids i []) (slice_index_or ids j []) packet

abbrev pub BreaksApartness : Policy → CheckFault → Type 0
BreaksApartness raw (TooManyClasses count) = RefusesClasses (listed_preds raw) (split.TooManyClasses count)
BreaksApartness raw (Overlap first second packet) = (classes_in (listed_preds raw) ≤ MAX_CLASSES) × IsOverlapOf raw first second packet
BreaksApartness raw OutOfMemory = ⊤
BreaksApartness raw _ = ⊥

abbrev pub BreaksTotality : Policy → CheckFault → Type 0
BreaksTotality raw (NotTotal packet) = IsLeftOut raw packet
BreaksTotality raw OutOfMemory = ⊤
BreaksTotality raw _ = ⊥

abbrev pub BreaksPredicatesOrRates : Policy → CheckFault → Type 0
BreaksPredicatesOrRates raw (TooManyClasses count) = BreaksApartness raw (TooManyClasses count)
BreaksPredicatesOrRates raw (Overlap first second packet) = BreaksApartness raw (Overlap first second packet)
BreaksPredicatesOrRates raw (NotTotal packet) = HasApartPreds raw × IsLeftOut raw packet
BreaksPredicatesOrRates raw (Rate fault) = HasApartPreds raw × LeavesNothing raw × (slice_get (rate_faults raw) 0 ≡ Some fault)
BreaksPredicatesOrRates raw OutOfMemory = ⊤
BreaksPredicatesOrRates raw _ = ⊥

-- the lists of a policy whose predicates and formula are as they must be, with its rates
pub record IsJudged (raw : Policy) (judged : Judged) : Type 0 where
  pub ids : judged.listing.ids ≡ listed_ids raw
  pub preds : judged.listing.preds ≡ listed_preds raw
  pub rates : judged.rates ≡ localised raw.formula.terms (listed_ids raw)
  pub apart : HasApartPreds raw
  pub total : LeavesNothing raw
  pub clear : rate_faults raw ≡ []
