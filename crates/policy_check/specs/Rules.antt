-- The rules that a policy keeps over a network, in their order, and which of them a refusal says is broken.
use Rattle.std.specs.Prelude.{ℕ, ◌≡◌, ◌≤◌, ◌+◌, ⊤, List, [], map, take, length, Option, None, Some, slice_get}
use Rattle.std.specs.List.{AllByRecursion}
use Rattle.merlin_model.specs.declared.policy.Pred.{Pred}
use Rattle.merlin_model.specs.declared.policy.Path.{Path}
use Rattle.merlin_model.specs.declared.policy.Symbol.{Symbol}
use Rattle.merlin_model.specs.Packets.{Packet, IsLeastPacket}
use Rattle.merlin_model.specs.Networks.{Network}
use Rattle.localise.specs.Faults.{faults}
use Rattle.localise.specs.declared.fault.RateFault.{RateFault}
use Rattle.predicate_split.specs.declared.fault.TheConstants.{MAX_CLASSES}
use Rattle.predicate_split.specs.declared.fault.SplitFault.TheVariants as split
use Rattle.predicate_split.specs.Least.{NoneHolds, IsNowhere}
use Rattle.predicate_split.specs.Refusals.{classes_in, RefusesClasses}
use Rattle.predicate_split.specs.Overlaps.{ShareNothing, IsLeastOverlap}
use Rattle.path_automaton.specs.States.{AreStates, HasStates}
use Rattle.path_automaton.specs.declared.exploring.TheConstants.{MAX_STATES}
use Rattle.policy_grammar.specs.NumberedPaths.{numbered}
use Rattle.policy_expansion.specs.declared.policy.Policy.{Policy}
use Rattle.policy_names.specs.declared.fault.NameFault.TheVariants as names
use Rattle.policy_names.specs.Names.{meaning_of, raw_paths, name_faults}
use Rattle.policy_check.specs.declared.fault.CheckFault.{CheckFault}
use Rattle.policy_check.specs.declared.fault.CheckFault.TheVariants.{UnknownName, FunctionUnderNot, TooManyClasses, Overlap, NotTotal, Rate, TooManyStates, OutOfMemory}

abbrev pub listed_ids : Policy → List (List ℕ)
listed_ids raw = map (λ s. s.id) raw.statements

abbrev pub listed_preds : Policy → List Pred
listed_preds raw = map (λ s. s.pred) raw.statements

-- each predicate holds of no packet of another
pub record HasApartPreds (raw : Policy) : Type 0 where
  pub few : classes_in (listed_preds raw) ≤ MAX_CLASSES
  pub apart : ShareNothing (listed_preds raw)

-- there is a default, or some predicate holds of each packet
abbrev pub LeavesNothing : Policy → Type 0
LeavesNothing raw = raw.default_path ≡ None → IsNowhere (NoneHolds (listed_preds raw))

abbrev pub rate_faults : Policy → List RateFault
rate_faults raw = faults raw.formula.terms (listed_ids raw)

-- the path has its states within the limit
pub record HasFewStates (symbols : List Symbol) (path : Path) : Type 0 where
  pub forms : List Path
  pub states : AreStates path symbols forms
  pub few : length forms ≤ MAX_STATES

abbrev pub numbered_paths_of : Network → Policy → List Path
numbered_paths_of net raw = map (numbered (meaning_of net)) (raw_paths raw)

-- What is so of a policy once the rules up to here are kept.

abbrev pub HasMeanings : Network → Policy → Type 0
HasMeanings net raw = name_faults (meaning_of net) (raw_paths raw) ≡ []

pub record IsApart (net : Network) (raw : Policy) : Type 0 where
  pub named : HasMeanings net raw
  pub preds : HasApartPreds raw

pub record IsCovering (net : Network) (raw : Policy) : Type 0 where
  pub apart : IsApart net raw
  pub total : LeavesNothing raw

pub record HasRates (net : Network) (raw : Policy) : Type 0 where
  pub covering : IsCovering net raw
  pub rates : rate_faults raw ≡ []

pub record KeepsAllRules (net : Network) (symbols : List Symbol) (raw : Policy) : Type 0 where
  pub rated : HasRates net raw
  pub states : AllByRecursion (HasFewStates symbols) (numbered_paths_of net raw)

-- Which rule is broken.

-- the predicates of these two statements are the first that share a packet, and this is the least
pub record IsOverlapOf (raw : Policy) (first second : List ℕ) (packet : Packet) : Type 0 where
  pub i : ℕ
  pub j : ℕ
  pub least : IsLeastOverlap (listed_preds raw) i j packet
  pub first_id : slice_get (listed_ids raw) i ≡ Some first
  pub second_id : slice_get (listed_ids raw) j ≡ Some second

-- the least packet of which no predicate holds, where there is no default
pub record IsLeftOut (raw : Policy) (packet : Packet) : Type 0 where
  pub no_default : raw.default_path ≡ None
  pub least : IsLeastPacket (NoneHolds (listed_preds raw)) packet

-- the path at this place is the first with more states than there may be
pub record IsFirstLarge (symbols : List Symbol) (paths : List Path) (place count : ℕ) : Type 0 where
  pub path : Path
  pub has : slice_get paths place ≡ Some path
  pub before : AllByRecursion (HasFewStates symbols) (take place paths)
  pub count_is : count ≡ MAX_STATES + 1
  pub many : HasStates path symbols count

-- The path of the statement of this id is the first with too many states. The default, which has no id, stands behind the statements.
pub record IsLargeAt (net : Network) (symbols : List Symbol) (raw : Policy) (id : Option (List ℕ)) (count : ℕ) : Type 0 where
  pub place : ℕ
  pub id_is : id ≡ slice_get (listed_ids raw) place
  pub first : IsFirstLarge symbols (numbered_paths_of net raw) place count

-- The refusal names the first rule that is broken: the rules before it are kept. Want of memory has no cause.
abbrev pub BreaksRule : Network → List Symbol → Policy → CheckFault → Type 0
BreaksRule net symbols raw (UnknownName name) =
    slice_get (name_faults (meaning_of net) (raw_paths raw)) 0 ≡ Some (names.UnknownName name)
BreaksRule net symbols raw (FunctionUnderNot name) =
    slice_get (name_faults (meaning_of net) (raw_paths raw)) 0 ≡ Some (names.FunctionUnderNot name)
BreaksRule net symbols raw (TooManyClasses count) =
    HasMeanings net raw × RefusesClasses (listed_preds raw) (split.TooManyClasses count)
BreaksRule net symbols raw (Overlap first second packet) =
    HasMeanings net raw × (classes_in (listed_preds raw) ≤ MAX_CLASSES) × IsOverlapOf raw first second packet
BreaksRule net symbols raw (NotTotal packet) = IsApart net raw × IsLeftOut raw packet
BreaksRule net symbols raw (Rate fault) = IsCovering net raw × (slice_get (rate_faults raw) 0 ≡ Some fault)
BreaksRule net symbols raw (TooManyStates id count) = HasRates net raw × IsLargeAt net symbols raw id count
BreaksRule net symbols raw OutOfMemory = ⊤
