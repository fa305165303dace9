-- Predicates where a field has a value of a stretch.
use Rattle.std.specs.Prelude.{◌≡◌, ◌≤◌, ◌<◌, List}
use Rattle.std.specs.List.{list_all, list_any}
use Rattle.merlin_model.specs.declared.policy.Pred.{Pred}
use Rattle.merlin_model.specs.Packets.{Packet, field_of}
use Rattle.merlin_model.specs.Predicates.{holds}
use Rattle.predicate_split.specs.declared.stretches.Stretch.{Stretch}
use Rattle.predicate_split.specs.declared.pairs.PlacedPred.{PlacedPred}
use Rattle.predicate_split.specs.Overlaps.{holder}

-- the packet's value is of the stretch
pub record IsInStretch (stretch : Stretch) (q : Packet) : Type 0 where
  pub low : stretch.low ≤ field_of stretch.field q
  pub past : field_of stretch.field q < stretch.past

-- the same packets of the stretch are judged alike
abbrev pub HoldsAlike : Stretch → Pred → Pred → Type 0
HoldsAlike stretch rest pred = (q : Packet) → IsInStretch stretch q → holds rest q ≡ holds pred q

-- of these packets the predicate holds as all of some do, or as any does

abbrev pub HoldsAsAll : Stretch → Pred → List Pred → Type 0
HoldsAsAll stretch rest preds = (q : Packet) → IsInStretch stretch q → holds rest q ≡ list_all (λ pred. holds pred q) preds

abbrev pub HoldsAsAny : Stretch → Pred → List Pred → Type 0
HoldsAsAny stretch rest preds = (q : Packet) → IsInStretch stretch q → holds rest q ≡ list_any (λ pred. holds pred q) preds

abbrev pub HoldTogether : Stretch → List Pred → List Pred → Type 0
HoldTogether stretch rest preds = (q : Packet) → IsInStretch stretch q → list_all (λ pred. holds pred q) rest ≡ list_all (λ pred. holds pred q) preds

abbrev pub HoldAnyhow : Stretch → List Pred → List Pred → Type 0
HoldAnyhow stretch rest preds = (q : Packet) → IsInStretch stretch q → list_any (λ pred. holds pred q) rest ≡ list_any (λ pred. holds pred q) preds

-- the first of the entries that holds is the same
abbrev pub HaveSameHolder : Stretch → List PlacedPred → List PlacedPred → Type 0
HaveSameHolder stretch rest entries = (q : Packet) → IsInStretch stretch q → holder rest q ≡ holder entries q
