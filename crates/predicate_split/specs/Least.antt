-- The least packet at which all of some predicates hold, or none does.
use Rattle.std.specs.Prelude.{◌≡◌, true, false, List}
use Rattle.std.specs.List.{AllByRecursion}
use Rattle.merlin_model.specs.declared.policy.Pred.{Pred}
use Rattle.merlin_model.specs.Packets.{Packet, IsPacket}
use Rattle.merlin_model.specs.Predicates.{holds}

-- each of the predicates holds of the packet
abbrev pub AllHold : List Pred → Packet → Type 0
AllHold preds p = AllByRecursion (λ pred. holds pred p ≡ true) preds

-- none of the predicates holds of the packet
abbrev pub NoneHolds : List Pred → Packet → Type 0
NoneHolds preds p = AllByRecursion (λ pred. holds pred p ≡ false) preds

-- no packet has the property
abbrev pub IsNowhere : (Packet → Type 0) → Type 0
IsNowhere Has = (q : Packet) → IsPacket q → Has q → ⊥
