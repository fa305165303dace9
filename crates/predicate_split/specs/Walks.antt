-- What a walk over the classes keeps.
use Rattle.std.specs.Prelude.{ℕ, ◌≡◌, ◌<◌, ◌≤◌, ◌-◌, ◌*◌, ◌^◌, ◌⊎◌, ⊤, true, List, [], ◌∷◌, map, drop}
use Rattle.std.specs.List.{flat_map}
use Rattle.merlin_model.specs.declared.policy.Field.{Field}
use Rattle.merlin_model.specs.declared.policy.Field.TheVariants.{Proto}
use Rattle.merlin_model.specs.declared.policy.Test.{Test}
use Rattle.merlin_model.specs.declared.policy.Test.TheVariants.{Is, Port, Within}
use Rattle.merlin_model.specs.declared.policy.Pred.{Pred}
use Rattle.merlin_model.specs.Packets.{Packet, IsPacket, field_of}
use Rattle.merlin_model.specs.Predicates.{holds, first_bits, IsInRange, IsPort, IsAddress}
use Rattle.merlin_model.proofs.Members.{In}
use Rattle.packet_model.specs.Fields.{has_ports}
use Rattle.predicate_logic.specs.Mentions.{tests_of}
use Rattle.packet_model.specs.Texts.{all_fields}

-- the fields from some place on
abbrev pub IsRest : List Field → Type 0
IsRest fs = (k : ℕ) × (k ≤ 7) × (fs ≡ drop k all_fields)

-- A test that may be left in a residue while these fields are not fixed: it names only such fields, with values in their ranges,
-- and names a port alone only once the protocol is fixed at one that has ports.
abbrev pub IsFresh : List Field → ℕ → Test → Type 0
IsFresh fs proto (Is f n) = In f fs × IsInRange f n × (IsPort f → (¬ In Proto fs) × (has_ports proto ≡ true))
IsFresh fs proto (Port q f n) = In Proto fs × In f fs × ((q ≡ 6) ⊎ (q ≡ 17)) × IsPort f × (n < 2 ^ 16)
IsFresh fs proto (Within f n length) = In f fs × IsAddress f × (length ≤ 31) × IsInRange f n × (n ≡ first_bits length n * 2 ^ (32 - length))

abbrev pub AreFresh : List Field → ℕ → List Pred → Type 0
AreFresh fs proto preds = (t : Test) → In t (flat_map tests_of preds) → IsFresh fs proto t

-- a packet whose fields from these on are not fixed yet
abbrev pub IsUnfixed : List Field → Packet → Type 0
IsUnfixed fs p = (f : Field) → In f fs → field_of f p ≡ 0

-- the packets agree on the fields that are fixed
abbrev pub IsKept : List Field → Packet → Packet → Type 0
IsKept fs p c = (f : Field) → (¬ In f fs) → field_of f c ≡ field_of f p

-- the values of the fields, in order
abbrev pub values_of : List Field → Packet → List ℕ
values_of fs p = map (λ f. field_of f p) fs

-- the one list comes before the other, or is it: the first numbers that differ decide
abbrev pub IsNotAfter : List ℕ → List ℕ → Type 0
IsNotAfter [] ys = ⊤
IsNotAfter (x ∷ xs) [] = ⊥
IsNotAfter (x ∷ xs) (y ∷ ys) = (x < y) ⊎ ((x ≡ y) × IsNotAfter xs ys)

-- the predicate holds of the packet
abbrev pub HoldsAt : Pred → Packet → Type 0
HoldsAt pred p = holds pred p ≡ true

-- the predicate holds of no packet
abbrev pub HoldsNowhere : Pred → Type 0
HoldsNowhere pred = (q : Packet) → IsPacket q → HoldsAt pred q → ⊥

-- the predicate holds here, with the fields that are fixed, and of no packet that is less in the others
pub record IsLeastFrom (fs : List Field) (p : Packet) (pred : Pred) (c : Packet) : Type 0 where
  pub meets : holds pred c ≡ true
  pub kept : IsKept fs p c
  pub least : (q : Packet) → IsPacket q → holds pred q ≡ true → IsNotAfter (values_of fs c) (values_of fs q)
