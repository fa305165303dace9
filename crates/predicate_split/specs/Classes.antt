-- Value classes: packets that the predicates do not tell apart.
use Rattle.std.specs.Prelude.{ℕ, Bool, ◌||◌, List, [], ◌∷◌, sum_by, if◌then◌else◌}
use Rattle.std.specs.List.{flat_map, list_all}
use Rattle.merlin_model.specs.declared.policy.Field.{Field}
use Rattle.merlin_model.specs.declared.policy.Field.TheVariants.{Proto}
use Rattle.merlin_model.specs.declared.policy.Pred.{Pred}
use Rattle.merlin_model.specs.Packets.{Packet}
use Rattle.packet_model.specs.Fields.{replace}
use Rattle.packet_model.specs.Texts.{all_fields}
use Rattle.predicate_logic.specs.Residues.{is_yes, is_no, residues}
use Rattle.predicate_split.specs.Parts.{field_parts}

abbrev pub is_decided : Pred → Bool
is_decided pred = is_yes pred || is_no pred

-- The classes of the predicates once the packet's fields before these are fixed, each by its least packet: where the predicates
-- are Yes and No there is one, and where not the next field is split. A field that is not fixed yet is 0.
abbrev pub classes : List Field → Packet → List Pred → List Packet
classes [] p preds = p ∷ []
classes (f ∷ fs) p preds = if list_all is_decided preds then p ∷ [] else flat_map (λ v. classes fs (replace f v p) (residues f v preds)) (field_parts f p.proto preds)

-- the protocol once a field is fixed
abbrev pub proto_with : Field → ℕ → ℕ → ℕ
proto_with Proto v proto = v
proto_with _ v proto = proto

-- how many classes there are
abbrev pub class_count : List Field → ℕ → List Pred → ℕ
class_count [] proto preds = 1
class_count (f ∷ fs) proto preds = if list_all is_decided preds then 1 else sum_by (λ v. class_count fs (proto_with f v proto) (residues f v preds)) (field_parts f proto preds)

abbrev pub zero_packet : Packet
zero_packet = record { eth_src = 0; eth_dst = 0; ip_src = 0; ip_dst = 0; proto = 0; sport = 0; dport = 0 }

abbrev pub classes_of : List Pred → List Packet
classes_of preds = classes all_fields zero_packet preds
