use Rattle.std.proofs.Common.{refl, arith}
use Rattle.merlin_model.proofs.Members.{in_to}
use Rattle.packet_model.specs.Texts.{all_fields}
use Rattle.predicate_split.specs.Classes.{zero_packet, classes_of}
use Rattle.predicate_split.proofs.Starting.{zero-open, preds-start}
use Rattle.predicate_split.proofs.Represented.{has_class}
use Rattle.predicate_split.proofs.Properties.{up_to-packet}
use Rattle.predicate_split.proofs.laws.classes_judge_alike.Goals as goal

pub returns : goal.returns
returns c preds p well packet =
    let h = has_class all_fields (0, omega arith, refl) zero_packet p preds (preds-start 0 preds well) zero-open packet in
    (h.class, in_to (classes_of preds) h.class h.is_class, up_to-packet h.class p h.up_to, h.alike)
