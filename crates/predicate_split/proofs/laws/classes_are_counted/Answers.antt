use Rattle.packet_model.specs.Texts.{all_fields}
use Rattle.predicate_split.specs.Classes.{zero_packet}
use Rattle.predicate_split.specs.Refusals.{classes_in}
use Rattle.predicate_split.proofs.Represented.{class-count}
use Rattle.predicate_split.proofs.laws.classes_are_counted.Goals as goal

pub returns : goal.returns
unfolding classes_in
returns c preds = class-count all_fields zero_packet preds
