use Rattle.packet_model.proofs.Values.{in_range}
use Rattle.packet_model.proofs.reading.read_field.Goals as goal

pub with-read-requires : goal.with-read-requires
with-read-requires c = in_range _ _ _ c.in_ok-value.ensures.value
