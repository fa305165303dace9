use Rattle.topology_shape.specs.Described.{described_by}
use Rattle.topology_rules.proofs.reader.read.Goals as goal

pub ask_rules-requires : goal.ask_rules-requires
ask_rules-requires c = c.one_shape.ensures.forms c.args.bytes.now (described_by c.in_ok-shape.shape) c.in_ok-shape.ensures.ok
