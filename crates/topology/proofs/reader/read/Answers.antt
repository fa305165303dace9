use Rattle.topology_shape.specs.Described.{described_by}
use Rattle.topology.proofs.Within.{is_topology_network}
use Rattle.topology.proofs.reader.read.Goals as goal

pub new-requires : goal.new-requires
new-requires c =
    let net = described_by c.in_ok-shape.shape in
    let is = c.in_ok-shape.ensures.ok in
    is_topology_network net is.1 (c.one_network.ensures.lawful c.args.bytes.now net is) (c.one_network.ensures.forms c.args.bytes.now net is)
