-- The network that a shape describes, which need not keep the rules of networks.
use Rattle.merlin_model.specs.Networks.{Network}
use Rattle.topology_shape.specs.declared.reader.Shape.{Shape}

abbrev pub described_by : Shape → Network
described_by shape = record { locations = shape.named; links = shape.links.items; functions = shape.functions.items }
