use Rattle.std.proofs.Common.{arith}
use Rattle.predicate_split.proofs.Stretching.{port-range, range-port}
use Rattle.predicate_split.proofs.grids.value_with.Goals as goal

pub with-packet-requires : goal.with-packet-requires
with-packet-requires c = port-range c.args.field c.from.result c.requires (omega (arith, c.from.ensures, c.ranges.port.fits))

pub returns-clause-few : goal.returns-clause-few
returns-clause-few c = range-port c.args.field c.value.result c.requires c.value.ensures.range
