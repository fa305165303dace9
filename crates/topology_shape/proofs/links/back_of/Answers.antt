use Rattle.std.proofs.Common.{arith}
use Rattle.serde_json.specs.View.{view}
use Rattle.topology_shape.proofs.Told.{no_back}
use Rattle.topology_shape.proofs.links.back_of.Goals as goal

pub returns-in-Some-clause-none : goal.returns-in-Some-clause-none
returns-in-Some-clause-none c = no_back (view c.args.value.now) c.capacity_under.result (λ missing. grind arith) c.capacity_under.ensures.none
