use Rattle.std.proofs.Common.{sym}
use Rattle.serde_json.specs.View.{view}
use Rattle.topology_shape.proofs.Told.{no_set}
use Rattle.topology_shape.proofs.settings.set_of.Goals as goal

pub returns-in-None-clause-none : goal.returns-in-None-clause-none
returns-in-None-clause-none c = no_set (view c.args.value.now) (view c.in-Some.object.now) (sym c.in-Some.ensures) c.in-None.ensures.none
