use Rattle.serde_json.specs.View.{view}
use Rattle.topology_shape.proofs.SetKeys.{only_set_keys, are_set_keys}
use Rattle.topology_shape.proofs.settings.has_only_set_keys.Goals as goal

pub returns-in-Some : goal.returns-in-Some
returns-in-Some c = (
  λ t. only_set_keys (view c.args.value.now) c.in-Some.members.now.entries c.in-Some.ensures (c.are_set_keys.ensures.0 t),
  λ has. c.are_set_keys.ensures.1 (are_set_keys (view c.args.value.now) c.in-Some.members.now.entries c.in-Some.ensures has),
)
