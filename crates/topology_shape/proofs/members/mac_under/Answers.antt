use Rattle.serde_json.specs.View.{view}
use Rattle.merlin_base.specs.Lexemes.{IsMac}
use Rattle.topology_shape.proofs.Told.{none_lexeme}
use Rattle.topology_shape.proofs.members.mac_under.Goals as goal

pub returns-clause-none : goal.returns-clause-none
returns-clause-none c = none_lexeme IsMac c.args.key.now (view c.args.value.now) c.in_ok-text_under.field-0.now c.as_bytes.result.now c.in_ok-text_under.ensures.some c.as_bytes.ensures.value c.mac_value.result c.mac_value.ensures.none
