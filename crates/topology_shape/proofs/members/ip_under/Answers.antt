use Rattle.serde_json.specs.View.{view}
use Rattle.merlin_base.specs.Lexemes.{IsIp}
use Rattle.topology_shape.proofs.Told.{none_lexeme}
use Rattle.topology_shape.proofs.members.ip_under.Goals as goal

pub returns-clause-none : goal.returns-clause-none
returns-clause-none c = none_lexeme IsIp c.args.key.now (view c.args.value.now) c.in_ok-text_under.field-0.now c.as_bytes.result.now c.in_ok-text_under.ensures.some c.as_bytes.ensures.value c.ip_value.result c.ip_value.ensures.none
