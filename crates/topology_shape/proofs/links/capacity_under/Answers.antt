use Rattle.std.proofs.Common.{arith}
use Rattle.serde_json.specs.View.{view}
use Rattle.merlin_base.specs.Lexemes.{IsRate}
use Rattle.topology_shape.proofs.Told.{no_lexeme, one_lexeme}
use Rattle.topology_shape.proofs.Lexemes.{rate_one}
use Rattle.topology_shape.proofs.links.capacity_under.Goals as goal

pub returns-in_err-capacity-clause-none : goal.returns-in_err-capacity-clause-none
returns-in_err-capacity-clause-none c = rw c.from_residual-in_err-capacity.ensures (λ capacity has. no_lexeme IsRate c.args.key.now (view c.args.value.now) c.in_ok-text_under.field-0.now c.as_bytes.result.now c.in_ok-text_under.ensures.some c.as_bytes.ensures.value c.in_err-capacity.ensures.none capacity has.0)

pub returns-in-0-clause-none : goal.returns-in-0-clause-none
returns-in-0-clause-none c = λ capacity has. omega (arith, has.1, c.in-0.is, one_lexeme IsRate rate_one c.args.key.now (view c.args.value.now) c.in_ok-text_under.field-0.now c.as_bytes.result.now c.in_ok-capacity.capacity c.in_ok-text_under.ensures.some c.as_bytes.ensures.value c.in_ok-capacity.ensures.value capacity has.0)
