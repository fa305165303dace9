use Rattle.std.proofs.Common.{arith}
use Rattle.serde_json.specs.View.{view}
use Rattle.merlin_base.specs.Lexemes.{IsMac}
use Rattle.topology_shape.specs.Format.{HasLexeme}
use Rattle.topology_shape.proofs.Told.{no_may}
use Rattle.topology_shape.proofs.settings.mac_if_there.Goals as goal

pub returns-in_err-mac_under-in-Some-clause-none : goal.returns-in_err-mac_under-in-Some-clause-none
returns-in_err-mac_under-in-Some-clause-none c = rw c.from_residual.ensures (no_may (HasLexeme IsMac) c.args.key.now (view c.args.value.now) (λ missing. grind arith) c.in_err-mac_under-in-Some.ensures.none)
