use Rattle.config_lines.proofs.HostTexts.{no_target, no_class}
use Rattle.config_lines.proofs.hosts.read_target.Goals as goal

pub returns-in_err-rest-clause-none : goal.returns-in_err-rest-clause-none
returns-in_err-rest-clause-none c = rw c.from_residual.ensures (no_target c.args.text.now c.in_default.ensures.none c.in_err-rest.ensures.none)

pub returns-in_err-class-clause-none : goal.returns-in_err-class-clause-none
returns-in_err-class-clause-none c = rw c.from_residual-in_err-class.ensures (no_class c.args.text.now c.in_ok-rest.rest.now c.in_ok-rest.ensures.some c.in_err-class.ensures.none)
