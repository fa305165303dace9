use Rattle.std.proofs.Common.{◌∷◌, ◌++◌}
use Rattle.std.specs.Fmt.{decimal}
use Rattle.config_lines.proofs.Then.{behind_word, within_double}
use Rattle.config_lines.proofs.hosts.port_then.Goals as goal

pub returns-in_err-port-clause-none : goal.returns-in_err-port-clause-none
returns-in_err-port-clause-none c =
    rw c.from_residual.ensures (λ n rest is e. c.in_err-port.ensures.none n rest (within_double n is) (behind_word c.args.name.now c.args.text.now c.in-Some.rest.now (decimal n ++ 32 ∷ rest) c.in-Some.ensures.some e))
