use Rattle.std.proofs.Common.{sym, subst}
use Rattle.config_lines.specs.Words.{IsLocation}
use Rattle.config_lines.proofs.HostParts.{start, after_host, line_is}
use Rattle.config_lines.proofs.hosts.read_host.Goals as goal

pub returns-in_err-line-clause-none : goal.returns-in_err-line-clause-none
returns-in_err-line-clause-none c =
    rw c.from_residual-in_err-line.ensures (λ h more is e.
    let a = start c.args.net.now c.args.text.now c.in_ok-rest.rest.now more h c.in_ok-rest.ensures.some e in
    c.in_err-line.ensures.none h more is.numbers (after_host c.args.net.now c.in_ok-rest.rest.now c.in_ok-host.rest.now more c.in_ok-host.host h c.in_ok-host.ensures.some.0 c.in_ok-host.ensures.some.1 is a))

pub returns-clause-some : goal.returns-clause-some
returns-clause-some c = (
  line_is c.args.net.now c.args.text.now c.in_ok-rest.rest.now c.in_ok-host.rest.now c.in_ok-line.rest.now c.in_ok-host.host c.in_ok-line.line c.in_ok-rest.ensures.some c.in_ok-host.ensures.some.0 c.in_ok-line.ensures.some.0 c.in_ok-line.ensures.some.2,
  record { loc = subst (IsLocation c.args.net.now) (sym c.in_ok-line.ensures.some.2) c.in_ok-host.ensures.some.1; numbers = c.in_ok-line.ensures.some.1 },
)
