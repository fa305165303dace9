use Rattle.std.proofs.Common.{refl, sym, subst}
use Rattle.config_lines.specs.Lines.{host_line, IsHostLine}
use Rattle.config_read.proofs.Taking.{TakesSome, none_taken, one_more, all_taken, shorter}
use Rattle.config_read.proofs.sections.read_hosts.Goals as goal

pub hosts-init : goal.hosts-init
hosts-init c = subst (λ vs. TakesSome (host_line c.args.net.now) (IsHostLine c.args.net.now) c.args.text.now vs c.args.text.now) (sym c.requires) (none_taken (host_line c.args.net.now) (IsHostLine c.args.net.now) c.args.text.now)

pub returns-in_default : goal.returns-in_default
returns-in_default c = all_taken (host_line c.args.net.now) (IsHostLine c.args.net.now) c.args.text.now c.hosts.hosts c.hosts.rest.now c.hosts.invariant c.in_default.ensures.none

pub hosts-preserved : goal.hosts-preserved
hosts-preserved c =
    subst (λ vs. TakesSome (host_line c.args.net.now) (IsHostLine c.args.net.now) c.args.text.now vs c.in-Some.more.now) (sym c.in_ok-push.ensures.ok)
    (one_more (host_line c.args.net.now) (IsHostLine c.args.net.now) c.args.text.now c.hosts.hosts c.hosts.rest.now c.in-Some.host c.in-Some.more.now c.hosts.invariant c.in-Some.ensures.some.0 c.in-Some.ensures.some.1)

pub hosts-smaller : goal.hosts-smaller
hosts-smaller c = shorter c.hosts.rest.now (host_line c.args.net.now c.in-Some.host) c.in-Some.more.now 104 _ c.in-Some.ensures.some.0 refl
