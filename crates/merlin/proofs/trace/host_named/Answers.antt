use Rattle.std.proofs.Common.{sym, ◌∙◌}
use Rattle.merlin.proofs.Tracing.{no_host}
use Rattle.merlin.proofs.trace.host_named.Goals as goal

pub returns-in-None-clause-none : goal.returns-in-None-clause-none
returns-in-None-clause-none c =
    no_host c.args.net.now c.args.name.now c.in_ok-loc.loc c.locations-locations.ensures.lawful.lawful c.in_ok-loc.ensures.some (sym c.host.ensures ∙ c.in-None.is)
