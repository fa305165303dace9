use Rattle.std.proofs.Common.{sym}
use Rattle.merlin.proofs.trace.follow.Goals as goal

pub returns : goal.returns
returns g c = rw (sym c.new-tracer.ensures.net, sym c.new-tracer.ensures.config, sym c.new-tracer.ensures.apply) c.trace-trace.ensures
