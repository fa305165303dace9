use Rattle.std.proofs.Common.{subst}
use Rattle.packet_model.specs.Texts.{IsPacketText}
use Rattle.merlin.specs.Trace.{IsHostNamed}
use Rattle.merlin.proofs.Tracing.{IfOk-from_run}
use Rattle.merlin.proofs.trace.reply_over_result.Goals as goal

pub returns-in-At : goal.returns-in-At
returns-in-At g c = λ topology bytes texts.
    IfOk-from_run _ _ topology bytes c.args.net.now c.args.read.now c.in-At.host c.in-At.packet c.reply_from.result texts
    (subst (λ t. IsHostNamed c.args.net.now t c.in-At.host) c.as_bytes.ensures.value c.in-At.ensures.0)
    (subst (λ t. IsPacketText t c.in-At.packet) c.as_bytes-2.ensures.value c.in-At.ensures.1) c.reply_from.ensures
