use Rattle.std.proofs.Common.{◌≡◌, length, subst, arith}
use Rattle.packet_trace.specs.Fitting.{frame, IsBestBelow}
use Rattle.packet_trace.proofs.Best.{acts_of_all}
use Rattle.packet_trace.proofs.fitting.fitting_rule.Goals as goal

pub returns-clause-some : goal.returns-clause-some
returns-clause-some c =
    let same : c.loop-place.place ≡ length c.args.rules.now = omega arith in
    let all = subst (λ n. IsBestBelow c.args.rules.now (frame c.args.loc c.args.port c.args.tag c.args.packet.now) n c.loop-place.best) same c.loop-place.invariant in
    acts_of_all c.args.rules.now (frame c.args.loc c.args.port c.args.tag c.args.packet.now) (c.in_ok-place.place, c.in_ok-place.field-0-1)
    (subst (IsBestBelow c.args.rules.now (frame c.args.loc c.args.port c.args.tag c.args.packet.now) (length c.args.rules.now)) c.in_ok-place.was all)
