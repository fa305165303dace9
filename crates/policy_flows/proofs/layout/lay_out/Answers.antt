use Rattle.std.proofs.Common.{length, ap, arith}
use Rattle.policy_flows.proofs.Added.{count-flows}
use Rattle.policy_flows.proofs.layout.lay_out.Goals as goal

pub ask_weights-requires : goal.ask_weights-requires
ask_weights-requires c =
    let s = ap length c.as_slice-4.ensures in
    let f = ap length c.in_ok-flows.flows-is in
    let n = count-flows _ _ _ _ _ c.in_ok-flows.ensures.ok.are in
    omega (arith, s, f, n)
