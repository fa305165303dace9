use Rattle.std.proofs.Common.{arith}
use Rattle.topology_rules.proofs.Sharing.{one_host_more, no_host_more}
use Rattle.topology_rules.proofs.counts.host_count.Goals as goal
use Rattle.topology_rules.proofs.counts.host_count.Goals.{in-Host, in_default}

pub loop-location-preserved : goal.loop-location-preserved
loop-location-preserved c =
    let ls = c.args.locations.now in
    let i = c.loop-location.location-index in
    elim c.match-location.branch [
      | in-Host w ↦ (
          let more = one_host_more ls i c.location-item.result c.loop-location-test.true c.location-item.is w.in-Host.field-0 w.in-Host.is in
          let is = w.count-is in
          (omega (arith, more, c.loop-location.invariant.0), omega (arith, c.loop-location.invariant.1)))
      | in_default w ↦ (
          let more = no_host_more ls i c.location-item.result c.loop-location-test.true c.location-item.is w.in_default.not-Host in
          let is = w.count-is in
          (omega (arith, more, c.loop-location.invariant.0), omega (arith, c.loop-location.invariant.1)))
    ]
