use Rattle.std.proofs.Common.{◌≡◌, ◌≤◌, ◌+◌, length}
use Rattle.merlin_model.specs.Words.{crossings}
use Rattle.queue_and_tc.proofs.links.crossings.Given as goal

abbrev pub invariant-steps : goal.invariant-steps
invariant-steps l = record {
  same : l.count + crossings l.rest l.from l.to ≡ crossings l.walk l.from l.to;
  few : l.count + length l.rest ≤ length l.walk;
}

abbrev pub decreases-steps : goal.decreases-steps
decreases-steps l = length l.rest
